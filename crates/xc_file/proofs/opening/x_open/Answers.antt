use Rattle.std.proofs.Common.{refl, ap, sym, ◌∙◌}
use Rattle.std.specs.Prelude.{is_none}
use Rattle.xc_calls.proofs.Laws.{refused_call, passed_call, none_grow, always_err, by_much}
use Rattle.xc_file.proofs.opening.x_open.Goals as goal

pub returns-in_default-clause-call : goal.returns-in_default-clause-call
returns-in_default-clause-call g c = λ number undo. refused_call g.H.Host.model _
    (record { host = c.args.host.now; number = number; me = c.args.me.now; undo = undo }) _
    (ap (λ o. by_much (is_none o)) (sym c.vacant.ensures.value ∙ c.in_default.is)) (λ w n. refl)

pub returns-clause-call : goal.returns-clause-call
returns-clause-call g c =
    let next = c.open_at.ensures in
    λ number undo. passed_call g.H.Host.model _ (record { host = c.args.host.now; number = number; me = c.args.me.now; undo = undo }) _ c.open_at.result
    (ap (λ o. by_much (is_none o)) (sym c.vacant.ensures.value ∙ c.in-Some.is)) (next.passes number undo)
    (none_grow g.H.Host.model _ _ _ c.open_at.result refl (λ r. refl) (λ r w. refl))
    (always_err _ c.open_at.result (record { undo = refl; contents = next.contents }))
