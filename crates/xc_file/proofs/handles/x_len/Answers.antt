use Rattle.std.proofs.Common.{refl, ap, sym, ◌∙◌}
use Rattle.std.specs.Prelude.{is_some, Ok}
use Rattle.xc_data.specs.declared.call.Call.TheVariants.{XLen}
use Rattle.xc_calls.proofs.Laws.{refused_call, replied_call, none_grow}
use Rattle.xc_file.proofs.FileCalls.{at_handle}
use Rattle.xc_file.proofs.Refusals.{by_kind}
use Rattle.xc_file.proofs.handles.x_len.Goals as goal

pub returns-in_default-clause-call : goal.returns-in_default-clause-call
returns-in_default-clause-call g c = λ number undo. refused_call g.H.Host.model _
    (record { host = c.args.host.now; number = number; me = c.args.me.now; undo = undo }) _
    (ap by_kind (sym c.file_at.ensures.kind ∙ ap is_some c.in_default.is)) (λ w n. refl)

pub returns-clause-call : goal.returns-clause-call
returns-clause-call g c =
    let next = c.len_of.ensures in
    λ number undo. at_handle g.H.Host.model XLen _ _ (record { host = c.args.host.now; number = number; me = c.args.me.now; undo = undo }) _ _
    c.in-Some.ensures.open.0 (ap by_kind (sym c.file_at.ensures.kind ∙ ap is_some c.in-Some.is))
    (λ free. replied_call g.H.Host.model _ _ _ c.len_of.result free (next.passes number undo)
    (none_grow g.H.Host.model _ _ _ (Ok c.len_of.result) refl (λ r. refl) (λ r w. refl)))
