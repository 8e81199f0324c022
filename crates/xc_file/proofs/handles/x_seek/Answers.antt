use Rattle.std.proofs.Common.{ap, arith, sym, refl, ◌∙◌}
use Rattle.std.specs.Prelude.{is_some}
use Rattle.xc_data.specs.Private.{place_of}
use Rattle.xc_calls.proofs.Laws.{refused_call}
use Rattle.xc_file.proofs.Refusals.{by_kind}
use Rattle.xc_file.proofs.SeekCalls.{far_seek, near_seek}
use Rattle.xc_file.proofs.handles.x_seek.Goals as goal

pub returns-in_default-clause-call : goal.returns-in_default-clause-call
returns-in_default-clause-call g c = λ number undo. refused_call g.H.Host.model _
    (record { host = c.args.host.now; number = number; me = c.args.me.now; undo = undo }) _
    (ap by_kind (sym c.file_at.ensures.kind ∙ ap is_some c.in_default.is)) (λ w n. refl)

pub returns-then-to-most_file_bytes-clause-call : goal.returns-then-to-most_file_bytes-clause-call
returns-then-to-most_file_bytes-clause-call g c =
    let there = c.in-Some.ensures.open in
    λ number undo. far_seek g.H.Host.model (record { host = c.args.host.now; number = number; me = c.args.me.now; undo = undo }) _ _ _ _
    (ap (place_of c.args.me.now.places) (sym there.0) ∙ there.1.place)
    (λ t. omega (arith, c.most_file_bytes.ensures.told t, c.if-to-most_file_bytes.true))

pub returns-clause-call : goal.returns-clause-call
returns-clause-call g c =
    let there = c.in-Some.ensures.open in
    λ number undo. near_seek g.H.Host.model (record { host = c.args.host.now; number = number; me = c.args.me.now; undo = undo }) _ _ _ _ _
    (ap (place_of c.args.me.now.places) (sym there.0) ∙ there.1.place) c.set_place.ensures
    (λ t. omega (arith, c.most_file_bytes.ensures.told t, c.if-to-most_file_bytes.false))
