use Rattle.std.proofs.Common.{true, false, ◌++◌, ◌∷◌, [], ap, sym, ◌∙◌}
use Rattle.xc_world.proofs.Laws.{held_tested}
use Rattle.xc_machine.proofs.held.hold_one.Goals as goal

pub returns-then-holds : goal.returns-then-holds
returns-then-holds c =
    c.merge.ensures
    ∙ sym (held_tested c.args.held.now.items c.as_slice.result.now c.args.claim.now true c.holds.result
    c.as_slice.ensures.value c.holds.ensures c.if-holds.true)

pub returns : goal.returns
returns c =
    c.in_ok-push.ensures.items
    ∙ ap (λ new. c.args.held.now.items ++ new ∷ []) c.again.ensures
    ∙ sym (held_tested c.args.held.now.items c.as_slice.result.now c.args.claim.now false c.holds.result
    c.as_slice.ensures.value c.holds.ensures c.if-holds.false)
