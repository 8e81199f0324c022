use Rattle.std.proofs.Common.{◌<◌, length, ap, sym, ◌∙◌, subst}
use Rattle.std.specs.Prelude.{slice_set}
use Rattle.std.proofs.lemmas.List.Edits.{map_over_more}
use Rattle.xc_data.specs.Claims.{merged}
use Rattle.xc_machine.proofs.held.merge.Goals as goal

pub loop-h-preserved : goal.loop-h-preserved
loop-h-preserved c =
    let f = merged c.args.claim.now in
    let xs = c.args.held.now.items in
    let i = c.loop-h.h-index in
    let lt = subst (λ l. i < length l) c.deref_mut-h-items.ensures.value c.loop-h-test.true in
    ap (slice_set c.loop-h.h-items i) (c.merged.ensures ∙ ap f (c.again.ensures ∙ sym c.h-item.is))
    ∙ map_over_more f xs c.loop-h.h-items i c.h-item.result lt c.loop-h.invariant c.h-item.is
