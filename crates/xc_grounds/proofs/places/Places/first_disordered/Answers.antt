use Rattle.std.proofs.Common.{length, subst, arith}
use Rattle.std.proofs.lemmas.List.{take_all}
use Rattle.xc_grounds.specs.Numbered.{AreInOrder}
use Rattle.xc_grounds.proofs.places.Places.first_disordered.Goals as goal

pub returns-then-are_in_order : goal.returns-then-are_in_order
returns-then-are_in_order c =
    let begins = c.args.begins.now in
    subst AreInOrder (take_all (length begins) begins (omega arith)) (c.are_in_order.ensures.0 c.if-are_in_order.true)
