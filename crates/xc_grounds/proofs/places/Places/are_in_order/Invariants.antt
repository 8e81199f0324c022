use Rattle.std.proofs.Common.{take}
use Rattle.xc_grounds.proofs.Orders.{AreSoFar}
use Rattle.xc_grounds.proofs.places.Places.are_in_order.Given as goal

-- the smaller numbers are in order
abbrev pub invariant-loop-number : goal.invariant-loop-number
invariant-loop-number l = AreSoFar (take l.below l.begins) l.number l.latest
