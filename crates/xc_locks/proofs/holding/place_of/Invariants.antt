use Rattle.std.proofs.Common.{◌≡◌, false, take}
use Rattle.xc_data.specs.Claims.{objects}
use Rattle.xc_locks.specs.Table.{has}
use Rattle.xc_locks.proofs.holding.place_of.Given as goal

-- none of the claims so far is on the object
abbrev pub invariant-loop-at : goal.invariant-loop-at
invariant-loop-at l = has (objects (take l.at l.held)) l.object ≡ false
