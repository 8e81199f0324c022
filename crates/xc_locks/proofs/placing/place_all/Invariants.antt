use Rattle.std.proofs.Common.{take}
use Rattle.xc_locks.specs.Placing.{IsPlaced}
use Rattle.xc_locks.proofs.placing.place_all.Given as goal

-- the claims so far have their places
abbrev pub invariant-loop-claim : goal.invariant-loop-claim
invariant-loop-claim g l = IsPlaced l.tx (take l.claim-index l.claims) l.fn.holders l.holders l.added.items
