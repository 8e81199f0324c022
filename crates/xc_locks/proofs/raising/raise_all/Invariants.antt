use Rattle.std.proofs.Common.{drop}
use Rattle.xc_locks.proofs.Claimed.{Raising}
use Rattle.xc_locks.proofs.raising.raise_all.Given as goal

-- the claims that are left make of these modes what all make of the first ones
abbrev pub invariant-loop-claim : goal.invariant-loop-claim
invariant-loop-claim g l = Raising l.tx l.fn.holders l.holders l.claims (drop l.claim-index l.claims)
