use Rattle.std.proofs.Common.{take}
use Rattle.std.specs.Prelude.{All}
use Rattle.xc_locks.specs.Met.{IsNotMet}
use Rattle.xc_locks.proofs.claims.Claims.check.Given as goal

-- none of the claims so far is met
abbrev pub invariant-loop-claim : goal.invariant-loop-claim
invariant-loop-claim l = All (IsNotMet l.self l.tx) (take l.claim-index l.claims)
