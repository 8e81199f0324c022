use Rattle.std.proofs.Common.{◌≡◌, take}
use Rattle.xc_judge.proofs.holding.copied.Given as goal

-- those so far
abbrev pub invariant-loop-claim : goal.invariant-loop-claim
invariant-loop-claim l = l.copy.items ≡ take l.claim-index l.held
