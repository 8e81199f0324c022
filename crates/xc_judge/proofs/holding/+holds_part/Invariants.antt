use Rattle.std.proofs.Common.{length}
use Rattle.xc_judge.proofs.holding.+holds_part.Given as goal

abbrev pub decreases-holds_part : goal.decreases-holds_part
decreases-holds_part l = length l.claims.now
