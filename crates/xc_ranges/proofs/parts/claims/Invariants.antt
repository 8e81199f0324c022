use Rattle.std.proofs.Common.{length}
use Rattle.xc_lines.specs.Ranges.{AreClaimsInRange}
use Rattle.xc_ranges.proofs.parts.claims.Given as goal

-- where what is left is within its ranges, all is
abbrev pub invariant-loop-rest : goal.invariant-loop-rest
invariant-loop-rest l = AreClaimsInRange l.rest → AreClaimsInRange l.all

abbrev pub decreases-loop-rest : goal.decreases-loop-rest
decreases-loop-rest l = length l.rest
