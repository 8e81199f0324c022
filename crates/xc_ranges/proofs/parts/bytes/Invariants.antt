use Rattle.std.proofs.Common.{length}
use Rattle.xc_lines.specs.Ranges.{AreBytes}
use Rattle.xc_ranges.proofs.parts.bytes.Given as goal

-- where what is left is within its ranges, all is
abbrev pub invariant-loop-rest : goal.invariant-loop-rest
invariant-loop-rest l = AreBytes l.rest → AreBytes l.all

abbrev pub decreases-loop-rest : goal.decreases-loop-rest
decreases-loop-rest l = length l.rest
