use Rattle.std.proofs.Common.{length}
use Rattle.std.specs.List.{AllByRecursion}
use Rattle.xc_lines.specs.Ranges.{IsLateEndInRange}
use Rattle.xc_ranges.proofs.calls.late_ends.Given as goal

-- where what is left is within its ranges, all is
abbrev pub invariant-loop-rest : goal.invariant-loop-rest
invariant-loop-rest l = AllByRecursion IsLateEndInRange l.rest → AllByRecursion IsLateEndInRange l.all

abbrev pub decreases-loop-rest : goal.decreases-loop-rest
decreases-loop-rest l = length l.rest
