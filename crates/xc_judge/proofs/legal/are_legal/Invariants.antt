use Rattle.std.proofs.Common.{◌≡◌, ◌+◌, length}
use Rattle.xc_world.specs.Ends.{AreLegal}
use Rattle.xc_judge.proofs.legal.are_legal.Given as goal

-- what is left decides
abbrev pub invariant-loop-records : goal.invariant-loop-records
invariant-loop-records l =
    record {
      to : AreLegal l.tries 1 l.initial.records → AreLegal l.tries l.from l.records;
      from_left : AreLegal l.tries l.from l.records → AreLegal l.tries 1 l.initial.records;
      count : l.from + length l.records ≡ 1 + length l.initial.records;
    }

abbrev pub decreases-loop-records : goal.decreases-loop-records
decreases-loop-records l = length l.records
