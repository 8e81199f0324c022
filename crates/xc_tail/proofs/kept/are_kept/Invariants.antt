use Rattle.std.proofs.Common.{None, drop}
use Rattle.xc_tail.specs.KeptLines.{Stands}
use Rattle.xc_tail.proofs.kept.are_kept.Given as goal

-- what is left decides
abbrev pub invariant-loop-line : goal.invariant-loop-line
invariant-loop-line l =
    record {
      to : Stands l.initial.world None l.lines → Stands l.world l.before (drop l.line-index l.lines);
      from : Stands l.world l.before (drop l.line-index l.lines) → Stands l.initial.world None l.lines;
    }
