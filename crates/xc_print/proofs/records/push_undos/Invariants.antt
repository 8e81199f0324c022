use Rattle.std.proofs.Common.{◌≡◌, ◌++◌, ◌+◌, drop}
use Rattle.xc_print.specs.Records.{undo_lines}
use Rattle.xc_print.proofs.records.push_undos.Given as goal

-- the records from this place on are printed
abbrev pub invariant-loop-at : goal.invariant-loop-at
invariant-loop-at g l = g.P.Paper.said l.out ≡ g.P.Paper.said l.fn.out ++ undo_lines (l.at + 1) (drop l.at l.records)
