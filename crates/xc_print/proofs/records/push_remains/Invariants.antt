use Rattle.std.proofs.Common.{◌≡◌, ◌++◌, drop}
use Rattle.xc_print.specs.Records.{remains_lines}
use Rattle.xc_print.proofs.records.push_remains.Given as goal

-- what is printed and what is left are all
abbrev pub invariant-loop-undo : goal.invariant-loop-undo
invariant-loop-undo g l = g.P.Paper.said l.out ++ remains_lines (drop l.undo-index l.records) ≡ g.P.Paper.said l.fn.out ++ remains_lines l.records
