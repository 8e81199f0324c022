use Rattle.std.proofs.Common.{◌≡◌, ◌++◌, ◌+◌, drop}
use Rattle.xc_print.specs.Entries.{late_lines}
use Rattle.xc_print.proofs.entries.push_lates.Given as goal

-- what is printed and what is left are all
abbrev pub invariant-loop-at : goal.invariant-loop-at
invariant-loop-at g l = g.P.Paper.said l.out ++ late_lines (l.at + 1) (drop l.at l.ends) ≡ g.P.Paper.said l.fn.out ++ late_lines 1 l.ends
