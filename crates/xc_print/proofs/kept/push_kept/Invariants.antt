use Rattle.std.proofs.Common.{◌≡◌, ◌++◌, drop}
use Rattle.xc_print.specs.Kept.{kept_lines}
use Rattle.xc_print.proofs.Joins.{left_lines}
use Rattle.xc_print.proofs.kept.push_kept.Given as goal

-- what is printed and what is left are all
abbrev pub invariant-loop-item : goal.invariant-loop-item
invariant-loop-item g l = g.P.Paper.said l.out ++ left_lines l.opened (drop l.item-index l.items) ≡ g.P.Paper.said l.fn.out ++ kept_lines l.items
