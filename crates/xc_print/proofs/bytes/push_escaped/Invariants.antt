use Rattle.std.proofs.Common.{◌≡◌, ◌++◌, length}
use Rattle.xc_print.specs.Bytes.{escaped}
use Rattle.xc_print.proofs.bytes.push_escaped.Given as goal

-- what is printed and what is left are all
abbrev pub invariant-runs : goal.invariant-runs
invariant-runs g l = g.P.Paper.said l.out ++ escaped l.left ≡ g.P.Paper.said l.fn.out ++ escaped l.bytes

abbrev pub decreases-runs : goal.decreases-runs
decreases-runs g l = length l.left
