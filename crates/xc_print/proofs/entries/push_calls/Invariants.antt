use Rattle.std.proofs.Common.{◌≡◌, ◌++◌, drop}
use Rattle.xc_print.specs.Entries.{call_lines}
use Rattle.xc_print.proofs.entries.push_calls.Given as goal

-- what is printed and what is left are all
abbrev pub invariant-loop-at : goal.invariant-loop-at
invariant-loop-at g l = g.P.Paper.said l.out ++ call_lines (drop l.at l.calls) (drop l.at l.replies) ≡ g.P.Paper.said l.fn.out ++ call_lines l.calls l.replies
