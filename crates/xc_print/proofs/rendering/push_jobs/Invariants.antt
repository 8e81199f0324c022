use Rattle.std.proofs.Common.{◌≡◌, ◌++◌, ◌+◌, drop}
use Rattle.xc_print.specs.Text.{job_lines}
use Rattle.xc_print.proofs.rendering.push_jobs.Given as goal

-- what is printed and what is left are all
abbrev pub invariant-loop-at : goal.invariant-loop-at
invariant-loop-at g l = g.P.Paper.said l.out ++ job_lines (l.at + 1) (drop l.at l.jobs) ≡ g.P.Paper.said l.fn.out ++ job_lines 1 l.jobs
