use Rattle.std.proofs.Common.{◌≡◌, ◌+◌, length}
use Rattle.xc_tail.specs.JobLines.{behind_jobs}
use Rattle.xc_tail.proofs.jobs.behind_jobs.Given as goal

-- what is left decides
abbrev pub invariant-loop-jobs : goal.invariant-loop-jobs
invariant-loop-jobs l =
    record {
      same : behind_jobs l.rules l.entries l.number l.jobs l.lines ≡ behind_jobs l.rules l.entries 1 l.initial.jobs l.initial.lines;
      counted : l.number + length l.jobs ≡ 1 + length l.initial.jobs;
    }

abbrev pub decreases-loop-jobs : goal.decreases-loop-jobs
decreases-loop-jobs l = length l.jobs
