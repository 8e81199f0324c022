use Rattle.std.proofs.Common.{◌≡◌, List, map, take}
use Rattle.std.specs.List.{AllZip}
use Rattle.xc_model.specs.Progress.{Following}
use Rattle.xc_tail.specs.Tails.{IsToldOf}
use Rattle.xc_turns.proofs.Laws.{script_job_in, standing_in}
use Rattle.xc_check.proofs.lists.jobs_left.Given as goal

-- those of the jobs so far
abbrev pub invariant-loop-at : goal.invariant-loop-at
invariant-loop-at l =
    (told : List Following) → l.judging.progress.jobs ≡ map standing_in told → l.judging.jobs ≡ map script_job_in told
    → AllZip (IsToldOf l.script) (take l.at told) l.left.items
