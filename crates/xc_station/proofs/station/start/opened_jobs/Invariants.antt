use Rattle.std.proofs.Common.{◌≡◌, [], take, map, All}
use Rattle.xc_model.specs.Opened.{opened_job}
use Rattle.xc_station.specs.declared.job.Job.{Job}
use Rattle.xc_station.specs.Jobs.{job_view}
use Rattle.xc_station.proofs.station.start.opened_jobs.Given as goal

-- the jobs of the blocks so far are opened, and have started none
abbrev pub invariant-loop-block : goal.invariant-loop-block
invariant-loop-block l = record {
  opened : map job_view l.jobs.items ≡ map (opened_job l.script) (take l.block-index l.script.outline.jobs);
  alone : All (λ (job : Job). job.children.items ≡ []) l.jobs.items;
}
