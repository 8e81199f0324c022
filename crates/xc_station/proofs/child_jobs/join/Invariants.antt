use Rattle.std.proofs.Common.{◌≡◌, ◌≤◌, ◌+◌, ◌++◌, [], List, vec_capacity, length, All, map}
use Rattle.xc_station.specs.declared.job.Job.{Job}
use Rattle.xc_station.specs.Jobs.{child_view, job_views}
use Rattle.xc_station.specs.Stations.{AreAhead}
use Rattle.xc_station.proofs.child_jobs.join.Given as goal

-- the children so far are live after the others, with their marks, and there is room for those that come
abbrev pub invariant-loop-child : goal.invariant-loop-child
invariant-loop-child l = record {
  live : (more : List Job) × (l.jobs.items ≡ l.initial.jobs.items ++ more) × (job_views more ≡ map child_view l.yielded)
      × All (λ (job : Job). job.children.items ≡ []) more;
  came : l.yielded ++ l.child-iterator.rest.items ≡ l.fn.children.items;
  marks : AreAhead l.jobs.items l.ahead.items;
  jobs_room : length l.jobs.items + length l.child-iterator.rest.items ≤ vec_capacity l.jobs;
  ahead_room : length l.ahead.items + length l.child-iterator.rest.items ≤ vec_capacity l.ahead;
  few : length l.jobs.items + length l.child-iterator.rest.items ≤ 1000;
  rooms : (vec_capacity l.jobs ≡ vec_capacity l.initial.jobs) × (vec_capacity l.ahead ≡ vec_capacity l.initial.ahead);
}
