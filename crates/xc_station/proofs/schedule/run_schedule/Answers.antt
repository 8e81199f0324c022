use Rattle.std.proofs.Common.{◌≡◌, ◌+◌, ◌-◌, ℕ, Some, arith, ap, ◌∙◌}
use Rattle.std.specs.Prelude.{slice_index}
use Rattle.xc_data.specs.declared.entry.Event.TheVariants.{Turned}
use Rattle.xc_station.proofs.Runs.{counts_further, front_further, origin_further, taken_next, tried_steps}
use Rattle.xc_station.proofs.schedule.run_schedule.Goals as goal

pub loop-job-preserved : goal.loop-job-preserved
loop-job-preserved g c =
    let model = g.H.Host.model in
    let was = c.loop-job.invariant in
    let old = c.args.station.now in
    let mid = c.loop-job.station in
    let new = c.try_turn-answer.new.self in
    let answer = c.try_turn-answer.result in
    let event = c.try_turn-answer.ensures.event in
    let k = c.loop-job.job-index in
    let job = slice_index c.args.jobs.now k in
    let this : k ≡ k + 1 - 1 = omega arith in
    record {
      origin = origin_further old mid new (Turned job answer) was.origin event;
      front = front_further old mid new (Turned job answer) was.front event;
      rest = λ end h. was.rest end
          (taken_next model c.args.jobs.now k (k + 1) mid new end (omega arith) c.loop-job-test.true
          (tried_steps model job mid new _ answer c.try_turn-answer.ensures.tried) h);
      count = counts_further old.events mid.events new.events k was.count event.count;
      last = λ some. (answer, event.last ∙ ap (λ (n : ℕ). Some (Turned (slice_index c.args.jobs.now n) answer)) this);
    }
