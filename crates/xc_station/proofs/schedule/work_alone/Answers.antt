use Rattle.std.proofs.Common.{ℕ, ◌<◌, ◌-◌, ◌∙◌, ap, sym, subst, arith}
use Rattle.xc_model.specs.Alone.{AreAlone}
use Rattle.xc_model.specs.Moment.{Moment}
use Rattle.xc_station.specs.Stations.{live_at}
use Rattle.xc_model.specs.Live.{IsScripted}
use Rattle.xc_station.specs.declared.run_result.Opening.{Opening}
use Rattle.xc_station.proofs.Runs.{goes_further, next_alone, next_ended, next_goes, next_others, nobody_left, none_above}
use Rattle.xc_station.proofs.schedule.work_alone.Goals as goal

pub loop-job-preserved : goal.loop-job-preserved
loop-job-preserved g c =
    let model = g.H.Host.model in
    let job = c.in-Some.job in
    let old = c.loop-job.station in
    let taking = c.next_job.new.self in
    let new = c.work_job.new.station in
    let was = c.loop-job.invariant in
    let next = c.in-Some.ensures in
    let works = c.work_job.ensures.works in
    record {
      goes = goes_further c.args.station.now old new was.goes
          (next_goes model job old taking new next.jobs next.first.1 next.same.2 next.first.0 works next.same.0 next.same.1 c.work_job.ensures.goes);
      scripted = subst (λ (o : Opening). IsScripted o.script) (sym (c.work_job.ensures.goes.origin.opening ∙ next.same.0)) was.scripted;
      rises = (let above = next.first.0.above in let taken = works.taken in let is = next.first.1 in let low = was.rises in
          omega (arith, above, taken, is, low));
      ended = next_ended model job old taking new next.jobs next.first.1 next.same.2 next.first.0 works c.args.station.now.taken
          c.work_job.ensures.ended was.ended;
      others = λ other most.
          next_others model job old taking new next.jobs next.first.1 next.same.2 next.first.0 works c.args.station.now.taken was.rises other most
          ∙ was.others other most;
      alone = λ first alone.
          next_alone model job old taking new next.jobs next.first.1 next.same.2 next.first.0 works
          (subst (λ (o : Opening). IsScripted o.script) (sym next.same.0) was.scripted)
          (λ other low most. was.ended other (subst (λ n. n < other) (sym first) low) most) (was.alone first alone);
    }

pub returns-clause-alone : goal.returns-clause-alone
returns-clause-alone g c = λ first alone.
    let at : ℕ = c.loop-job.station.taken - 1 in
    (at, subst (λ (now : Moment). AreAlone now at) (sym c.next_job.ensures.same.2) (c.loop-job.invariant.alone first alone))

pub returns-clause-done : goal.returns-clause-done
returns-clause-done g c number more =
    let was = c.loop-job.invariant in
    ap (λ js. live_at js number) c.in_default.ensures.jobs
    ∙ none_above c.loop-job.station.jobs c.args.station.now.taken c.loop-job.station.taken was.ended c.in_default.ensures.first number more

pub returns-clause-others : goal.returns-clause-others
returns-clause-others g c number most = ap (λ js. live_at js number) c.in_default.ensures.jobs ∙ c.loop-job.invariant.others number most

pub returns-clause-ended : goal.returns-clause-ended
returns-clause-ended g c first number =
    let was = c.loop-job.invariant in
    let jobs = c.loop-job.station.jobs in
    ap (λ js. live_at js number) c.in_default.ensures.jobs
    ∙ nobody_left jobs (λ other some. none_above jobs c.args.station.now.taken c.loop-job.station.taken was.ended c.in_default.ensures.first other
    (subst (λ n. n < other) (sym first) some)) number
