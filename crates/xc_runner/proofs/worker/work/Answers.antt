use Rattle.std.proofs.Common.{ap}
use Rattle.xc_runner.specs.Walks.{over, picked, turning}
use Rattle.xc_turnstile.proofs.Laws.{pass_goes_further}
use Rattle.xc_runner.proofs.Stories.{finds_none, leads_further, leads_pick}
use Rattle.xc_runner.proofs.worker.work.Goals as goal

pub returns-in_default-clause-story : goal.returns-in_default-clause-story
returns-in_default-clause-story g c =
    leads_further _ _ _ _ _ _ c.loop.invariant.story
    (leads_pick c.pick-back.result.1 over _ _ c.pick-back.ensures.gains (ap picked c.in_default.is))

pub returns-in_default-clause-end : goal.returns-in_default-clause-end
returns-in_default-clause-end g c =
    finds_none _ _
    (leads_further _ _ _ _ _ _ c.loop.invariant.story (leads_pick c.pick-back.result.1 over _ _ c.pick-back.ensures.gains (ap picked c.in_default.is)))

pub loop-preserved : goal.loop-preserved
loop-preserved g c =
    record {
      runs = (tt, tt);
      goes = pass_goes_further _ _ _ c.loop.invariant.goes (pass_goes_further _ _ _ c.pick-back.ensures.gains.gains.goes c.work_job-mine.ensures.goes);
      story = leads_further _ _ _ _ _ _ c.loop.invariant.story
          (leads_further _ _ _ _ _ _
          (leads_pick c.pick-back.result.1 (turning c.in-Some-job.job) _ _ c.pick-back.ensures.gains (ap picked c.in-Some-job.is))
          c.work_job-mine.ensures.story);
    }
