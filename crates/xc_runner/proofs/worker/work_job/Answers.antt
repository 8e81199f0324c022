use Rattle.std.proofs.Common.{true, false, sym, ◌∙◌}
use Rattle.xc_turnstile.proofs.Laws.{pass_goes_further}
use Rattle.xc_runner.proofs.Stories.{leads_further, leads_turn}
use Rattle.xc_runner.proofs.worker.work_job.Goals as goal

pub returns-then-ends-clause-story : goal.returns-then-ends-clause-story
returns-then-ends-clause-story g c =
    leads_further _ _ _ _ _ _ c.loop.invariant.story
    (leads_turn c.args.job c.turn-back.result.1 true _ _ c.turn-back.ensures (sym c.if-ends.true ∙ c.ends.ensures))

pub loop-preserved : goal.loop-preserved
loop-preserved g c =
    record {
      runs = (tt, tt);
      goes = pass_goes_further _ _ _ c.loop.invariant.goes c.turn-back.ensures.gains.goes;
      story = leads_further _ _ _ _ _ _ c.loop.invariant.story
          (leads_turn c.args.job c.turn-back.result.1 false _ _ c.turn-back.ensures (sym c.if-ends.false ∙ c.ends.ensures));
    }
