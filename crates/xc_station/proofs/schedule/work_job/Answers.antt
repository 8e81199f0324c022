use Rattle.std.proofs.Common.{subst, sym}
use Rattle.xc_model.specs.Live.{IsScripted}
use Rattle.xc_station.specs.declared.run_result.Opening.{Opening}
use Rattle.xc_station.proofs.Runs.{goes_further, works_further}
use Rattle.xc_station.proofs.schedule.work_job.Goals as goal

pub loop-preserved : goal.loop-preserved
loop-preserved g c =
    record {
      goes = goes_further c.args.station.now c.loop.station c.step.new.station c.loop.invariant.goes c.step.ensures.goes;
      scripted = subst (λ (o : Opening). IsScripted o.script) (sym c.step.ensures.goes.origin.opening) c.loop.invariant.scripted;
      works = works_further g.H.Host.model c.args.job c.args.station.now c.loop.station c.step.new.station
          c.loop.invariant.scripted c.loop.invariant.goes.count c.loop.invariant.works c.step.ensures.works;
    }
