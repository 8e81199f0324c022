use Rattle.std.proofs.Common.{subst, suc, sym}
use Rattle.xc_model.specs.Live.{IsScripted}
use Rattle.xc_station.specs.declared.run_result.Opening.{Opening}
use Rattle.xc_station.proofs.Runs.{goes_further}
use Rattle.xc_station.proofs.schedule.drain.Goals as goal

pub loop-preserved : goal.loop-preserved
loop-preserved g c =
    let was = c.loop.invariant in
    record {
      goes = goes_further c.args.station.now c.loop.station c.round.new.station was.goes c.round.ensures.goes;
      scripted = subst (λ (o : Opening). IsScripted o.script) (sym c.round.ensures.goes.origin.opening) was.scripted;
      rounds = (suc was.rounds.0, (c.loop.station, was.rounds.1, c.round.ensures.round));
    }

pub returns-clause-rounds : goal.returns-clause-rounds
returns-clause-rounds g c =
    let was = c.loop.invariant.rounds in
    (suc was.0, (c.loop.station, was.1, c.round.ensures.round))
