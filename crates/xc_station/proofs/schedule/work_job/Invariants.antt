use Rattle.xc_model.specs.Live.{IsScripted}
use Rattle.xc_station.specs.Stations.{GoesOn, WorksOn, turns_of}
use Rattle.xc_station.proofs.schedule.work_job.Given as goal

abbrev pub invariant-loop : goal.invariant-loop
invariant-loop g l =
    record {
      goes : GoesOn l.fn.station l.station;
      scripted : IsScripted l.station.opening.script;
      works : WorksOn g.H.Host.model l.job l.fn.station l.station;
    }

abbrev pub decreases-loop : goal.decreases-loop
decreases-loop g l = turns_of g.H.Host.model l.station
