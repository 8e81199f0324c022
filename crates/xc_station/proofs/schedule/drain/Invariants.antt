use Rattle.std.proofs.Common.{ℕ}
use Rattle.xc_model.specs.Live.{IsScripted}
use Rattle.xc_station.specs.Stations.{GoesOn, TakeRounds, turns_of}
use Rattle.xc_station.proofs.schedule.drain.Given as goal

-- so far some rounds were taken
abbrev pub invariant-loop : goal.invariant-loop
invariant-loop g l =
    record {
      goes : GoesOn l.fn.station l.station;
      scripted : IsScripted l.station.opening.script;
      rounds : (count : ℕ) × TakeRounds g.H.Host.model count l.fn.station l.station;
    }

abbrev pub decreases-loop : goal.decreases-loop
decreases-loop g l = turns_of g.H.Host.model l.station
