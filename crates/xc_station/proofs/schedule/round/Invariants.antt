use Rattle.std.proofs.Common.{◌≡◌, ◌<◌, ◌≤◌, length}
use Rattle.xc_model.specs.Live.{IsScripted}
use Rattle.xc_station.specs.Stations.{GoesOn, TakeTurns, numbers, turns_of}
use Rattle.xc_station.proofs.schedule.round.Given as goal

-- the jobs so far took their turns; where none of them lived, all is as before
abbrev pub invariant-loop-job : goal.invariant-loop-job
invariant-loop-job g l =
    record {
      goes : GoesOn l.fn.station l.station;
      scripted : IsScripted l.station.opening.script;
      within : l.at ≤ length l.station.jobs;
      falls : 0 < l.at → turns_of g.H.Host.model l.station < turns_of g.H.Host.model l.fn.station;
      same : l.at ≡ 0 → l.station ≡ l.fn.station;
      turns : TakeTurns g.H.Host.model (numbers l.at) l.fn.station l.station;
    }

abbrev pub decreases-loop-job : goal.decreases-loop-job
decreases-loop-job g l = turns_of g.H.Host.model l.station
