use Rattle.std.proofs.Common.{◌≡◌, ◌+◌, ◌-◌, ◌%◌, ◌^◌, ◌<◌, Option, Some, drop}
use Rattle.std.specs.Prelude.{slice_index}
use Rattle.xc_data.specs.declared.entry.Event.TheVariants.{Turned}
use Rattle.xc_data.specs.declared.entry.Turn.{Turn}
use Rattle.xc_station.specs.Stations.{IsFrontOf, KeepsOrigin, StationView, TakeTurns}
use Rattle.xc_station.proofs.schedule.run_schedule.Given as goal

-- the turns that are left lead on from those that were taken, of which each was one event
abbrev pub invariant-loop-job : goal.invariant-loop-job
invariant-loop-job g l =
    record {
      origin : KeepsOrigin l.fn.station l.station;
      front : IsFrontOf l.fn.station.journal l.station.journal;
      rest : (end : StationView g.row.H.Denot) → TakeTurns g.H.Host.model (drop l.job-index l.jobs) l.station end
          → TakeTurns g.H.Host.model l.jobs l.fn.station end;
      count : l.station.events % 2 ^ 64 ≡ (l.fn.station.events + l.job-index) % 2 ^ 64;
      last : 0 < l.job-index → (answer : Option Turn) × (l.station.last ≡ Some (Turned (slice_index l.jobs (l.job-index - 1)) answer));
    }
