-- Events of a station: each turn that is tried is one.
use Rattle.std.specs.Prelude.{◌≡◌, ℕ, ◌+◌, ◌%◌, ◌≤◌, Bool, true, false}
use Rattle.std.specs.Prelude.{length}
use Rattle.std.specs.Prelude.{Option}
use Rattle.std.specs.declared.option.Option.TheVariants.{None, Some}
use Rattle.xc_data.specs.Step.{Step}
use Rattle.xc_data.specs.declared.entry.Event.{Event}
use Rattle.xc_data.specs.declared.entry.Event.TheVariants.{Turned}
use Rattle.xc_data.specs.declared.entry.Turn.{Turn}
use Rattle.xc_host.specs.Model.{HostModel}
use Rattle.xc_station.specs.Stations.{StationView, KeepsOrigin, IsFrontOf, HasTurned}

-- ---- events
-- one event more
abbrev pub with_event : {H : Type 0} → StationView H → Event → StationView H
with_event station event = record station { events = (station.events + 1) % 18446744073709551616; last = Some event }

-- what holds of each event: the origin stays, the journal goes on, and it is the last event, one more than before
pub record IsEvent {H : Type 0} (old new : StationView H) (event : Event) : Type 0 where
  pub origin : KeepsOrigin old new
  pub front : IsFrontOf old.journal new.journal
  pub few : length new.journal ≤ 4294967295
  pub count : new.events ≡ (old.events + 1) % 18446744073709551616
  pub last : new.last ≡ Some event

-- a job that goes on takes its turn; for one that doesn't nothing is done
abbrev pub IsTurnTried : {H : Type 0} → HostModel H → ℕ → Step (StationView H) → Bool → Option Turn → Type 0
IsTurnTried model job station true (Some answer) = HasTurned model job station answer
IsTurnTried model job station false None = station.new ≡ with_event station.old (Turned job None)
IsTurnTried model job station true None = ⊥
IsTurnTried model job station false (Some answer) = ⊥
