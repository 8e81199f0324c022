-- What passes before a station know of it.
use Rattle.xc_data.specs.declared.entry.Entry.{Entry}
use Rattle.xc_data.specs.declared.entry.Event.{Event}
use Rattle.xc_model.specs.declared.origin.Origin.{Origin}
use Rattle.xc_station.specs.Stations.{StationView}
use Rattle.xc_turnstile.specs.Known.{Known}
use Rattle.xc_turnstile.specs.Meanings.{Meaning}
use Rattle.xc_turnstile.specs.declared.view.View.{View}

-- a pass, as contracts see it: the journal has entries, the events are those of a script's jobs, and the origin is a script with its rules
abbrev pub StationPass : Type 0
StationPass = Known Entry Event Origin

-- what it knows
abbrev pub PassView : Type 0
PassView = View Entry Event Origin

-- what a value means to such a pass
abbrev pub StationMeaning : Type 0 → Type 0
StationMeaning X = Meaning X Entry Event Origin

-- what passes know of a station
abbrev pub meaning_of : {H : Type 0} → StationMeaning (StationView H)
meaning_of =
    record {
      journal = λ station. station.journal;
      origin = λ station. record { script = station.opening.script; faults = station.opening.faults; rules = station.rules };
      count = λ station. station.events;
      last = λ station. station.last;
    }
