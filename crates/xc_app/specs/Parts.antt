-- What the parts of the top call promise one another.
use Rattle.std.specs.Prelude.{◌≡◌, ℕ, List}
use Rattle.std.specs.declared.option.Option.TheVariants.{Some}
use Rattle.xc_data.specs.Step.{Step}
use Rattle.xc_edge.specs.View.{StreamView}
use Rattle.xc_host.specs.Model.{HostModel}
use Rattle.xc_outcome.specs.declared.finish.Finish.{Finish}
use Rattle.xc_outcome.specs.Outcomes.{IsPrepared}
use Rattle.xc_settings.specs.Options.{settings_of, KeepsBounds}
use Rattle.xc_station.specs.Stations.{StationView, TakeRounds, TakeTurns}
use Rattle.xc_app.specs.declared.run.Unthreaded.{Unthreaded}
use Rattle.xc_app.specs.declared.run.Unthreaded.TheVariants.{Finished, Started}
use Rattle.xc_app.specs.declared.start.Started.{Started as StartedRun}
use Rattle.xc_app.specs.Headline.{choice_in}

-- the listed turns were taken in their order, and then rounds
abbrev pub TakeListed : {H : Type 0} → HostModel H → List ℕ → StationView H → StationView H → Type 0
TakeListed {H = H} model jobs old new =
    (listed : StationView H) × TakeTurns model jobs old listed × (rounds : ℕ) × TakeRounds model rounds listed new

module _ {H : Type 0} (model : HostModel H) where
  -- a station before its first turn: the words chose this, and bytes were read from the source or generated, of which it is the start
  pub record IsStarted (words : List (List ℕ)) (source : Step StreamView) (host : H) (started : StartedRun H) : Type 0 where
    pub chose : settings_of words ≡ Some started.chosen
    pub bounds : KeepsBounds started.chosen
    pub prepared : IsPrepared model (choice_in started.chosen) source host started.station

-- ---- what comes before any thread is started
-- where the run is finished, what holds of it
abbrev pub IfFinished : {H : Type 0} → Unthreaded H → (Finish H → Type 0) → Type 0
IfFinished (Finished finish) p = p finish
IfFinished (Started started) p = Unit {0}

-- where workers are to go on, what holds of the start
abbrev pub IfStarted : {H : Type 0} → Unthreaded H → (StartedRun H → Type 0) → Type 0
IfStarted (Finished finish) p = Unit {0}
IfStarted (Started started) p = p started
