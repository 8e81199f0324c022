-- The turns that the words of a command line fix beforehand: a schedule's, or rounds.
use Rattle.std.specs.Prelude.{◌≡◌, ℕ, List, [], IfSome, IsSome}
use Rattle.std.specs.declared.option.Option.TheVariants.{None, Some}
use Rattle.xc_data.specs.Step.{Step}
use Rattle.xc_edge.specs.View.{StreamView}
use Rattle.xc_host.specs.Model.{HostModel}
use Rattle.xc_outcome.specs.Outcomes.{IsEndOf, IsStartOf}
use Rattle.xc_outcome.specs.Runs.{IsInput}
use Rattle.xc_settings.specs.declared.chosen.Chosen.{Chosen}
use Rattle.xc_settings.specs.Options.{settings_of, KeepsBounds}
use Rattle.xc_station.specs.declared.run_result.End.{End}
use Rattle.xc_station.specs.Stations.{StationView}
use Rattle.xc_app.specs.Parts.{TakeListed}

module _ {H : Type 0} (model : HostModel H) where
  -- from the start of these bytes a schedule's turns were taken in their order, and then rounds; with a seed and no schedule
  -- rounds alone; and this is what they left
  pub record TakesChosenTurns (bytes : List ℕ) (chosen : Chosen) (host : H) (end : End H) : Type 0 where
    pub first : StationView H
    pub last : StationView H
    pub bounds : KeepsBounds chosen
    pub start : IsStartOf model bytes chosen.rules host first
    pub listed : IfSome chosen.schedule (λ jobs. TakeListed model jobs first last)
    pub seeded : IsSome chosen.seed → chosen.schedule ≡ None → TakeListed model [] first last
    pub left : IsEndOf model last end

  -- the words chose something, bytes were read from the source or generated, and their run took the chosen turns
  abbrev pub IsFollowed : List (List ℕ) → Step StreamView → H → End H → Type 0
  IsFollowed words source host end =
      (chosen : Chosen) × (settings_of words ≡ Some chosen) × (bytes : List ℕ) × IsInput chosen.seed source bytes
      × TakesChosenTurns bytes chosen host end
