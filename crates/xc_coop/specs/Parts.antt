-- What the parts of a cooperative run promise one another.
use Rattle.std.specs.Prelude.{◌≡◌, ℕ, List}
use Rattle.std.specs.declared.option.Option.TheVariants.{Some}
use Rattle.xc_data.specs.Step.{Step}
use Rattle.xc_edge.specs.View.{StreamView}
use Rattle.xc_host.specs.Model.{HostModel}
use Rattle.xc_outcome.specs.Outcomes.{IsPrepared}
use Rattle.xc_coop.specs.declared.start.CoopStarted.{CoopStarted}
use Rattle.xc_coop.specs.Headline.{coop_choice_in}
use Rattle.xc_coop.specs.Options.{KeepsCoopBounds, coop_settings_of}

-- a station before its first turn: the words chose this, and bytes were read from the source, of which it is the start
pub record IsCoopStarted {H : Type 0} (model : HostModel H) (words : List (List ℕ)) (source : Step StreamView) (host : H)
    (started : CoopStarted H)
    : Type 0 where
  pub chose : coop_settings_of words ≡ Some started.chosen
  pub bounds : KeepsCoopBounds started.chosen
  pub prepared : IsPrepared model (coop_choice_in started.chosen) source host started.station
