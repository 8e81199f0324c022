-- What the words of a command line choose for a cooperative run, and what the run promises then.
use Rattle.std.specs.Prelude.{◌≡◌, ℕ, List, IfSome, Option}
use Rattle.std.specs.declared.option.Option.TheVariants.{None}
use Rattle.std.specs.Option.{option_map}
use Rattle.xc_host.specs.Model.{HostModel}
use Rattle.xc_outcome.specs.declared.choice.Choice.{Choice}
use Rattle.xc_outcome.specs.declared.finish.Finish.{Finish}
use Rattle.xc_outcome.specs.Runs.{IsRun}
use Rattle.xc_outcome.specs.Said.{Edges, IsAnswered, IsFullRun, IsOneOf, IsUndisturbed}
use Rattle.xc_coop.specs.declared.chosen.CoopChosen.{CoopChosen}
use Rattle.xc_coop.specs.Lines.{coop_usage_line}
use Rattle.xc_coop.specs.Options.{coop_settings_of}

-- what a run needs of a choice, but for who takes its turns: there is no seed
abbrev pub coop_choice_in : CoopChosen → Choice
coop_choice_in chosen = record { rules = chosen.rules; seed = None }

-- the same of the words, and nothing where they are refused
abbrev pub coop_choice_of : List (List ℕ) → Option Choice
coop_choice_of words = option_map coop_choice_in (coop_settings_of words)

-- all that a finished run promises, of the host that was handed in
pub record IsCoopFinished {H : Type 0} (model : HostModel H) (words : List (List ℕ)) (edges : Edges) (handed : H) (finish : Finish H)
    : Type 0 where
  pub answered : IsAnswered (coop_choice_of words) coop_usage_line model.takes_scripts edges finish
  pub run : IfSome finish.end (IsRun model (coop_choice_of words) edges.source handed)
  pub complete : IfSome finish.end (λ end. IsUndisturbed end → IsFullRun finish.status end)
  pub host : IfSome finish.host (λ back. back ≡ handed)
  pub one : IsOneOf finish.end finish.host
