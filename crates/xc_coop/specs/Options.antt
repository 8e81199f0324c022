-- What the words of a command line choose for a cooperative run. A word is the list of its bytes.
use Rattle.std.specs.Prelude.{ℕ, List, Option, Some, None, codes}
use Rattle.std.specs.Option.{option_and_then}
use Rattle.clap.specs.Simple.{App, with_rule}
use Rattle.clap.specs.Walk.{Text}
use Rattle.xc_model.specs.declared.rules.Rules.{Rules}
use Rattle.xc_settings.specs.Options.{AreRules, IsUpTo, text_rule}
use Rattle.xc_options.specs.Options.{bare_app, given_by, number_given, rules_given}
use Rattle.xc_coop.specs.declared.chosen.CoopChosen.{CoopChosen}

-- the command: each option is a text
abbrev pub coop_command : App
coop_command =
    with_rule (with_rule (with_rule (with_rule (bare_app (codes "xcalls_coop")) (text_rule (codes "share"))) (text_rule (codes "attempts")))
    (text_rule (codes "patience"))) (text_rule (codes "undo-tries"))

-- a choice of a share and rules, where both are there
abbrev pub coop_chosen_with : Option ℕ → Option Rules → Option CoopChosen
coop_chosen_with (Some share) (Some rules) = Some (record { share = share; rules = rules })
coop_chosen_with _ _ = None

-- what these texts of the options choose, and nothing where a text is no number of its option
abbrev pub coop_chosen_given : (Text → Option Text) → Option CoopChosen
coop_chosen_given given = coop_chosen_with (number_given 1 1 1000 (given (codes "share"))) (rules_given given)

-- what the words of a command line choose, and nothing where the command finds a fault in them or a text is no number of its option
abbrev pub coop_settings_of : List Text → Option CoopChosen
coop_settings_of words = option_and_then coop_chosen_given (given_by coop_command words)

-- what is chosen keeps the bounds of the options and of the rules
pub record KeepsCoopBounds (chosen : CoopChosen) : Type 0 where
  pub share : IsUpTo 1000 chosen.share
  pub rules : AreRules chosen.rules
