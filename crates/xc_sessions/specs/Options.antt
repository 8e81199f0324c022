-- What the words of a command line choose for a run with sessions. A word is the list of its bytes.
use Rattle.std.specs.Prelude.{ℕ, List, Option, Some, None, codes}
use Rattle.std.specs.Option.{option_and_then}
use Rattle.clap.specs.Simple.{App, with_rule}
use Rattle.clap.specs.Walk.{Text}
use Rattle.xc_model.specs.declared.rules.Rules.{Rules}
use Rattle.xc_settings.specs.Options.{AreRules, IsUpTo, text_rule}
use Rattle.xc_options.specs.Options.{bare_app, given_by, number_given, rules_given}
use Rattle.xc_sessions.specs.declared.chosen.ServeChosen.{ServeChosen}

-- the command: each option is a text
abbrev pub serve_command : App
serve_command =
    let bare = bare_app (codes "xcalls_serve") in
    let links = with_rule (with_rule bare (text_rule (codes "sessions"))) (text_rule (codes "port")) in
    with_rule (with_rule (with_rule links (text_rule (codes "attempts"))) (text_rule (codes "patience"))) (text_rule (codes "undo-tries"))

-- a choice of how many sessions, a port and rules, where all are there
abbrev pub serve_chosen_with : Option ℕ → Option ℕ → Option Rules → Option ServeChosen
serve_chosen_with (Some sessions) (Some port) (Some rules) = Some (record { sessions = sessions; port = port; rules = rules })
serve_chosen_with _ _ _ = None

-- what these texts of the options choose, and nothing where a text is no number of its option
abbrev pub serve_chosen_given : (Text → Option Text) → Option ServeChosen
serve_chosen_given given =
    serve_chosen_with (number_given 1 1 64 (given (codes "sessions"))) (number_given 7040 1 65535 (given (codes "port")))
    (rules_given given)

-- what the words of a command line choose, and nothing where the command finds a fault in them or a text is no number of its option
abbrev pub serve_settings_of : List Text → Option ServeChosen
serve_settings_of words = option_and_then serve_chosen_given (given_by serve_command words)

-- the port that the words choose, and 7040 where they are refused
abbrev pub port_of : Option ServeChosen → ℕ
port_of None = 7040
port_of (Some chosen) = chosen.port

-- what is chosen keeps the bounds of the options and of the rules
pub record KeepsServeBounds (chosen : ServeChosen) : Type 0 where
  pub sessions : IsUpTo 64 chosen.sessions
  pub port : IsUpTo 65535 chosen.port
  pub rules : AreRules chosen.rules
