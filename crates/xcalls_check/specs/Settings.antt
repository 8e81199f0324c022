-- What the words of a command line choose for a check. A word is the list of its bytes.
use Rattle.std.specs.Prelude.{Bool, true, false, List, Option, Some, None, codes, nat_eq}
use Rattle.std.specs.Cmp.Lexicographic.{pointwise}
use Rattle.std.specs.Option.{option_and_then, option_map}
use Rattle.clap.specs.Simple.{App, new_rule, with_rule}
use Rattle.clap.specs.Walk.{Rule, Text}
use Rattle.clap.specs.declared.builder.action.ArgAction.TheVariants.{SetTrue}
use Rattle.xc_judge.specs.declared.basis.Basis.{Basis}
use Rattle.xc_model.specs.declared.rules.Rules.{Rules}
use Rattle.xc_options.specs.Options.{attempts_given, bare_app, given_by, number_given, rules_with, undo_tries_given}
use Rattle.xc_settings.specs.Options.{default_rules, text_rule}

-- an option without a text
abbrev pub flag_rule : Text → Rule
flag_rule id = record (new_rule id) { long = Some id; action = Some SetTrue }

-- the command: two options are texts, and one is a flag
abbrev pub check_command : App
check_command =
    with_rule (with_rule (with_rule (bare_app (codes "xcalls_check")) (text_rule (codes "attempts"))) (text_rule (codes "undo-tries")))
    (flag_rule (codes "prologue"))

-- whether a flag is given: its text is `true` then
abbrev pub is_flag_given : Option Text → Bool
is_flag_given None = false
is_flag_given (Some text) = pointwise nat_eq text (codes "true")

-- the rules of clients where no word sets another: those of a desk that a program in C opens, with no bound on attempts but their size
abbrev pub clients_rules : Rules
clients_rules = record { attempts = 4294967295; patience = 1000000; undo_tries = 16 }

-- the rules of a script that these texts of the options choose, with the patience that stands where no word sets another
abbrev pub script_rules_chosen : (Text → Option Text) → Option Rules
script_rules_chosen given = rules_with (attempts_given given) (Some default_rules.patience) (undo_tries_given given)

-- the rules of clients that they choose: attempts have no bound but their size
abbrev pub clients_rules_chosen : (Text → Option Text) → Option Rules
clients_rules_chosen given =
    rules_with (number_given clients_rules.attempts 1 4294967295 (given (codes "attempts"))) (Some clients_rules.patience)
    (number_given clients_rules.undo_tries 1 16 (given (codes "undo-tries")))

-- of clients, or of a script
abbrev pub rules_chosen : Bool → (Text → Option Text) → Option Rules
rules_chosen true given = clients_rules_chosen given
rules_chosen false given = script_rules_chosen given

-- by these rules a text of clients is judged, or one of a script
abbrev pub basis_with : Bool → Rules → Basis
basis_with clients rules = record { rules = rules; clients = clients }

-- what is chosen of clients, or of a script
abbrev pub basis_for : Bool → (Text → Option Text) → Option Basis
basis_for clients given = option_map (basis_with clients) (rules_chosen clients given)

-- what these texts of the options choose: clients are judged where the flag is given
abbrev pub basis_chosen : (Text → Option Text) → Option Basis
basis_chosen given = basis_for (is_flag_given (given (codes "prologue"))) given

-- what words choose, and nothing where the command finds a fault in them or a text is no number of its option
abbrev pub check_settings_of : List Text → Option Basis
check_settings_of words = option_and_then basis_chosen (given_by check_command words)
