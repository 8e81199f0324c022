-- What words give the options of a command, each of which takes a text, and the numbers within bounds that such texts spell.
-- A text and a word are lists of bytes.
use Rattle.std.specs.Prelude.{ℕ, true, if◌then◌else◌}
use Rattle.std.specs.Prelude.{List, Option, Some, None, codes}
use Rattle.std.specs.Str.Parse.{digits_value, without_leading_plus}
use Rattle.clap.specs.Faults.{fault_of}
use Rattle.clap.specs.Simple.{App, matches_of, new_app, on_top}
use Rattle.clap.specs.ValueTests.{is_unsigned_in}
use Rattle.clap.specs.Walk.{Text, first_of, is_empty}
use Rattle.xc_model.specs.declared.rules.Rules.{Rules}
use Rattle.xc_settings.specs.Options.{default_rules}

-- ---- the command
-- a command of that name without options, without a help or a version flag, which is given the words after the program's name
abbrev pub bare_app : Text → App
bare_app name =
    on_top (λ top. record top { no_binary_name = true; disable_help_flag = true; disable_version_flag = true }) (new_app name)

-- the text that words give each option, if they give it one; nothing where the command finds a fault in them
abbrev pub given_by : App → List Text → Option (Text → Option Text)
given_by app words = if is_empty (fault_of app words) then Some (λ id. first_of id (matches_of app words)) else None

-- ---- numbers
-- the number that a text spells, in digits that a plus may lead, where it is from `least` to `most`
abbrev pub number_between : ℕ → ℕ → Text → Option ℕ
number_between least most text = if is_unsigned_in least most text then Some (digits_value 10 (without_leading_plus text)) else None

-- the number that an option's text spells, or its default
abbrev pub number_given : ℕ → ℕ → ℕ → Option Text → Option ℕ
number_given default least most None = Some default
number_given default least most (Some text) = number_between least most text

-- ---- the rules of a run
-- how often one transaction is tried
abbrev pub attempts_given : (Text → Option Text) → Option ℕ
attempts_given given = number_given default_rules.attempts 1 1000 (given (codes "attempts"))

-- how often a job waits in one attempt
abbrev pub patience_given : (Text → Option Text) → Option ℕ
patience_given given = number_given default_rules.patience 0 1000000 (given (codes "patience"))

-- how often one compensation is tried
abbrev pub undo_tries_given : (Text → Option Text) → Option ℕ
undo_tries_given given = number_given default_rules.undo_tries 1 16 (given (codes "undo-tries"))

-- rules of three numbers, where all are there
abbrev pub rules_with : Option ℕ → Option ℕ → Option ℕ → Option Rules
rules_with (Some attempts) (Some patience) (Some undo_tries) =
    Some (record { attempts = attempts; patience = patience; undo_tries = undo_tries })
rules_with _ _ _ = None

-- the rules that these texts of the options choose
abbrev pub rules_given : (Text → Option Text) → Option Rules
rules_given given = rules_with (attempts_given given) (patience_given given) (undo_tries_given given)
