-- What the words of a command line choose. A word is the list of its bytes.
use Rattle.std.specs.Prelude.{ℕ, ◌≤◌, ◌==◌, ◌&&◌, true, nat_le, if◌then◌else◌}
use Rattle.std.specs.Prelude.{List, [], ◌∷◌, length, All, Option, Some, None, IfSome, codes}
use Rattle.std.specs.Option.{option_and_then, option_map}
use Rattle.std.specs.List.{slice_split}
use Rattle.std.specs.Str.Parse.{digits_value, without_leading_plus}
use Rattle.clap.specs.Faults.{fault_of}
use Rattle.clap.specs.Simple.{App, matches_of, new_app, new_rule, on_top, with_rule}
use Rattle.clap.specs.Walk.{Row, Rule, Text, first_of, is_empty}
use Rattle.clap.specs.declared.builder.action.ArgAction.TheVariants.{Set}
use Rattle.clap.specs.declared.builder.value_parser.ValueParser.TheVariants.{Unsigned}
use Rattle.xc_model.specs.declared.rules.Rules.{Rules}
use Rattle.xc_tokens.specs.Numbers.{number_of}
use Rattle.xc_settings.specs.declared.chosen.Chosen.{Chosen}

-- ---- the command
-- an option `--id N` with a number from `least` to `most`
abbrev pub number_rule : Text → ℕ → ℕ → Rule
number_rule id least most = record (new_rule id) { long = Some id; action = Some Set; parser = Some (Unsigned least most) }

-- an option `--id TEXT`
abbrev pub text_rule : Text → Rule
text_rule id = record (new_rule id) { long = Some id; action = Some Set }

-- a command without a help or a version flag, which is given the words after its name
abbrev pub bare_command : App
bare_command =
    on_top (λ top. record top { no_binary_name = true; disable_help_flag = true; disable_version_flag = true }) (new_app (codes "xcalls"))

-- how many workers take turns
abbrev pub workers_rule : Rule
workers_rule = number_rule (codes "workers") 1 64

-- whose turns come first
abbrev pub schedule_rule : Rule
schedule_rule = text_rule (codes "schedule")

-- how often one transaction is tried
abbrev pub attempts_rule : Rule
attempts_rule = number_rule (codes "attempts") 1 1000

-- how often a job waits in one attempt
abbrev pub patience_rule : Rule
patience_rule = number_rule (codes "patience") 0 1000000

-- how often one compensation is tried
abbrev pub undo_tries_rule : Rule
undo_tries_rule = number_rule (codes "undo-tries") 1 16

-- the seed of a generated script
abbrev pub seed_rule : Rule
seed_rule = number_rule (codes "seed") 0 18446744073709551615

-- the command
abbrev pub command : App
command =
    with_rule (with_rule (with_rule (with_rule (with_rule (with_rule bare_command workers_rule) schedule_rule) attempts_rule)
    patience_rule) undo_tries_rule) seed_rule

-- ---- a list of jobs
-- a number, where it is from 1 to `most`
abbrev pub within : ℕ → ℕ → Option ℕ
within most n = if nat_le 1 n && nat_le n most then Some n else None

-- the number that a word spells, where it is from 1 to `most`
abbrev pub number_in : ℕ → List ℕ → Option ℕ
number_in most word = option_and_then (within most) (number_of word)

-- a number in front of numbers, where all are there
abbrev pub number_in_front : Option ℕ → Option (List ℕ) → Option (List ℕ)
number_in_front (Some n) (Some ns) = Some (n ∷ ns)
number_in_front _ _ = None

-- the numbers of words, where each is one from 1 to `most`
abbrev pub numbers_in : ℕ → List (List ℕ) → Option (List ℕ)
numbers_in most [] = Some []
numbers_in most (word ∷ words) = number_in_front (number_in most word) (numbers_in most words)

-- what stands before, between and after the commas of a word: one part more than there are commas
abbrev pub comma_parts : List ℕ → List (List ℕ)
comma_parts word = slice_split (λ b. b == 44) word

-- 1 to 10,000 numbers of jobs, each from 1 to 1,000, joined by single commas
abbrev pub job_numbers : List ℕ → Option (List ℕ)
job_numbers word = if nat_le (length (comma_parts word)) 10000 then numbers_in 1000 (comma_parts word) else None

-- ---- what is chosen
-- the number that an option's text spells, in digits that a plus may lead, or its default
abbrev pub number_or : ℕ → Option Text → ℕ
number_or default None = default
number_or default (Some text) = digits_value 10 (without_leading_plus text)

-- the jobs whose turns come first: no list, or the one that the option's text is, where it is one
abbrev pub schedule_in : Option Text → Option (Option (List ℕ))
schedule_in None = Some None
schedule_in (Some text) = option_map Some (job_numbers text)

-- the number that an option's text spells, if there is one
abbrev pub seed_in : Option Text → Option ℕ
seed_in None = None
seed_in (Some text) = Some (digits_value 10 (without_leading_plus text))

-- the rules where no word sets another
abbrev pub default_rules : Rules
default_rules = record { attempts = 100; patience = 10000; undo_tries = 3 }

-- the rules that the command's matches choose
abbrev pub rules_in : List Row → Rules
rules_in rows = record default_rules {
  attempts = number_or default_rules.attempts (first_of (codes "attempts") rows);
  patience = number_or default_rules.patience (first_of (codes "patience") rows);
  undo_tries = number_or default_rules.undo_tries (first_of (codes "undo-tries") rows);
}

-- the choice with these jobs first
abbrev pub chosen_with : List Row → Option (List ℕ) → Chosen
chosen_with rows schedule =
    record {
      workers = number_or 4 (first_of (codes "workers") rows);
      schedule = schedule;
      rules = rules_in rows;
      seed = seed_in (first_of (codes "seed") rows);
    }

-- what the command's matches choose, and nothing where the list of jobs is none
abbrev pub chosen_in : List Row → Option Chosen
chosen_in rows = option_map (chosen_with rows) (schedule_in (first_of (codes "schedule") rows))

-- what the words of a command line choose, and nothing where the command finds a fault in them or the list of jobs is none
abbrev pub settings_of : List Text → Option Chosen
settings_of words = if is_empty (fault_of command words) then chosen_in (matches_of command words) else None

-- ---- its bounds
-- a number is from `least` to `most`
abbrev pub IsBetween : ℕ → ℕ → ℕ → Type 0
IsBetween least most n = (least ≤ n) × (n ≤ most)

-- it is from 1 to `most`
abbrev pub IsUpTo : ℕ → ℕ → Type 0
IsUpTo most n = IsBetween 1 most n

-- 1 to 10,000 jobs, each with a number from 1 to 1,000
pub record AreJobs (jobs : List ℕ) : Type 0 where
  pub count : IsUpTo 10000 (length jobs)
  pub each : All (IsUpTo 1000) jobs

-- rules keep their bounds
pub record AreRules (rules : Rules) : Type 0 where
  pub attempts : IsUpTo 1000 rules.attempts
  pub patience : rules.patience ≤ 1000000
  pub undo_tries : IsUpTo 16 rules.undo_tries

-- what is chosen keeps the bounds of the options and of the rules
pub record KeepsBounds (chosen : Chosen) : Type 0 where
  pub workers : IsUpTo 64 chosen.workers
  pub schedule : IfSome chosen.schedule AreJobs
  pub rules : AreRules chosen.rules
