-- What the matches of the words choose.
use Rattle.std.proofs.Common.{◌≡◌, ℕ, List, [], Option, None, Some, refl, ap, sym, ◌∙◌, if◌then◌else◌}
use Rattle.std.specs.Option.{option_map}
use Rattle.std.specs.Prelude.{codes}
use Rattle.clap.specs.Faults.{fault_of}
use Rattle.clap.specs.Matches.{first_value, found_of}
use Rattle.clap.specs.Simple.{HasMatchesOf, matches_of}
use Rattle.clap.specs.Walk.{Row, Text, first_of, is_empty}
use Rattle.clap.specs.declared.parser.matches.ArgMatches.{ArgMatches}
use Rattle.clap.proofs.WalkLemmas.{first_value-rows}
use Rattle.xc_settings.specs.Options.{command, chosen_in, chosen_with, number_or, schedule_in, seed_in, settings_of}

-- what the getters read of the matches are the rows that the words have
pub first_value-words : (words : List Text) (m : ArgMatches) (id : Text) → HasMatchesOf command words m
    → first_value (found_of m) id ≡ first_of id (matches_of command words)
first_value-words words m id matches = first_value-rows (found_of m) id ∙ ap (first_of id) (matches refl).0

-- where the command finds no fault, the words choose what its matches do
pub settings_of-matches : (words : List Text) → fault_of command words ≡ [] → settings_of words ≡ chosen_in (matches_of command words)
settings_of-matches words none = ap (λ faults. if is_empty faults then chosen_in (matches_of command words) else None) none

-- that is so with the list of jobs
pub chosen_in-list : (rows : List Row) (text : Option Text) (schedule : Option (List ℕ)) → text ≡ first_of (codes "schedule") rows
    → schedule_in text ≡ Some schedule → chosen_in rows ≡ Some (chosen_with rows schedule)
chosen_in-list rows text schedule is read = ap (option_map (chosen_with rows)) (ap schedule_in (sym is) ∙ read)

-- and nothing where the list is none
pub chosen_in-none : (rows : List Row) (text : Option Text) → text ≡ first_of (codes "schedule") rows → schedule_in text ≡ None
    → chosen_in rows ≡ None
chosen_in-none rows text is read = ap (option_map (chosen_with rows)) (ap schedule_in (sym is) ∙ read)

-- the choice of the matches is the numbers that were read
pub chosen_read : (rows : List Row) (schedule : Option (List ℕ)) (w a p u : ℕ) (n : Option ℕ) → w ≡ number_or 4 (first_of (codes "workers") rows)
    → a ≡ number_or 100 (first_of (codes "attempts") rows) → p ≡ number_or 10000 (first_of (codes "patience") rows)
    → u ≡ number_or 3 (first_of (codes "undo-tries") rows) → n ≡ seed_in (first_of (codes "seed") rows)
    → chosen_with rows schedule
    ≡ record { workers = w; schedule = schedule; rules = record { attempts = a; patience = p; undo_tries = u }; seed = n }
chosen_read rows schedule w a p u n workers attempts patience tries seed = λ i. record {
  workers = sym workers i;
  schedule = schedule;
  rules = record { attempts = sym attempts i; patience = sym patience i; undo_tries = sym tries i };
  seed = sym seed i;
}
