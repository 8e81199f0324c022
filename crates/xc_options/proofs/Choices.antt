-- What a command's matches give its options.
use Rattle.std.proofs.Common.{◌≡◌, Bool, ◌&&◌, true, false, List, [], None, Some, refl, ap, sym, ◌∙◌, if◌then◌else◌}
use Rattle.clap.specs.Faults.{fault_of, is_free_app, is_simple_and_free}
use Rattle.clap.specs.Matches.{first_value, found_of}
use Rattle.clap.specs.Simple.{App, HasMatchesOf, built, is_simple, matches_of}
use Rattle.clap.specs.Walk.{Text, first_of, is_empty}
use Rattle.clap.specs.declared.parser.matches.ArgMatches.{ArgMatches}
use Rattle.clap.proofs.WalkLemmas.{first_value-rows}
use Rattle.xc_options.specs.Options.{given_by}

-- where both hold, the one does
left_of : (a b : Bool) → (a && b) ≡ true → a ≡ true
left_of true b e = refl
left_of false b e = e

module _ (app : App) (words : List Text) where
  -- where the command finds no fault, the words give what the getters read of its matches
  pub given_by-matches : (m : ArgMatches) → is_simple_and_free app ≡ true → fault_of app words ≡ [] → HasMatchesOf app words m
      → given_by app words ≡ Some (first_value (found_of m))
  given_by-matches m is none matches =
      let simple = left_of (is_simple app) (is_free_app (built app)) is in
      ap (λ faults. if is_empty faults then Some (λ (id : Text). first_of id (matches_of app words)) else None) none
      ∙ ap Some (λ i id. sym (first_value-rows (found_of m) id ∙ ap (first_of id) (matches simple).0) i)
