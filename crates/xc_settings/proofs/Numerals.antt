-- Numbers as the words spell them, and as `parse` reads them.
use Rattle.std.proofs.Common.{◌≡◌, ℕ, ◌<◌, ◌≤◌, ◌^◌, true, List, length, Option, None, Some, Result, Ok, Err, rules, arith, ap, sym, ◌∙◌, ◌≢◌, ◌⊎◌}
use Rattle.std.specs.List.{list_all}
use Rattle.std.specs.Option.{option_and_then}
use Rattle.std.specs.Result.{OkIff, result_ok}
use Rattle.std.specs.Str.Parse.{ParsesUnsigned}
use Rattle.std.proofs.lemmas.Bool.Decides.{nat_tests}
use Rattle.std.proofs.lemmas.Str.Parse.{IsNumeralModel, numerals_by_fold, parse_digits}
use Rattle.xc_tokens.specs.Numbers.{is_digit, value_from, number_of}
use Rattle.xc_settings.specs.Options.{within, number_in}

-- the digits that `parse` reads, and their value
own : IsNumeralModel (λ ds. list_all is_digit ds ≡ true) (value_from 0)
own = numerals_by_fold _ (search rules) value_from (search rules)

-- digits spell their value, unless they are too many or it is too large
number_of-digits : (text : List ℕ) → list_all is_digit text ≡ true → length text ≤ 20 → 0 < length text → value_from 0 text < 2 ^ 64
    → number_of text ≡ Some (value_from 0 text)
number_of-digits text digits few some small = grind (arith, nat_tests)

no_number : (most : ℕ) (text : List ℕ) → most < 2 ^ 32 → ((0 < length text) × (value_from 0 text < 2 ^ 32) → ⊥) → number_in most text ≡ None
no_number most text bound refused = grind (arith, nat_tests)

at_result : {E : Type 0} (most : ℕ) (text : List ℕ) (r : Result ℕ E) → most < 2 ^ 32 → list_all is_digit text ≡ true → length text ≤ 20
    → OkIff r ((0 < length text) × (value_from 0 text < 2 ^ 32)) (value_from 0 text) → number_in most text ≡ option_and_then (within most) (result_ok r)
at_result most text (Ok n) bound digits few reads =
    ap (option_and_then (within most)) (number_of-digits text digits few reads.0.0 (omega (arith, reads.0.1)) ∙ ap Some (sym reads.1))
at_result most text (Err e) bound digits few reads = no_number most text bound reads

-- a number is the one that `parse` reads, where it is within the bounds
pub number_in-parsed : {E : Type 0} (most : ℕ) (text : List ℕ) (r : Result ℕ E) → ParsesUnsigned 32 10 text r → most < 2 ^ 32
    → list_all is_digit text ≡ true → length text ≤ 20 → number_in most text ≡ option_and_then (within most) (result_ok r)
number_in-parsed most text r reads bound digits few = at_result most text r bound digits few (parse_digits own 32 text r reads digits)

-- a number that is read counts where it is from 1 to the bound
pub number_in-inside : (most : ℕ) (text : List ℕ) (o : Option ℕ) (n : ℕ) → number_in most text ≡ option_and_then (within most) o → o ≡ Some n
    → n ≢ 0 → n ≤ most → Some n ≡ number_in most text
number_in-inside most text o n same read some below =
    let inside : within most n ≡ Some n = grind (arith, nat_tests) in
    sym (same ∙ ap (option_and_then (within most)) read ∙ inside)

-- and not where it is 0 or beyond
pub number_in-outside : (most : ℕ) (text : List ℕ) (o : Option ℕ) (n : ℕ) → number_in most text ≡ option_and_then (within most) o → o ≡ Some n
    → (n ≡ 0) ⊎ ((n ≢ 0) × (most < n)) → None ≡ number_in most text
number_in-outside most text o n same read out =
    let outside : within most n ≡ None = grind (arith, nat_tests) in
    sym (same ∙ ap (option_and_then (within most)) read ∙ outside)
