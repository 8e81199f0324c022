-- Numbers as the words spell them, and as `parse` reads them.
use Rattle.std.proofs.Common.{◌≡◌, ℕ, ◌<◌, ◌≤◌, ◌^◌, Bool, true, false, List, None, Some, Result, Ok, Err}
use Rattle.std.proofs.Common.{arith, refl, ap, sym, ◌∙◌, if◌then◌else◌}
use Rattle.std.specs.Result.{result_ok}
use Rattle.std.specs.Str.Parse.{ParsesUnsigned, digits_value, without_leading_plus}
use Rattle.clap.specs.Values.{IsUnsignedIn}
use Rattle.clap.specs.ValueTests.{is_unsigned_in}
use Rattle.clap.specs.declared.builder.value_parser.ValueParser.TheVariants.{Unsigned}
use Rattle.clap.proofs.ValueTestLemmas.{Accepts-accepts, accepts-Accepts}
use Rattle.xc_options.specs.Options.{number_between}

-- a text that no number from `least` to `most` is spelled by
refused : (least most : ℕ) (text : List ℕ) → (IsUnsignedIn least most text → ⊥) → number_between least most text ≡ None
refused least most text lacks = by_test (is_unsigned_in least most text) refl
  where
    by_test : (t : Bool) → is_unsigned_in least most text ≡ t
        → (if t then Some (digits_value 10 (without_leading_plus text)) else None) ≡ None
    by_test true e = absurd (lacks (accepts-Accepts false (Unsigned least most) text e))
    by_test false e = refl

module _ {E : Type 0} (least most : ℕ) (text : List ℕ) where
  -- a number that is read counts where it is within the bounds
  pub number_between-inside : (r : Result ℕ E) → ParsesUnsigned 32 10 text r → (n : ℕ) → result_ok r ≡ Some n → least ≤ n → n ≤ most
      → number_between least most text ≡ Some n
  number_between-inside (Ok m) reads n is low high =
      let same : m ≡ n = cc in
      let inside : IsUnsignedIn least most text =
      (reads.0.0, omega (arith, reads.0.1), omega (arith, low, same, reads.1), omega (arith, high, same, reads.1)) in
      ap (λ (t : Bool). if t then Some (digits_value 10 (without_leading_plus text)) else None)
      (Accepts-accepts false (Unsigned least most) text inside) ∙ ap Some (sym reads.1 ∙ same)
  number_between-inside (Err e) reads n is low high = absurd cc

  -- a text that isn't read spells none
  pub number_in-unread : (r : Result ℕ E) → ParsesUnsigned 32 10 text r → result_ok r ≡ None → most < 2 ^ 32
      → number_between least most text ≡ None
  number_in-unread (Ok m) reads is few = absurd cc
  number_in-unread (Err e) reads is few = refused least most text (λ inside. reads (inside.0, omega (arith, few, inside.3)))
