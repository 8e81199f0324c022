-- How many decimal digits a number has.
use Rattle.std.proofs.Common.{◌≡◌, ℕ, zero, suc, ◌+◌, ◌*◌, ◌^◌, ◌/◌, ◌%◌, ◌<◌, ◌≤◌, List, [], ◌∷◌, ◌++◌, length, sym, ap, arith}
use Rattle.std.proofs.lemmas.Fmt.{decimal_by_steps, decimal_digit, length-decimal-le}
use Rattle.std.specs.Fmt.{decimal}
use lib.ListN.{length-append}

some_tens : (k : ℕ) → 1 ≤ 10 ^ k
some_tens zero = omega arith
some_tens (suc k) = omega (arith, some_tens k)

least_one : (m k : ℕ) → m < 10 → 10 ^ k ≤ m → k < 1
least_one m zero small le = omega arith
least_one m (suc k) small le = omega (arith, some_tens k)

one_more : (m : ℕ) (ds : List ℕ) → 10 ≤ m → ((k : ℕ) → 10 ^ k ≤ m / 10 → k < length ds) → (k : ℕ) → 10 ^ k ≤ m → k < length (ds ++ ((48 + m % 10) ∷ []))
one_more m ds big h zero le = omega (arith, length-append ds ((48 + m % 10) ∷ []))
one_more m ds big h (suc k) le = omega (arith, h k (omega arith), length-append ds ((48 + m % 10) ∷ []))

more_digits : (n : ℕ) → n < 2 ^ 64 → (k : ℕ) → 10 ^ k ≤ n → k < length (decimal n)
more_digits = decimal_by_steps (λ m ds. (k : ℕ) → 10 ^ k ≤ m → k < length ds) (λ m small k le. least_one m k small le) one_more

-- a number below ten has one digit
pub digit_count : (n : ℕ) → n < 10 → 1 ≡ length (decimal n)
digit_count n small = sym (ap length (decimal_digit n small))

-- a number from 10^k on, and below ten times that, has k + 1 digits
pub digits_count : (n k : ℕ) → n < 2 ^ 64 → 10 ^ k ≤ n → n < 10 * 10 ^ k → k + 1 ≡ length (decimal n)
digits_count n k small from below = omega (arith, more_digits n small k from, length-decimal-le (suc k) n (omega arith) (omega arith) small)
