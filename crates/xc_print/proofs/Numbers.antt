-- The text of a number of at most four digits, printed piece by piece.
use Rattle.std.proofs.Common.{◌≡◌, ℕ, ◌+◌, ◌/◌, ◌%◌, ◌<◌, ◌≤◌, List, [], ◌∷◌, ◌++◌, ◌∙◌, ap, sym, arith, append_assoc}
use Rattle.std.proofs.lemmas.Fmt.{decimal_digit}
use Rattle.std.specs.Fmt.{decimal}
use Rattle.itoa.proofs.Decimal.{pair, decimal_two, decimal_pair}

-- a digit and two
pub three_digits : (out : List ℕ) (n : ℕ) → 100 ≤ n → n < 1000 → out ++ ((48 + n / 100) ∷ []) ++ pair (n % 100) ≡ out ++ decimal n
three_digits out n low high =
    let front = decimal_digit (n / 100) (omega arith) in
    append_assoc out ((48 + n / 100) ∷ []) (pair (n % 100))
    ∙ ap (λ bs. out ++ bs) (sym (decimal_pair n low (omega arith) ∙ ap (λ bs. bs ++ pair (n % 100)) front))

-- twice two digits
pub four_digits : (out : List ℕ) (n : ℕ) → 1000 ≤ n → n < 10000 → out ++ pair (n / 100) ++ pair (n % 100) ≡ out ++ decimal n
four_digits out n low high =
    let front = decimal_two (n / 100) (omega arith) (omega arith) in
    append_assoc out (pair (n / 100)) (pair (n % 100))
    ∙ ap (λ bs. out ++ bs) (sym (decimal_pair n (omega arith) (omega arith) ∙ ap (λ bs. bs ++ pair (n % 100)) front))

-- one digit to four
pub ruleset few_digits = (decimal_digit, decimal_two, three_digits, four_digits)
