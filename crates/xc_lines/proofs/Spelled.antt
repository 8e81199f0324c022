-- What was printed is read again: numbers, names and handles.
use Rattle.std.proofs.Common.{rules, inl, inr, ◌≡◌, ℕ, ◌^◌, ◌<◌, ◌≤◌, Bool, true, false, ◌&&◌, List, [], ◌∷◌}
use Rattle.std.proofs.Common.{◌++◌, length, Some, None, refl, sym, subst, arith}
use Rattle.std.specs.Prelude.{nat_eq, nat_le}
use Rattle.std.specs.List.{list_all, prefix_len}
use Rattle.std.specs.Fmt.{decimal}
use Rattle.std.proofs.lemmas.Fmt.{digits_decimal, digits_value-decimal, decimal_nonempty, length-decimal-le}
use Rattle.std.proofs.lemmas.Str.Parse.{IsNumeralModel, numerals_by_fold}
use Rattle.std.specs.Prelude.{◌==◌, ◌||◌, not}
use Rattle.std.specs.List.{list_any}
use Rattle.std.proofs.lemmas.Bool.{lt-ltb, leb-true, eqb-true, ne_eqb, and_parts, and_from, or_left, or_cases, both_ways, cases_lt, agree_below_at, false≢true}
use Rattle.std.proofs.lemmas.List.{take_at, drop_at}
use Rattle.xc_tokens.specs.Numbers.{is_digit, value_from, number_of}
use Rattle.xc_data.specs.Spelling.{is_name, is_name_byte, is_ident, is_ident_byte, is_ident_first}
use Rattle.xc_lines.specs.Parts.{past, number_at, below_at, name_at, ident_at}

own : IsNumeralModel (λ ds. list_all is_digit ds ≡ true) (value_from 0)
own = numerals_by_fold _ (search rules) value_from (search rules)

-- what passes everywhere is one run
whole_run : (p : ℕ → Bool) (xs : List ℕ) → list_all p xs ≡ true → prefix_len p xs ≡ length xs
whole_run p [] h = refl
whole_run p (x ∷ xs) h = search (rules, whole_run p xs)

-- a run, and what stops it
pub run_again : (p : ℕ → Bool) (xs rest : List ℕ) → list_all p xs ≡ true → prefix_len p rest ≡ 0 → prefix_len p (xs ++ rest) ≡ length xs
run_again p [] rest h stop = stop
run_again p (x ∷ xs) rest h stop = search (rules, run_again p xs rest)

spelled : (n : ℕ) → n < 2 ^ 64 → number_of (decimal n) ≡ Some n
spelled n small =
    search (rules, digits_decimal own n small, digits_value-decimal own n small, decimal_nonempty n small, length-decimal-le 20 n)

-- a number is read again, before what is no digit
pub number_again : (n : ℕ) (rest : List ℕ) → n < 2 ^ 64 → prefix_len is_digit rest ≡ 0 → number_at (decimal n ++ rest) ≡ Some (n, rest)
unfolding number_at
number_again n rest small stop =
    rw (
      run_again is_digit (decimal n) rest (digits_decimal own n small) stop,
      take_at (decimal n) rest (length (decimal n)) refl,
      drop_at (decimal n) rest (length (decimal n)) refl,
      spelled n small,
    ) refl

-- so is one below a bound
pub below_again : (bound n : ℕ) (rest : List ℕ) → n < bound → n < 2 ^ 64 → prefix_len is_digit rest ≡ 0 → below_at bound (decimal n ++ rest) ≡ Some (n, rest)
unfolding below_at
below_again bound n rest below small stop = rw (number_again n rest small stop, lt-ltb n bound below) refl

-- and one of 32 bits
pub small_again : (n : ℕ) (rest : List ℕ) → n < 2 ^ 32 → prefix_len is_digit rest ≡ 0 → below_at (2 ^ 32) (decimal n ++ rest) ≡ Some (n, rest)
small_again n rest small stop = below_again (2 ^ 32) n rest small (omega arith) stop

-- and one of 16 bits
pub tiny_again : (n : ℕ) (rest : List ℕ) → n < 2 ^ 16 → prefix_len is_digit rest ≡ 0 → below_at (2 ^ 16) (decimal n ++ rest) ≡ Some (n, rest)
tiny_again n rest small stop = below_again (2 ^ 16) n rest small (omega arith) stop

-- ---- what a number doesn't begin with
first_of : (p : ℕ → Bool) (xs : List ℕ) → 0 < length xs → list_all p xs ≡ true → (d : ℕ) × (ds : List ℕ) × (xs ≡ d ∷ ds) × (p d ≡ true)
first_of p [] some all = absurd (omega arith)
first_of p (x ∷ xs) some all = (x, xs, refl, (and_parts (p x) (list_all p xs) all).0)

-- a number begins with a digit
first_digit : (n : ℕ) → n < 2 ^ 64 → (d : ℕ) × (ds : List ℕ) × (decimal n ≡ d ∷ ds) × (is_digit d ≡ true)
first_digit n small = first_of is_digit (decimal n) (decimal_nonempty n small) (digits_decimal own n small)

digit_is : (d : ℕ) → is_digit d ≡ true → (48 ≤ d) × (d ≤ 57)
digit_is d h = let both = and_parts (nat_le 48 d) (nat_le d 57) h in (leb-true 48 d both.0, leb-true d 57 both.1)

-- a byte that is no digit isn't passed before a number
pub not_past : (c : ℕ) (front : List ℕ) (n : ℕ) (rest : List ℕ) → n < 2 ^ 64 → is_digit c ≡ false → past (c ∷ front) (decimal n ++ rest) ≡ None
not_past c front n rest small other =
    let first = first_digit n small in
    let apart : nat_eq first.0 c ≡ false = ne_eqb first.0 c (λ same. both_ways (is_digit c) other (subst (λ x. is_digit x ≡ true) same first.3)) in
    rw (first.2, apart) refl

-- ---- names
named_all : (name : List ℕ) → is_name name ≡ true → list_all is_name_byte name ≡ true
named_all name h =
    (and_parts _ (list_all is_name_byte name) (and_parts _ (list_any (λ b. not (b == 46)) name) h).0).1

true_from_or : (x y : Bool) → (x || y) ≡ y → x ≡ true → y ≡ true
true_from_or true y e h = sym e
true_from_or false y e h = absurd (false≢true h)

-- a byte of a slot's name is below 123
ident_below : (b : ℕ) → is_ident_byte b ≡ true → b < 123
ident_below b h = search (rules, leb-true, eqb-true, or_cases, and_parts)

one_name_byte : (b : ℕ) → is_ident_byte b ≡ true → is_name_byte b ≡ true
one_name_byte b h =
    elim (cases_lt b 256) [
      | inl lt ↦ true_from_or (is_ident_byte b) (is_name_byte b) (agree_below_at (λ b. is_ident_byte b || is_name_byte b) is_name_byte 256 b refl lt) h
      | inr le ↦ absurd (omega (arith, ident_below b h))
    ]

tails : (bs : List ℕ) → list_all is_ident_byte bs ≡ true → list_all is_name_byte bs ≡ true
tails [] h = refl
tails (b ∷ bs) h =
    let parts = and_parts (is_ident_byte b) (list_all is_ident_byte bs) h in
    and_from (is_name_byte b) (list_all is_name_byte bs) (one_name_byte b parts.0) (tails bs parts.1)

ident_all : (ident : List ℕ) → is_ident ident ≡ true → list_all is_name_byte ident ≡ true
ident_all [] h = absurd (false≢true h)
ident_all (b ∷ bs) h =
    let parts = and_parts (nat_le (length (b ∷ bs)) 32 && is_ident_first b) (list_all is_ident_byte bs) h in
    let first = (and_parts (nat_le (length (b ∷ bs)) 32) (is_ident_first b) parts.0).1 in
    and_from (is_name_byte b) (list_all is_name_byte bs) (one_name_byte b (or_left _ _ (or_left _ _ first))) (tails bs parts.1)

-- a name is read again, before what can't be in a name
pub name_again : (name rest : List ℕ) → is_name name ≡ true → prefix_len is_name_byte rest ≡ 0 → name_at (name ++ rest) ≡ Some (name, rest)
unfolding name_at
name_again name rest h stop =
    rw (run_again is_name_byte name rest (named_all name h) stop, take_at name rest (length name) refl, drop_at name rest (length name) refl, h) refl

-- so is the name of a slot or a block
pub ident_again : (ident rest : List ℕ) → is_ident ident ≡ true → prefix_len is_name_byte rest ≡ 0 → ident_at (ident ++ rest) ≡ Some (ident, rest)
unfolding ident_at
ident_again ident rest h stop =
    rw (run_again is_name_byte ident rest (ident_all ident h) stop, take_at ident rest (length ident) refl, drop_at ident rest (length ident) refl, h) refl
