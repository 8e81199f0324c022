-- Whether begins are in the order of their numbers, found by going over the numbers.
use Rattle.std.proofs.Common.{◌≡◌, ◌⊎◌, inl, inr, ℕ, ◌+◌, ◌<◌, ◌≤◌, List, length, take, refl, ap, sym, ◌∙◌, arith, get_or}
use Rattle.std.specs.Prelude.{Option, slice_get}
use Rattle.std.specs.declared.option.Option.TheVariants.{None, Some}
use Rattle.std.proofs.lemmas.Bool.{cases_eq, cases_lt}
use Rattle.std.proofs.lemmas.List.{get_or_past}
use Rattle.xc_grounds.specs.Numbered.{AreInOrder}
use Rattle.xc_grounds.specs.Places.{HasPlaces, IsBegin, IsNoNumber}
use Rattle.xc_grounds.proofs.Fronts.{of_front}

-- ---- what a table of places says of numbers
-- two of one number stand in one place
pub one_place : (begins : List (ℕ × ℕ)) (table : List (Option ℕ)) → HasPlaces begins table → (i j : ℕ) (a b : ℕ × ℕ)
    → slice_get begins i ≡ Some a → slice_get begins j ≡ Some b → a.0 ≡ b.0 → i ≡ j
one_place begins table has i j a b at there same =
    let first = has.there i a at in
    let second = has.there j b there in
    let one : get_or table a.0 None ≡ get_or table b.0 None = ap (λ n. get_or table n None) same in
    cc (first, second, one)

-- each number is one of the table
pub number_within : (begins : List (ℕ × ℕ)) (table : List (Option ℕ)) → HasPlaces begins table → (i : ℕ) (a : ℕ × ℕ)
    → slice_get begins i ≡ Some a → (1 ≤ a.0) × (a.0 < length table)
number_within begins table has i a at =
    let there = has.there i a at in (
      elim (cases_eq a.0 0) [
        | inl least ↦
            let none = has.none in
            let first : get_or table a.0 None ≡ get_or table 0 None = ap (λ n. get_or table n None) least in cc (there, none, first)
        | inr other ↦ omega (arith, other)
      ],
      elim (cases_lt a.0 (length table)) [
        | inl low ↦ low
        | inr past ↦ let none = get_or_past table a.0 None past in cc (there, none)
      ],
    )

-- ---- going over the numbers
-- those with smaller numbers are in order, and this is the latest of their begins, or 0
pub record AreSoFar (begins : List (ℕ × ℕ)) (number latest : ℕ) : Type 0 where
  pub upper : (i : ℕ) (a : ℕ × ℕ) → slice_get begins i ≡ Some a → a.0 < number → a.1 ≤ latest
  pub reached : (latest ≡ 0) ⊎ ((i : ℕ) × (a : ℕ × ℕ) × (slice_get begins i ≡ Some a) × (a.0 < number) × (a.1 ≡ latest))
  pub ordered : (i j : ℕ) (a b : ℕ × ℕ) → slice_get begins i ≡ Some a → slice_get begins j ≡ Some b → b.0 < number → a.0 < b.0 → a.1 ≤ b.1

-- two of one number in a front are one
one_begin : (begins : List (ℕ × ℕ)) (below : ℕ) (table : List (Option ℕ)) → HasPlaces begins table → (i : ℕ) (a : ℕ × ℕ) (number began : ℕ)
    → IsBegin (take below begins) number began → slice_get (take below begins) i ≡ Some a → a.0 ≡ number → a.1 ≡ began
one_begin begins below table has i a number began is at same =
    let here = (of_front below begins i a at).1 in
    let there = (of_front below begins is.place (number, began) is.at).1 in
    let place : i ≡ is.place = one_place begins table has i is.place a (number, began) here there same in
    let both : slice_get begins i ≡ slice_get begins is.place = ap (slice_get begins) place in
    let one : ◌≡◌ {A = Option (ℕ × ℕ)} (Some a) (Some (number, began)) = sym here ∙ both ∙ there in
    ap (λ (b : ℕ × ℕ). b.1) (let is : a ≡ (number, began) = cc one in is)

-- one more that began no earlier
pub so_far_more : (begins : List (ℕ × ℕ)) (below : ℕ) (table : List (Option ℕ)) → HasPlaces begins table → (number latest began : ℕ)
    → AreSoFar (take below begins) number latest → IsBegin (take below begins) number began → latest ≤ began
    → AreSoFar (take below begins) (number + 1) began
so_far_more begins below table has number latest began so is later =
    record {
      upper = λ i a at low.
          elim (cases_eq a.0 number) [
            | inl same ↦ let one = one_begin begins below table has i a number began is at same in omega (arith, one)
            | inr other ↦ let old = so.upper i a at (omega (arith, low, other)) in omega (arith, old, later)
          ];
      reached = inr (is.place, (number, began), is.at, omega arith, refl);
      ordered = λ i j a b at there low less.
          elim (cases_eq b.0 number) [
            | inl same ↦
                let one = one_begin begins below table has j b number began is there same in
                let old = so.upper i a at (omega (arith, less, same)) in omega (arith, one, old, later)
            | inr other ↦ so.ordered i j a b at there (omega (arith, low, other)) less
          ];
    }

-- no more at a number that none has
pub so_far_same : (begins : List (ℕ × ℕ)) (number latest : ℕ) → AreSoFar begins number latest → IsNoNumber begins number
    → AreSoFar begins (number + 1) latest
so_far_same begins number latest so none =
    let less : (i : ℕ) (a : ℕ × ℕ) → slice_get begins i ≡ Some a → a.0 < number + 1 → a.0 < number =
    λ i a at low. elim (cases_eq a.0 number) [ inl same ↦ absurd (none i a at same) | inr other ↦ omega (arith, low, other) ] in
    record {
      upper = λ i a at low. so.upper i a at (less i a at low);
      reached = elim so.reached [ inl least ↦ inl least | inr (i, a, at, low, is) ↦ inr (i, a, at, omega (arith, low), is) ];
      ordered = λ i j a b at there low before. so.ordered i j a b at there (less j b there low) before;
    }

-- past the last number all are in order
pub so_far_all : (begins : List (ℕ × ℕ)) (below : ℕ) (table : List (Option ℕ)) → HasPlaces begins table → (number latest : ℕ)
    → AreSoFar (take below begins) number latest → length table ≤ number → AreInOrder (take below begins)
so_far_all begins below table has number latest so past i j a b at there before =
    let within = (number_within begins table has j b (of_front below begins j b there).1).1 in
    so.ordered i j a b at there (omega (arith, within, past)) before
