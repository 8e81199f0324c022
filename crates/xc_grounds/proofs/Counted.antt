-- Numbers that are right are those from one on in some order.
use Rattle.std.proofs.Common.{◌≡◌, ◌⊎◌, inl, inr, ℕ, zero, suc, ◌+◌, ◌<◌, ◌≤◌, false, List, [], ◌∷◌, length, refl, ap, sym, ◌∙◌, subst, arith, get_or}
use Rattle.std.specs.Prelude.{All, Contains, IsPermutation, nat_eq, slice_get, remove}
use Rattle.std.specs.List.{AllByRecursion, IsDistinct}
use Rattle.std.specs.declared.option.Option.TheVariants.{Some}
use Rattle.std.proofs.lemmas.Bool.{cases_eq, cases_order, ne_eqb}
use Rattle.std.proofs.lemmas.Bool.Decides.{nat_tests}
use Rattle.std.proofs.lemmas.List.Elements.{All-from_recursion, recursion_from_All}
use Rattle.std.proofs.lemmas.List.Sorted.{All-permutation, IsPermutation-cons, IsPermutation-refl, IsPermutation-remove, IsPermutation-sym, IsPermutation-trans}
use Rattle.std.proofs.lemmas.List.Sorted.{length_permutation}
use Rattle.std.proofs.lemmas.Map.Keys.{IsDistinct-IsPermutation, IsDistinct-from_apart, IsDistinct-head, IsDistinct-tail, apart_from_distinct}
use Rattle.std.proofs.lemmas.Option.{get_or_from_slice_get, slice_get-get_or, slice_get_within}
use Rattle.std.proofs.Math.ListN.{length-map}
use Rattle.xc_data.specs.declared.entry.Entry.{Entry}
use Rattle.xc_data.proofs.Laws.{found_at, get_map}
use Rattle.xc_model.specs.Machine.{BeginInOrder, counting, numbers_of}
use Rattle.xc_model.specs.Stories.{entry_begin}
use Rattle.xc_grounds.specs.Numbered.{AreNumbered, entry_begins}
use Rattle.xc_grounds.proofs.Fronts.{of_image}

-- ---- the numbers from one on
-- each stands in its place
counting_at : (from n i d : ℕ) → i < n → get_or (counting from n) i d ≡ from + i
counting_at from zero i d low = absurd (omega (arith, low))
counting_at from (suc n) zero d low = omega arith
counting_at from (suc n) (suc i) d low = let behind = counting_at (from + 1) n i d (omega (arith, low)) in omega (arith, behind)

-- they are so many
counting_length : (from n : ℕ) → length (counting from n) ≡ n
counting_length from zero = refl
counting_length from (suc n) = ap suc (counting_length (from + 1) n)

-- ---- as many different numbers as there are between two bounds are all of them
-- a number stands in a list, or differs from all in it
stands_or_not : (n : ℕ) (xs : List ℕ) → Contains xs n ⊎ AllByRecursion (λ k. nat_eq n k ≡ false) xs
stands_or_not n [] = inr tt
stands_or_not n (x ∷ xs) =
    elim (cases_eq n x) [
      | inl same ↦ inl (0, omega arith, sym same)
      | inr other ↦ elim (stands_or_not n xs) [
        | inl (k, low, at) ↦ inl (suc k, omega (arith, low), at)
        | inr apart ↦ inr (ne_eqb n x other, apart)
      ]
    ]

-- the numbers from one on, so many
abbrev AreNumbersWithin : ℕ → ℕ → List ℕ → Type 0
AreNumbersWithin from m xs = AllByRecursion (λ k. (from ≤ k) × (k < from + m)) xs

-- those that differ from the first are behind it
behind_first : (from m : ℕ) (xs : List ℕ) → AreNumbersWithin from (suc m) xs → AllByRecursion (λ k. nat_eq from k ≡ false) xs → AreNumbersWithin (from + 1) m xs
behind_first from m [] within apart = tt
behind_first from m (x ∷ xs) within apart =
    let (above, below) = within.0 in
    let other = apart.0 in
    ((grind (arith, nat_tests), omega (arith, below)), behind_first from m xs within.1 apart.1)

-- numbers are no more than there are between two bounds, and where they are as many they are all
pub record FillsUp (from m : ℕ) (xs : List ℕ) : Type 0 where
  pub few : length xs ≤ m
  pub all : length xs ≡ m → IsPermutation xs (counting from m)

-- whether two numbers are one
flips : (a b : ℕ) → nat_eq a b ≡ nat_eq b a
flips a b = grind arith

-- one number more, the first
fills_with : (from m : ℕ) (xs rest : List ℕ) → IsPermutation xs (from ∷ rest) → FillsUp (from + 1) m rest → FillsUp from (suc m) xs
fills_with from m xs rest same fills =
    let size = length_permutation xs (from ∷ rest) same in
    let few = fills.few in
    record {
      few = omega (arith, size, few);
      all = λ full. IsPermutation-trans xs (from ∷ rest) (counting from (suc m)) same
          (IsPermutation-cons from rest (counting (from + 1) m) (fills.all (omega (arith, size, full))));
    }

-- one number fewer than there might be
fills_without : (from m : ℕ) (xs : List ℕ) → FillsUp (from + 1) m xs → FillsUp from (suc m) xs
fills_without from m xs fills =
    let few = fills.few in
    record {
      few = omega (arith, few);
      all = λ full. absurd (omega (arith, few, full));
    }

-- different numbers within bounds do
fills_up : (from m : ℕ) (xs : List ℕ) → IsDistinct nat_eq xs → AreNumbersWithin from m xs → FillsUp from m xs
fills_up from zero [] differ within = record { few = omega arith; all = λ full. IsPermutation-refl [] }
fills_up from zero (x ∷ xs) differ within = let (above, below) = within.0 in absurd (omega (arith, above, below))
fills_up from (suc m) xs differ within =
    elim (stands_or_not from xs) [
      | inl (i, low, at) ↦
          let rest = remove xs i in
          let same : IsPermutation xs (from ∷ rest) = IsPermutation-remove xs i from low (sym at) in
          let differ_so = IsDistinct-IsPermutation nat_eq flips xs (from ∷ rest) same differ in
          let within_so = recursion_from_All (λ k. (from ≤ k) × (k < from + suc m)) (from ∷ rest)
          (All-permutation (λ k. (from ≤ k) × (k < from + suc m)) xs (from ∷ rest) same
          (All-from_recursion (λ k. (from ≤ k) × (k < from + suc m)) xs within)) in
          fills_with from m xs rest same (fills_up (from + 1) m rest (IsDistinct-tail nat_eq from rest differ_so)
          (behind_first from m rest within_so.1 (IsDistinct-head nat_eq from rest differ_so)))
      | inr apart ↦ fills_without from m xs (fills_up (from + 1) m xs differ (behind_first from m xs within apart))
    ]

-- ---- of a journal
-- the numbers of different begins differ
numbers_differ : (journal : List Entry) → AreNumbered (length journal) (entry_begins journal) → IsDistinct nat_eq (numbers_of journal)
numbers_differ journal are =
    IsDistinct-from_apart nat_eq (numbers_of journal) (λ i j d less low.
    let size = length-map journal (λ (e : Entry). e.tx) in
    let (a, at) = found_at journal i (omega (arith, less, low, size)) in
    let (b, there) = found_at journal j (omega (arith, low, size)) in
    let first = get_or_from_slice_get (numbers_of journal) i a.tx d (get_map (λ (e : Entry). e.tx) journal i a at) in
    let second = get_or_from_slice_get (numbers_of journal) j b.tx d (get_map (λ (e : Entry). e.tx) journal j b there) in
    let other : get_or (numbers_of journal) i d ≡ get_or (numbers_of journal) j d → ⊥ =
    λ same.
    let one = are.apart i j (entry_begin a) (entry_begin b) (get_map entry_begin journal i a at) (get_map entry_begin journal j b there)
    (sym first ∙ same ∙ second) in
    omega (arith, less, one) in
    ne_eqb (get_or (numbers_of journal) i d) (get_or (numbers_of journal) j d) other)

-- they are within 1 and the length
numbers_within : (journal : List Entry) → AreNumbered (length journal) (entry_begins journal) → AreNumbersWithin 1 (length journal) (numbers_of journal)
numbers_within journal are =
    recursion_from_All (λ k. (1 ≤ k) × (k < 1 + length journal)) (numbers_of journal) (λ i d low.
    let size = length-map journal (λ (e : Entry). e.tx) in
    let (a, at) = found_at journal i (omega (arith, low, size)) in
    let there = get_map entry_begin journal i a at in
    let first = get_or_from_slice_get (numbers_of journal) i a.tx d (get_map (λ (e : Entry). e.tx) journal i a at) in
    let (above, below) = subst (λ (b : ℕ × ℕ). (1 ≤ b.0) × (b.0 ≤ length journal))
    (get_or_from_slice_get (entry_begins journal) i (entry_begin a) (entry_begin a) there)
    (are.within i (entry_begin a) (slice_get_within (entry_begins journal) i (entry_begin a) there)) in
    (omega (arith, above, first), omega (arith, below, first)))

-- right numbers are those from one on in some order, and a greater one didn't begin earlier
pub are_counted : (journal : List Entry) → AreNumbered (length journal) (entry_begins journal)
    → IsPermutation (numbers_of journal) (counting 1 (length journal)) × BeginInOrder journal
are_counted journal are = (
  (fills_up 1 (length journal) (numbers_of journal) (numbers_differ journal are) (numbers_within journal are)).all
      (length-map journal (λ (e : Entry). e.tx)),
  λ i j a b at there less.
      are.order i j (entry_begin a) (entry_begin b) (get_map entry_begin journal i a at) (get_map entry_begin journal j b there) less,
)

-- the numbers from one on differ
counting_differs : (n : ℕ) → IsDistinct nat_eq (counting 1 n)
counting_differs n =
    IsDistinct-from_apart nat_eq (counting 1 n) (λ i j d less low.
    let size = counting_length 1 n in
    let first = counting_at 1 n i d (omega (arith, less, low, size)) in
    let second = counting_at 1 n j d (omega (arith, low, size)) in
    ne_eqb (get_or (counting 1 n) i d) (get_or (counting 1 n) j d) (λ same. omega (arith, less, first, second, same)))

-- the number at a place
number_at : (journal : List Entry) (i d : ℕ) (b : ℕ × ℕ) → slice_get (entry_begins journal) i ≡ Some b
    → (i < length (numbers_of journal)) × (get_or (numbers_of journal) i d ≡ b.0)
number_at journal i d b at =
    let (e, there, is) = of_image entry_begin journal i b at in
    let stands = get_map (λ (e : Entry). e.tx) journal i e there in
    (slice_get_within (numbers_of journal) i e.tx stands, get_or_from_slice_get (numbers_of journal) i e.tx d stands ∙ ap (λ (c : ℕ × ℕ). c.0) is)

-- two numbers at one place or other differ
places_apart : (journal : List Entry) → IsDistinct nat_eq (numbers_of journal) → (i j : ℕ) (a b : ℕ × ℕ) → slice_get (entry_begins journal) i ≡ Some a
    → slice_get (entry_begins journal) j ≡ Some b → i < j → a.0 ≡ b.0 → ⊥
places_apart journal differ i j a b at there less same =
    let (low, first) = number_at journal i 0 a at in
    let (high, second) = number_at journal j 0 b there in
    let apart = apart_from_distinct nat_eq (numbers_of journal) i j 0 differ less high in
    grind (arith, nat_tests, first, second, same, apart)

-- numbers that are those from one on in some order are right, where a greater one didn't begin earlier
pub are_numbered : (journal : List Entry) → IsPermutation (numbers_of journal) (counting 1 (length journal)) → BeginInOrder journal
    → AreNumbered (length journal) (entry_begins journal)
are_numbered journal same ordered =
    let n = length journal in
    let back = IsPermutation-sym (numbers_of journal) (counting 1 n) same in
    let differ = IsDistinct-IsPermutation nat_eq flips (counting 1 n) (numbers_of journal) back (counting_differs n) in
    let size = counting_length 1 n in
    let within_all : All (λ k. (1 ≤ k) × (k ≤ n)) (numbers_of journal) =
    All-permutation (λ k. (1 ≤ k) × (k ≤ n)) (counting 1 n) (numbers_of journal) back
    (λ i d low. let at = counting_at 1 n i d (omega (arith, low, size)) in (omega (arith, at), omega (arith, at, low, size))) in
    record {
      within = λ i d low.
          let b = get_or (entry_begins journal) i d in
          let (there, is) = number_at journal i 0 b (slice_get-get_or (entry_begins journal) i d low) in
          let (above, below) = within_all i 0 there in
          (omega (arith, above, is), omega (arith, below, is));
      apart = λ i j a b at there one.
          elim (cases_order i j) [
            | inl here ↦ here
            | inr other ↦ elim other [
              | inl less ↦ absurd (places_apart journal differ i j a b at there less one)
              | inr more ↦ absurd (places_apart journal differ j i b a there at more (sym one))
            ]
          ];
      order = λ i j a b at there less.
          let (e, stands, is) = of_image entry_begin journal i a at in
          let (f, stood, was) = of_image entry_begin journal j b there in
          let number : e.tx ≡ a.0 = ap (λ (c : ℕ × ℕ). c.0) is in
          let other : f.tx ≡ b.0 = ap (λ (c : ℕ × ℕ). c.0) was in
          let began : e.began ≡ a.1 = ap (λ (c : ℕ × ℕ). c.1) is in
          let begun : f.began ≡ b.1 = ap (λ (c : ℕ × ℕ). c.1) was in
          let so = ordered i j e f stands stood (omega (arith, number, other, less)) in omega (arith, so, began, begun);
    }
