-- One number more in a table of places.
use Rattle.std.proofs.Common.{◌≡◌, ◌≢◌, inl, inr, ℕ, ◌+◌, ◌<◌, List, length, take, ap, sym, ◌∙◌, subst, arith, get_or, set}
use Rattle.std.proofs.Common.{get_or-set_same, get_or-set_other, Bool, true, false, if◌then◌else◌}
use Rattle.std.specs.Prelude.{Option, slice_get}
use Rattle.std.specs.Bool.{Decides}
use Rattle.std.specs.declared.option.Option.TheVariants.{None, Some}
use Rattle.std.proofs.lemmas.Bool.{cases_eq}
use Rattle.std.proofs.lemmas.Option.{slice_get-get_or}
use Rattle.std.proofs.Math.ListN.{length-set}
use Rattle.xc_grounds.specs.Places.{AreEntered, HasPlaces, IsUnusedNumber}
use Rattle.xc_grounds.proofs.Fronts.{in_front, of_front}

-- the number at a place of the table
abbrev Found : List (ℕ × ℕ) → ℕ → ℕ → Type 0
Found begins number place = (b : ℕ × ℕ) × (slice_get begins place ≡ Some b) × (b.0 ≡ number)

-- each place in it is one of those that were entered
found_more : (begins : List (ℕ × ℕ)) (k : ℕ) (b : ℕ × ℕ) (table : List (Option ℕ)) → HasPlaces (take k begins) table → slice_get begins k ≡ Some b
    → IsUnusedNumber table b.0 → (number place : ℕ) → get_or (set table b.0 (Some k)) number None ≡ Some place → Found (take (k + 1) begins) number place
found_more begins k b table has at free number place e =
    elim (cases_eq number b.0) [
      | inl same ↦
          let here : get_or (set table b.0 (Some k)) number None ≡ Some k =
          ap (λ n. get_or (set table b.0 (Some k)) n None) same ∙ get_or-set_same table b.0 (Some k) None free.within in
          let there : k ≡ place = cc (here, e) in
          (b, in_front (k + 1) begins place b (omega (arith, there)) (subst (λ p. slice_get begins p ≡ Some b) there at), sym same)
      | inr other ↦
          let (c, stands, is) = has.found number place (sym (get_or-set_other table b.0 number (Some k) None other) ∙ e) in
          let (before, stood) = of_front k begins place c stands in
          (c, in_front (k + 1) begins place c (omega (arith, before)) stood, is)
    ]

-- each that was entered has its place in it
there_more : (begins : List (ℕ × ℕ)) (k : ℕ) (b : ℕ × ℕ) (table : List (Option ℕ)) → HasPlaces (take k begins) table → slice_get begins k ≡ Some b
    → IsUnusedNumber table b.0 → (place : ℕ) (c : ℕ × ℕ) → slice_get (take (k + 1) begins) place ≡ Some c
    → get_or (set table b.0 (Some k)) c.0 None ≡ Some place
there_more begins k b table has at free place c stands =
    let (before, stood) = of_front (k + 1) begins place c stands in
    elim (cases_eq place k) [
      | inl last ↦
          let same : b ≡ c = cc (at, stood, last) in
          ap (λ (d : ℕ × ℕ). get_or (set table b.0 (Some k)) d.0 None) (sym same)
          ∙ get_or-set_same table b.0 (Some k) None free.within ∙ ap Some (sym last)
      | inr earlier ↦
          let was : get_or table c.0 None ≡ Some place = has.there place c (in_front k begins place c (omega (arith, before, earlier)) stood) in
          let other : c.0 ≢ b.0 = λ same. let none = free.unused in cc (was, same, none) in
          get_or-set_other table b.0 c.0 (Some k) None other ∙ was
    ]

-- the table has the places of one number more
pub entered_more : (begins : List (ℕ × ℕ)) (k : ℕ) (b : ℕ × ℕ) (table : List (Option ℕ)) → HasPlaces (take k begins) table → slice_get begins k ≡ Some b
    → IsUnusedNumber table b.0 → HasPlaces (take (k + 1) begins) (set table b.0 (Some k))
entered_more begins k b table has at free =
    record {
      none = get_or-set_other table b.0 0 (Some k) None (λ e. let above = free.above in absurd (omega (arith, above, e))) ∙ has.none;
      found = found_more begins k b table has at free;
      there = there_more begins k b table has at free;
    }

-- what the table has after an entry whose number was free
pub entered_free : (begins : List (ℕ × ℕ)) (k : ℕ) (b : ℕ × ℕ) (table new : List (Option ℕ)) (was : Bool) → HasPlaces (take k begins) table
    → slice_get begins k ≡ Some b → Decides was (IsUnusedNumber table b.0) → new ≡ (if was then set table b.0 (Some k) else table) → was ≡ true
    → HasPlaces (take (k + 1) begins) new × (length new ≡ length table)
entered_free begins k b table new was has at says is free =
    let same : new ≡ set table b.0 (Some k) = is ∙ ap (λ t. if t then set table b.0 (Some k) else table) free in (
      subst (HasPlaces (take (k + 1) begins)) (sym same) (entered_more begins k b table has at (says.0 free)),
      ap length same ∙ length-set table b.0 (Some k),
    )

-- so many were entered where the next one's number isn't free
pub entered_all : (begins : List (ℕ × ℕ)) (k : ℕ) (table new : List (Option ℕ)) (was : Bool) → HasPlaces (take k begins) table → k < length begins
    → Decides was (IsUnusedNumber table (get_or begins k (0, 0)).0)
    → new ≡ (if was then set table (get_or begins k (0, 0)).0 (Some k) else table) → was ≡ false
    → AreEntered begins (length table) k new
entered_all begins k table new was has low says is taken =
    let b = get_or begins k (0, 0) in
    let same : new ≡ table = is ∙ ap (λ t. if t then set table b.0 (Some k) else table) taken in
    record {
      within = omega arith;
      same = ap length same;
      has = subst (HasPlaces (take k begins)) (sym same) has;
      stopped = λ c at free.
          let one : b ≡ c = let there = slice_get-get_or begins k (0, 0) low in cc (at, there) in
          let was_free = says.1 (subst (λ (d : ℕ × ℕ). IsUnusedNumber table d.0) (sym one) (subst (λ t. IsUnusedNumber t c.0) same free)) in
          cc (was_free, taken);
    }
