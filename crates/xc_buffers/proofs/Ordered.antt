-- Kept items in order, and the places of a source in a list in the reverse order.
use Rattle.std.proofs.Common.{◌≡◌, ◌⊎◌, inl, inr, ℕ, suc, ◌-◌, ◌<◌, ◌≤◌, Bool, true, false, not, List, [], ◌∷◌, ◌++◌, length, get_or, refl, ap}
use Rattle.std.proofs.Common.{sym, ◌∙◌, subst, arith}
use Rattle.std.specs.Prelude.{reverse, All}
use Rattle.std.specs.List.Sorted.{IsPartitionedBy, IsPartitionPoint}
use Rattle.std.proofs.lemmas.Bool.{cases_lt}
use Rattle.std.proofs.lemmas.List.{length-reverse}
use Rattle.std.proofs.lemmas.List.Elements.{All-head, All-tail}
use Rattle.std.proofs.lemmas.List.Kept.{AllPairs-cons}
use Rattle.xc_data.specs.declared.entry.KeptItem.{KeptItem}
use Rattle.xc_buffers.specs.declared.source.Endpoint.{Endpoint}
use Rattle.xc_buffers.specs.Sources.{source_of, is_before, is_from}
use Rattle.xc_buffers.specs.Items.{IsInOrder}
use Rattle.xc_buffers.specs.Places.{IsPlace, IsSourceStart}
use Rattle.xc_buffers.proofs.Orders.{before_itself, before_not, neither, not_before, one_source}
use Rattle.xc_buffers.proofs.Splits.{All-between, All-without, All-of, reversed_at}

-- the first item's source doesn't stand before the second one's
abbrev pub NotBefore : KeptItem → KeptItem → Type 0
NotBefore t u = is_before (source_of u) (source_of t) ≡ false

-- each item against all that are after it
abbrev pub Rises : List KeptItem → Type 0
Rises [] = Unit {0}
Rises (t ∷ items) = All (NotBefore t) items × Rises items

-- items in order rise
pub rises_from : (items : List KeptItem) → IsInOrder items → Rises items
rises_from [] order = tt
rises_from (t ∷ items) order =
    ((λ k d lt. order 0 (suc k) d (omega arith) (omega arith)), rises_from items (λ i j d lt within. order (suc i) (suc j) d (omega arith) (omega arith)))

-- those that rise are in order
pub order_from : (items : List KeptItem) → Rises items → IsInOrder items
order_from [] rises = λ i j d lt within. absurd (omega arith)
order_from (t ∷ items) rises = AllPairs-cons (λ x y. NotBefore x y) t items rises.0 (order_from items rises.1)

-- an item goes in after those of sources before its own, in front of the others
pub rises_with : (before behind : List KeptItem) (t : KeptItem) → Rises (before ++ behind)
    → All (λ x. is_before (source_of x) (source_of t) ≡ true) before → All (λ x. is_before (source_of x) (source_of t) ≡ false) behind
    → Rises (before ++ t ∷ behind)
rises_with [] behind t rises ahead others = (others, rises)
rises_with (x ∷ before) behind t rises ahead others =
    let P : KeptItem → Type 0 = λ y. is_before (source_of y) (source_of t) ≡ true in (
      All-between (NotBefore x) before behind t rises.0 (before_not (source_of x) (source_of t) (All-head P x before ahead)),
      rises_with before behind t rises.1 (All-tail P x before ahead) others,
    )

-- an item goes out
pub rises_without : (before behind : List KeptItem) (t : KeptItem) → Rises (before ++ t ∷ behind) → Rises (before ++ behind)
rises_without [] behind t rises = rises.1
rises_without (x ∷ before) behind t rises = (All-without (NotBefore x) before behind t rises.0, rises_without before behind t rises.1)

-- another of its source takes its place
pub rises_changed : (before behind : List KeptItem) (t u : KeptItem) → source_of t ≡ source_of u → Rises (before ++ t ∷ behind) → Rises (before ++ u ∷ behind)
rises_changed [] behind t u same rises = (subst (λ s. All (λ x. is_before (source_of x) s ≡ false) behind) same rises.0, rises.1)
rises_changed (x ∷ before) behind t u same rises =
    let at : NotBefore x t = All-of (NotBefore x) before behind t rises.0 in (
      All-between (NotBefore x) before behind u (All-without (NotBefore x) before behind t rises.0)
          (subst (λ s. is_before s (source_of x) ≡ false) same at),
      rises_changed before behind t u same rises.1,
    )

-- ---- a list in the reverse order
-- no item stands before a later one
pub falls : (stored : List KeptItem) → IsInOrder (reverse stored) → (i j : ℕ) (d : KeptItem) → i < j → j < length stored
    → is_before (source_of (get_or stored i d)) (source_of (get_or stored j d)) ≡ false
falls stored order i j d lt within =
    let n = length stored in
    let size = length-reverse stored in
    let x = get_or (reverse stored) (n - 1 - i) d in
    ap (λ t. is_before (source_of t) (source_of (get_or stored j d))) (sym (reversed_at stored i d (omega arith)))
    ∙ ap (λ t. is_before (source_of x) (source_of t)) (sym (reversed_at stored j d within))
    ∙ order (n - 1 - j) (n - 1 - i) d (omega arith) (omega (arith, size))

-- nor before itself
pub falls_from : (stored : List KeptItem) → IsInOrder (reverse stored) → (i j : ℕ) (d : KeptItem) → i ≤ j → j < length stored
    → is_before (source_of (get_or stored i d)) (source_of (get_or stored j d)) ≡ false
falls_from stored order i j d le within = by_case (cases_lt i j)
  where
    by_case : (i < j) ⊎ (j ≤ i) → is_before (source_of (get_or stored i d)) (source_of (get_or stored j d)) ≡ false
    by_case (inl lt) = falls stored order i j d lt within
    by_case (inr ge) =
        let same : i ≡ j = omega arith in
        ap (λ k. is_before (source_of (get_or stored k d)) (source_of (get_or stored j d))) same ∙ before_itself (source_of (get_or stored j d))

not_true : (b : Bool) → not b ≡ true → b ≡ false
not_true true e = cc
not_true false e = refl

not_false : (b : Bool) → not b ≡ false → b ≡ true
not_false true e = refl
not_false false e = cc

false_not : (b : Bool) → b ≡ false → not b ≡ true
false_not true e = cc
false_not false e = refl

-- a list in the reverse order is parted where a source's place is
pub parted_at : (source : Endpoint) (stored : List KeptItem) → IsInOrder (reverse stored)
    → IsPartitionedBy (λ t. not (is_before (source_of t) source)) stored
parted_at source stored order i j d le within passes =
    false_not _ (not_before (source_of (get_or stored i d)) (source_of (get_or stored j d)) source (falls_from stored order i j d le within)
    (not_true _ passes))

-- as the place is said
pub place_from : (source : Endpoint) (stored : List KeptItem) (at : ℕ)
    → IsPartitionPoint (λ t. not (is_before (source_of t) source) ≡ true) (λ t. not (is_before (source_of t) source) ≡ false) stored at
    → IsPlace source stored at
place_from source stored at point = ((λ k d le lt. not_true _ (point.0 k d le lt)), λ k d le lt. not_false _ (point.1 k d le lt))

-- and where its start is
pub parted_start : (source : Endpoint) (stored : List KeptItem) → IsInOrder (reverse stored)
    → IsPartitionedBy (λ t. is_before source (source_of t)) stored
parted_start source stored order i j d le within passes = by_test (is_before source (source_of (get_or stored i d))) refl
  where
    by_test : (b : Bool) → is_before source (source_of (get_or stored i d)) ≡ b → b ≡ true
    by_test true e = refl
    by_test false e =
        let no = not_before source (source_of (get_or stored i d)) (source_of (get_or stored j d)) e (falls_from stored order i j d le within) in
        cc (no, passes)

start_at : (source : Endpoint) (stored : List KeptItem) (from to : ℕ) (d : KeptItem) → from ≤ length stored → IsSourceStart source stored from
    → IsPlace source stored to → from ≤ to
start_at source stored from to d within start place = by_case (cases_lt to from)
  where
    by_case : (to < from) ⊎ (from ≤ to) → from ≤ to
    by_case (inr le) = le
    by_case (inl lt) =
        let behind = start.0 to d (omega arith) lt in
        let before = place.1 to d (omega arith) (omega arith) in
        let no = before_not source (source_of (get_or stored to d)) behind in
        absurd (cc (no, before))

-- the start isn't after the place
pub start_within : (source : Endpoint) (stored : List KeptItem) (from to : ℕ) → from ≤ length stored → IsSourceStart source stored from
    → IsPlace source stored to → from ≤ to
start_within source [] from to within start place = omega (arith, within)
start_within source (t ∷ stored) from to within start place = start_at source (t ∷ stored) from to t within start place

-- what is from a source stands between them
pub from_between : (source : Endpoint) (t : KeptItem) → is_before source (source_of t) ≡ false → is_before (source_of t) source ≡ false
    → is_from source t ≡ true
from_between source t e f = neither source (source_of t) e f

-- the item in front of the place is the first of its source, unless its source stands after
pub first_there : (source : Endpoint) (stored : List KeptItem) (at : ℕ) (d : KeptItem) → 0 < at → at ≤ length stored → IsPlace source stored at
    → is_before source (source_of (get_or stored (at - 1) d)) ≡ false → source_of (get_or stored (at - 1) d) ≡ source
first_there source stored at d some within place not_behind =
    sym (one_source source (source_of (get_or stored (at - 1) d))
    (neither source (source_of (get_or stored (at - 1) d)) not_behind (place.0 (at - 1) d (omega arith) (omega arith))))
