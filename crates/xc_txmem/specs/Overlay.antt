-- Words with stores laid over them.
use Rattle.std.specs.Prelude.{◌≡◌, ℕ, ◌==◌, true, List, [], ◌∷◌, nat_lt, slice_set, unwrap_or, if◌then◌else◌}
use Rattle.std.specs.BTreeMap.{BTreeMap, get}
use Rattle.std.specs.List.{list_all}
use Rattle.std.specs.Ordering.{nat_cmp}

-- the words after these stores, the oldest first
abbrev pub overlaid : List ℕ → List (ℕ × ℕ) → List ℕ
overlaid words [] = words
overlaid words ((at, value) ∷ stores) = overlaid (slice_set words at value) stores

-- what these stores leave at a place that had this value
abbrev pub left_at : ℕ → ℕ → List (ℕ × ℕ) → ℕ
left_at at value [] = value
left_at at value ((place, stored) ∷ stores) = left_at at (if place == at then stored else value) stores

-- every stored place is in range of so many words
abbrev pub AreWithin : ℕ → List (ℕ × ℕ) → Type 0
AreWithin count stores = list_all (λ (s : ℕ × ℕ). nat_lt s.0 count) stores ≡ true

-- a map has what these stores leave at each place
abbrev pub IsNewest : BTreeMap ℕ ℕ → List (ℕ × ℕ) → Type 0
IsNewest newest stores = (at value : ℕ) → unwrap_or (get nat_cmp newest at) value ≡ left_at at value stores
