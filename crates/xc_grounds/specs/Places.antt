-- A table that has the place of each number.
use Rattle.std.specs.Prelude.{◌≡◌, ℕ, ◌+◌, ◌<◌, ◌≤◌, List, Option, length, slice_get, get_or, take}
use Rattle.std.specs.declared.option.Option.TheVariants.{None, Some}
use Rattle.xc_grounds.specs.Numbered.{AreInOrder}

-- the table has the place of each number among these, and no other
pub record HasPlaces (begins : List (ℕ × ℕ)) (table : List (Option ℕ)) : Type 0 where
  pub none : get_or table 0 None ≡ None
  pub found : (number place : ℕ) → get_or table number None ≡ Some place
      → (b : ℕ × ℕ) × (slice_get begins place ≡ Some b) × (b.0 ≡ number)
  pub there : (place : ℕ) (b : ℕ × ℕ) → slice_get begins place ≡ Some b → get_or table b.0 None ≡ Some place

-- a number of the table that has no place yet
pub record IsUnusedNumber (table : List (Option ℕ)) (number : ℕ) : Type 0 where
  pub above : 1 ≤ number
  pub within : number < length table
  pub unused : get_or table number None ≡ None

-- so many were entered in a table of this size, and no more where the next one's number isn't free
pub record AreEntered (begins : List (ℕ × ℕ)) (size count : ℕ) (table : List (Option ℕ)) : Type 0 where
  pub within : count ≤ length begins
  pub same : length table ≡ size
  pub has : HasPlaces (take count begins) table
  pub stopped : (b : ℕ × ℕ) → slice_get begins count ≡ Some b → IsUnusedNumber table b.0 → ⊥

-- the transaction of this number began then
pub record IsBegin (begins : List (ℕ × ℕ)) (number began : ℕ) : Type 0 where
  pub place : ℕ
  pub at : slice_get begins place ≡ Some (number, began)

-- of none is this the number
abbrev pub IsNoNumber : List (ℕ × ℕ) → ℕ → Type 0
IsNoNumber begins number = (place : ℕ) (b : ℕ × ℕ) → slice_get begins place ≡ Some b → b.0 ≡ number → ⊥

-- those before this place are in order, with this one they aren't
abbrev pub IsFirstDisordered : List (ℕ × ℕ) → ℕ → Type 0
IsFirstDisordered begins place =
    (place < length begins) × AreInOrder (take place begins) × (AreInOrder (take (place + 1) begins) → ⊥)
