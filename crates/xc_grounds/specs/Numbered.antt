-- Transaction numbers: from one on as many as there are transactions, and a greater one didn't begin earlier.
use Rattle.std.specs.Prelude.{◌≡◌, ℕ, ◌+◌, ◌<◌, ◌≤◌, List, All, length, map, slice_get, take}
use Rattle.std.specs.declared.option.Option.TheVariants.{Some}
use Rattle.xc_data.specs.declared.entry.Entry.{Entry}
use Rattle.xc_model.specs.Grounds.{Part}
use Rattle.xc_model.specs.Stories.{entry_begin}

-- a greater number didn't begin earlier; a begin is a number and the length that the journal had then
abbrev pub AreInOrder : List (ℕ × ℕ) → Type 0
AreInOrder begins = (i j : ℕ) (a b : ℕ × ℕ) → slice_get begins i ≡ Some a → slice_get begins j ≡ Some b → a.0 < b.0 → a.1 ≤ b.1

-- the numbers are within 1 .. count, each once, and a greater one didn't begin earlier
pub record AreNumbered (count : ℕ) (begins : List (ℕ × ℕ)) : Type 0 where
  pub within : All (λ b. (1 ≤ b.0) × (b.0 ≤ count)) begins
  pub apart : (i j : ℕ) (a b : ℕ × ℕ) → slice_get begins i ≡ Some a → slice_get begins j ≡ Some b → a.0 ≡ b.0 → i ≡ j
  pub order : AreInOrder begins

-- those before this place are, with this one they aren't
abbrev pub IsFirstMisnumbered : ℕ → List (ℕ × ℕ) → ℕ → Type 0
IsFirstMisnumbered count begins place =
    (place < length begins) × AreNumbered count (take place begins) × (AreNumbered count (take (place + 1) begins) → ⊥)

-- those of a journal
abbrev pub entry_begins : List Entry → List (ℕ × ℕ)
entry_begins journal = map entry_begin journal

-- that of what a conflict is judged by
abbrev pub part_begin : Part → ℕ × ℕ
part_begin p = (p.number, p.began)

-- those of several
abbrev pub part_begins : List Part → List (ℕ × ℕ)
part_begins parts = map part_begin parts
