-- The holders of one object, and how they are laid out as entries of a map.
use Rattle.std.specs.Prelude.{ℕ, List, [], ◌∷◌, Option, Some, None, map}
use Rattle.std.specs.Ordering.{nat_cmp}
use Rattle.std.specs.BTreeMap.{is_at}
use Rattle.std.specs.Map.{lookup}
use Rattle.xc_data.specs.declared.claim.Mode.{Mode}
use Rattle.xc_data.specs.Claims.{stronger}
use Rattle.xc_locks.specs.declared.object_holders.HoldersForm.{HoldersForm}
use Rattle.xc_locks.specs.declared.object_holders.HoldersForm.TheVariants.{Nobody, One, Many}

-- the holders of one object, however they stand
abbrev pub listed : HoldersForm → List (ℕ × Mode)
listed Nobody = []
listed (One tx mode) = (tx, mode) ∷ []
listed (Many modes) = modes.entries

-- the mode of a transaction among the holders of an object
abbrev pub mode_among : List (ℕ × Mode) → ℕ → Option Mode
mode_among es n = lookup (is_at (nat_cmp n)) es

-- the mode of an object after a claim on it
abbrev pub with_mode : Option Mode → Mode → Mode
with_mode None mode = mode
with_mode (Some was) mode = stronger was mode

-- the holders of an object, each with the object
abbrev pub entries_at : {K : Type 0} → K → List (ℕ × Mode) → List ((K × ℕ) × Mode)
entries_at k es = map (λ (e : ℕ × Mode). ((k, e.0), e.1)) es
