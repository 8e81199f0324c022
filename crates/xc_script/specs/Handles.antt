-- The handles of the prologue, by the variables that they are in.
use Rattle.std.specs.Prelude.{◌≡◌, ℕ, ◌<◌, List, slice_get}
use Rattle.std.specs.declared.option.Option.TheVariants.{Some}

-- a handle is in a variable
abbrev pub IsIn : List ℕ → ℕ → ℕ → Type 0
IsIn variables h v = slice_get variables h ≡ Some v

-- it is the last one that is in this variable
abbrev pub IsLastIn : List ℕ → ℕ → ℕ → Type 0
IsLastIn variables h v = IsIn variables h v × ((later : ℕ) → h < later → IsIn variables later v → ⊥)
