-- The first of the transactions that hold one object.
use Rattle.std.specs.Prelude.{◌≡◌, ◌<◌, ◌≤◌, ℕ, Option, Some, None}
use Rattle.xc_data.specs.declared.claim.Mode.{Mode}

-- of the modes of the transactions in one object: the smallest transaction from a number on that has one, and its mode
abbrev pub IsFirstFrom : (ℕ → Option Mode) → ℕ → Option (ℕ × Mode) → Type 0
IsFirstFrom modes low None = (k : ℕ) → low ≤ k → modes k ≡ None
IsFirstFrom modes low (Some h) = (low ≤ h.0) × (modes h.0 ≡ Some h.1) × ((k : ℕ) → low ≤ k → k < h.0 → modes k ≡ None)
