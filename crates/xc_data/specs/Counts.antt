-- Counts of faults and of calls, as a u64 keeps them: at its last value a count stays.
use Rattle.std.specs.Prelude.{◌≡◌, ℕ, zero, suc, ◌+◌, ◌-◌, ◌^◌, min, Bool, true, false}

-- a count after so many more
abbrev pub raised : ℕ → ℕ → ℕ
raised before n = min (before + n) (2 ^ 64 - 1)

-- a count after one more
abbrev pub counted : ℕ → ℕ
counted before = raised before 1

-- the count rose by one where there was a fault, and stays otherwise
abbrev pub CountsFault : Bool → ℕ → ℕ → Type 0
CountsFault true before now = now ≡ counted before
CountsFault false before now = now ≡ before

-- the count rose by so many, and stays where there are none
abbrev pub RisesBy : ℕ → ℕ → ℕ → Type 0
RisesBy zero before now = now ≡ before
RisesBy (suc n) before now = now ≡ raised before (suc n)
