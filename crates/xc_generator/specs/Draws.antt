-- The draws that follow from a seed.
use Rattle.std.specs.Prelude.{ℕ, zero, suc, ◌+◌, ◌*◌, ◌/◌, ◌%◌, ◌^◌}

-- the state after one more draw
abbrev pub next : ℕ → ℕ
next s = (s * 6364136223846793005 + 1442695040888963407) % 2 ^ 64

-- the state after n draws from a seed
unfoldable pub state : ℕ → ℕ → ℕ
state seed zero = seed
state seed (suc n) = next (state seed n)

-- the value of the n-th draw from a seed, counted from 1
abbrev pub drawn : ℕ → ℕ → ℕ
drawn seed n = state seed n / 2 ^ 33
