-- Where columns and lanes are.
use Rattle.std.specs.Prelude.{ℕ, ◌+◌, ◌*◌}

-- the right edge of a column; that of column 0 is where the journal begins
abbrev pub column_x : ℕ → ℕ
column_x column = 240 + 32 * column

-- the top of a lane
abbrev pub lane_y : ℕ → ℕ
lane_y lane = 12 + 28 * lane
