-- A script cut into lines.
use Rattle.std.specs.Prelude.{ℕ, ◌==◌, ◌||◌, ◌&&◌, Bool, List, [], ◌∷◌, nat_le, if◌then◌else◌}

-- a byte in front of the first line
abbrev pub in_first : ℕ → List (List ℕ) → List (List ℕ)
in_first b [] = (b ∷ []) ∷ []
in_first b (line ∷ lines) = (b ∷ line) ∷ lines

-- the lines, each ended by the byte 10; the last may lack it
abbrev pub lines_of : List ℕ → List (List ℕ)
lines_of [] = []
lines_of (b ∷ bs) = if b == 10 then [] ∷ lines_of bs else in_first b (lines_of bs)

-- a byte that may stand in a line: a TAB, or one from the space to `~`
abbrev pub is_line_byte : ℕ → Bool
is_line_byte b = (b == 9) || (nat_le 32 b && nat_le b 126)
