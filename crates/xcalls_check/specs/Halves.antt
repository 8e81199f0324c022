-- The two halves of an input: a script, and a text behind the first line that is `====`.
use Rattle.std.specs.Prelude.{ℕ, suc, ◌+◌, ◌==◌, ◌&&◌, ◌||◌, not, Bool, true, List, [], ◌∷◌, codes, take, drop, if◌then◌else◌}
use Rattle.xc_tokens.specs.Words.{spells}

-- the first line is `====`, with its LF or as the last line without it
abbrev pub is_divider : List ℕ → Bool
is_divider bytes = spells (take 5 bytes) (codes "====\n") || spells (take 5 bytes) (codes "====")

-- a byte of a line but for its LF
abbrev pub is_inner : ℕ → Bool
is_inner b = not (b == 10)

-- how many bytes stand in front of the first line that is `====`, or how many there are; and whether a line begins with them
abbrev pub script_len_from : Bool → List ℕ → ℕ
script_len_from starts [] = 0
script_len_from starts (b ∷ bs) = if starts && is_divider (b ∷ bs) then 0 else suc (script_len_from (b == 10) bs)

-- what stands in front of that line
abbrev pub script_part : List ℕ → List ℕ
script_part input = take (script_len_from true input) input

-- what stands behind it, with its five bytes
abbrev pub text_of : List ℕ → List ℕ
text_of input = drop (script_len_from true input + 5) input
