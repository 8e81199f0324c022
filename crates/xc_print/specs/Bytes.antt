-- How bytes are printed.
use Rattle.std.specs.Prelude.{ℕ, ◌/◌, ◌%◌, ◌==◌, ◌&&◌, Bool, not, false, List, [], ◌∷◌, ◌++◌, codes, nat_le, if◌then◌else◌}
use Rattle.std.specs.Fmt.{digit_glyph}

-- a backslash, an x and two lower-case hexadecimal digits
abbrev pub hex_escape : ℕ → List ℕ
hex_escape b = codes "\\x" ++ digit_glyph false (b / 16) ∷ digit_glyph false (b % 16) ∷ []

-- whether a byte stands for itself between quotes
abbrev pub is_plain : ℕ → Bool
is_plain b = nat_le 32 b && nat_le b 126 && not (b == 34) && not (b == 92)

-- a byte between quotes: the quote, the backslash and the line's end have an escape of two characters
abbrev pub escaped_byte : ℕ → List ℕ
escaped_byte b = if b == 34 then codes "\\\"" else if b == 92 then codes "\\\\" else if b == 10 then codes "\\n"
    else if nat_le 32 b && nat_le b 126 then b ∷ [] else hex_escape b

-- bytes between quotes
abbrev pub escaped : List ℕ → List ℕ
escaped [] = []
escaped (b ∷ bs) = escaped_byte b ++ escaped bs

-- bytes in quotes
abbrev pub bytes_text : List ℕ → List ℕ
bytes_text bs = codes "\"" ++ escaped bs ++ codes "\""
