-- How bytes stand in the text of a picture.
use Rattle.std.specs.Prelude.{ℕ, ◌/◌, ◌%◌, ◌==◌, ◌&&◌, ◌||◌, Bool, false, not, if◌then◌else◌}
use Rattle.std.specs.Prelude.{List, [], ◌∷◌, ◌++◌, length, codes, nat_le, nat_lt}
use Rattle.std.specs.Fmt.{digit_glyph}

-- whether a byte is printable ASCII
abbrev pub is_printable : ℕ → Bool
is_printable b = nat_le 32 b && nat_le b 126

-- whether a byte can't end the text or the attribute that it stands in, nor begin a mark
abbrev pub is_safe : ℕ → Bool
is_safe b = is_printable b && not (b == 34) && not (b == 60) && not (b == 62)

-- whether a byte stands for itself
abbrev pub is_svg_plain : ℕ → Bool
is_svg_plain b = is_safe b && not (b == 38)

-- whether bytes are the rest of a reference: letters, digits and number signs, and a semicolon at the end
abbrev pub is_reference_rest : List ℕ → Bool
is_reference_rest [] = false
is_reference_rest (b ∷ rest) = b == 59 && (length rest == 0) ||
    (nat_le 48 b && nat_le b 57 || nat_le 97 b && nat_le b 122 || b == 35) && is_reference_rest rest

-- whether bytes are one plain byte, or a reference: an ampersand and its rest
abbrev pub is_svg_escape : List ℕ → Bool
is_svg_escape [] = false
is_svg_escape (b ∷ rest) = is_svg_plain b && (length rest == 0) || b == 38 && is_reference_rest rest

-- whether a byte is a character that XML doesn't allow
abbrev pub is_barred : ℕ → Bool
is_barred b = nat_lt b 32 && not (b == 9) && not (b == 10) && not (b == 13)

-- a byte that isn't printable, by the number of its character; U+FFFD stands for one that XML doesn't allow
abbrev pub reference : ℕ → List ℕ
reference b = if is_barred b then codes "&#65533;" else codes "&#x" ++ digit_glyph false (b / 16) ∷ digit_glyph false (b % 16) ∷ codes ";"

-- a byte in the text of a picture
abbrev pub svg_escaped_byte : ℕ → List ℕ
svg_escaped_byte b = if b == 34 then codes "&quot;" else if b == 38 then codes "&amp;" else if b == 60 then codes "&lt;"
    else if b == 62 then codes "&gt;" else if is_printable b then b ∷ [] else reference b

-- bytes in the text of a picture
abbrev pub svg_escaped : List ℕ → List ℕ
svg_escaped [] = []
svg_escaped (b ∷ bs) = svg_escaped_byte b ++ svg_escaped bs
