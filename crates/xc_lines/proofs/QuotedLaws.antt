-- Bytes that were printed in quotes are read again.
use Rattle.std.proofs.Common.{◌≡◌, ℕ, ◌<◌, ◌/◌, ◌%◌, Bool, true, false, ◌&&◌, List, [], ◌∷◌, ◌++◌, Some, refl, ap, ◌∙◌}
use Rattle.std.proofs.Common.{append_assoc, inl, inr}
use Rattle.std.specs.Prelude.{◌==◌, nat_le, codes}
use Rattle.std.specs.Fmt.{digit_glyph}
use Rattle.std.proofs.lemmas.Bool.{cases_eq, cases_Bool, ne_eqb, eqb-true, agree_below_at}
use Rattle.xc_tokens.specs.Quoted.{literal_of, then_rest, is_hex, hex_byte}
use Rattle.xc_print.specs.Bytes.{escaped_byte, escaped, bytes_text}
use Rattle.xc_lines.specs.Parts.{bytes_at}
use Rattle.xc_lines.specs.Ranges.{AreBytes}

-- its two digits are digits, and mean the byte
are_digits : ℕ → Bool
are_digits b = is_hex (digit_glyph false (b / 16)) && is_hex (digit_glyph false (b % 16))

mean_it : ℕ → Bool
mean_it b = hex_byte (digit_glyph false (b / 16)) (digit_glyph false (b % 16)) == b

two_digits : (b : ℕ) → b < 256 → (is_hex (digit_glyph false (b / 16)) && is_hex (digit_glyph false (b % 16))) ≡ true
unfolding are_digits
two_digits b small = agree_below_at are_digits (λ b. true) 256 b refl small

meant : (b : ℕ) → b < 256 → hex_byte (digit_glyph false (b / 16)) (digit_glyph false (b % 16)) ≡ b
unfolding mean_it
meant b small = eqb-true _ b (agree_below_at mean_it (λ b. true) 256 b refl small)

-- one byte more
piece_again : (b : ℕ) (more : List ℕ) → b < 256 → literal_of (escaped_byte b ++ more) ≡ then_rest b (literal_of more)
piece_again b more small =
    elim (cases_eq b 34) [
      | inl same ↦ rw same refl
      | inr quote ↦ elim (cases_eq b 92) [
        | inl same ↦ rw same refl
        | inr back ↦ elim (cases_eq b 10) [
          | inl same ↦ rw same refl
          | inr line ↦ elim (cases_Bool (nat_le 32 b && nat_le b 126)) [
            | inl plain ↦ rw (ne_eqb b 34 quote, ne_eqb b 92 back, ne_eqb b 10 line, plain, ne_eqb b 34 quote, ne_eqb b 92 back) refl
            | inr other ↦ rw (ne_eqb b 34 quote, ne_eqb b 92 back, ne_eqb b 10 line, other, two_digits b small, meant b small) refl
          ]
        ]
      ]
    ]

-- bytes are read again behind their first quote
pub literal_again : (bs rest : List ℕ) → AreBytes bs → literal_of (escaped bs ++ 34 ∷ rest) ≡ Some (bs, rest)
literal_again [] rest all = refl
literal_again (b ∷ bs) rest all =
    ap literal_of (append_assoc (escaped_byte b) (escaped bs) (34 ∷ rest))
    ∙ piece_again b (escaped bs ++ 34 ∷ rest) all.0 ∙ ap (then_rest b) (literal_again bs rest all.1)

-- what stands behind the first quote
pub quoted : (bs rest : List ℕ) → bytes_text bs ++ rest ≡ 34 ∷ (escaped bs ++ 34 ∷ rest)
quoted bs rest = ap (λ (t : List ℕ). 34 ∷ t) (append_assoc (escaped bs) (codes "\"") rest)

-- bytes are read again
pub bytes_again : (bs rest : List ℕ) → AreBytes bs → bytes_at (bytes_text bs ++ rest) ≡ Some (bs, rest)
unfolding bytes_at
bytes_again bs rest all = ap bytes_at (quoted bs rest) ∙ literal_again bs rest all
