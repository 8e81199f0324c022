-- What escaped bytes are made of.
use Rattle.std.proofs.Common.{◌≡◌, ◌∷◌, [], ◌<◌, ◌&&◌, ℕ, List, Bool, true, refl, ap₂, ◌∙◌}
use Rattle.std.specs.List.{list_all}
use Rattle.std.proofs.lemmas.Bool.{agree_below_at}
use Rattle.std.proofs.lemmas.List.Folds.{list_all-append}
use Rattle.xc_lines.specs.Ranges.{AreBytes}
use Rattle.xc_picture.specs.Escapes.{is_safe, is_svg_escape, svg_escaped_byte, svg_escaped}

-- a byte gives one plain byte or a reference
pub byte_is_escape : (b : ℕ) → b < 256 → is_svg_escape (svg_escaped_byte b) ≡ true
byte_is_escape b small = agree_below_at (λ (n : ℕ). is_svg_escape (svg_escaped_byte n)) (λ (n : ℕ). true) 256 b refl small

-- a byte gives safe bytes
byte_is_safe : (b : ℕ) → b < 256 → list_all is_safe (svg_escaped_byte b) ≡ true
byte_is_safe b small = agree_below_at (λ (n : ℕ). list_all is_safe (svg_escaped_byte n)) (λ (n : ℕ). true) 256 b refl small

-- bytes give safe bytes
pub all_are_safe : (bytes : List ℕ) → AreBytes bytes → list_all is_safe (svg_escaped bytes) ≡ true
all_are_safe [] are = refl
all_are_safe (b ∷ bytes) are =
    list_all-append is_safe (svg_escaped_byte b) (svg_escaped bytes)
    ∙ ap₂ (λ (one others : Bool). one && others) (byte_is_safe b are.0) (all_are_safe bytes are.1)
