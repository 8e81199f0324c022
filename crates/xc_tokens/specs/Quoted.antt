-- What stands between quotes.
use Rattle.std.specs.Prelude.{ℕ, ◌+◌, ◌-◌, ◌*◌, ◌==◌, ◌||◌, ◌&&◌, not, Bool, List, [], ◌∷◌, length, nat_le}
use Rattle.std.specs.Prelude.{Option, Some, None, if◌then◌else◌}
use Rattle.xc_tokens.specs.Numbers.{is_digit}

-- `A` to `F`
abbrev pub is_upper_hex : ℕ → Bool
is_upper_hex b = nat_le 65 b && nat_le b 70

-- `a` to `f`
abbrev pub is_lower_hex : ℕ → Bool
is_lower_hex b = nat_le 97 b && nat_le b 102

-- a hexadecimal digit of either case
abbrev pub is_hex : ℕ → Bool
is_hex b = is_digit b || is_upper_hex b || is_lower_hex b

-- the value of a hexadecimal digit
abbrev pub digit_value : ℕ → ℕ
digit_value b =
    if is_digit b then b - 48
    else if is_upper_hex b then b - 55
    else if is_lower_hex b then b - 87
    else 0

-- the byte that two hexadecimal digits mean
abbrev pub hex_byte : ℕ → ℕ → ℕ
hex_byte first second = 16 * digit_value first + digit_value second

-- a byte that is an escape with the `\` before it: `n`, `"` or `\`
abbrev pub is_escape : ℕ → Bool
is_escape b = (b == 110) || (b == 34) || (b == 92)

-- what such an escape means: `\n` is the byte 10, and the others are themselves
abbrev pub escape_meaning : ℕ → ℕ
escape_meaning b = if b == 110 then 10 else b

-- a byte of a literal that means itself: no quote and no `\`
abbrev pub is_itself : ℕ → Bool
is_itself b = not ((b == 34) || (b == 92))

-- a byte, and what the rest of a literal means
abbrev pub then_rest : ℕ → Option (List ℕ × List ℕ) → Option (List ℕ × List ℕ)
then_rest b (Some (meant, behind)) = Some (b ∷ meant, behind)
then_rest b None = None

abbrev mutual
  -- what a literal means whose opening quote stands before the bytes, and what stands after its closing quote
  pub literal_of : List ℕ → Option (List ℕ × List ℕ)
  literal_of [] = None
  literal_of (b ∷ bs) =
      if b == 34 then Some ([], bs)
      else if b == 92 then escape_of bs
      else then_rest b (literal_of bs)

  -- the same after a `\`
  pub escape_of : List ℕ → Option (List ℕ × List ℕ)
  escape_of [] = None
  escape_of (b ∷ bs) =
      if is_escape b then then_rest (escape_meaning b) (literal_of bs)
      else if b == 120 then hex_of bs
      else None

  -- the same after `\x`
  pub hex_of : List ℕ → Option (List ℕ × List ℕ)
  hex_of (first ∷ second ∷ bs) =
      if is_hex first && is_hex second then then_rest (hex_byte first second) (literal_of bs)
      else None
  hex_of _ = None

-- the bytes of a literal, none where it isn't one
abbrev pub meant_in : Option (List ℕ × List ℕ) → List ℕ
meant_in (Some p) = p.0
meant_in None = []

-- what a literal means whose opening quote stands before the bytes
abbrev pub meant_by : List ℕ → List ℕ
meant_by bs = meant_in (literal_of bs)

-- how many bytes a literal means, and what stands after it
abbrev pub measured : Option (List ℕ × List ℕ) → Option (ℕ × List ℕ)
measured (Some p) = Some (length p.0, p.1)
measured None = None
