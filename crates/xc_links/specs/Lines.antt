-- Lines that were read from a link.
use Rattle.std.specs.Prelude.{◌≢◌, ℕ, ◌<◌, List, [], ◌∷◌, ◌++◌, All, Option, length, take}
use Rattle.std.specs.declared.option.Option.TheVariants.{None, Some}
use Rattle.std.specs.Io.KnownBytes.{Consumes, IsAtEnd}
use Rattle.xc_links.specs.Wires.{Wire}
use Rattle.xc_links.specs.declared.line.WireLine.{WireLine}
use Rattle.xc_links.specs.declared.line.WireLine.TheVariants.{Whole, TooLong, Rest}

-- a byte came, or none is left
abbrev pub IsByte : Wire → Wire → Option ℕ → Type 0
IsByte old new None = Consumes old.left new.left [] × IsAtEnd new.left
IsByte old new (Some b) = Consumes old.left new.left (b ∷ [])

-- no byte ends a line
abbrev pub IsWithin : List ℕ → Type 0
IsWithin bytes = All (λ b. b ≢ 10) bytes

-- the line that was read, into a buffer of 65 bytes
abbrev pub IsWireLine : Wire → Wire → List ℕ → WireLine → Type 0
IsWireLine old new buffer (Whole n) = (n < 65) × IsWithin (take n buffer) × Consumes old.left new.left (take n buffer ++ 10 ∷ [])
IsWireLine old new buffer TooLong = IsWithin buffer × Consumes old.left new.left buffer
IsWireLine old new buffer (Rest n) = (n < 65) × IsWithin (take n buffer) × Consumes old.left new.left (take n buffer) × IsAtEnd new.left

-- a front of a line was read
abbrev pub IsCut : Wire → Wire → Type 0
IsCut old new = (front : List ℕ) × (length front < 65) × IsWithin front × Consumes old.left new.left front
