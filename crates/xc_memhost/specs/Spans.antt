-- Fault lines that are looked up.
use Rattle.std.specs.Prelude.{◌≡◌, ℕ, ◌==◌, ◌<◌, ◌≤◌, Bool, List, [], ◌∷◌, slice_get, unwrap_or}
use Rattle.std.specs.List.{list_any}
use Rattle.std.specs.List.Sorted.{IsNonDecreasingBy}
use Rattle.xc_data.specs.declared.script.FaultLine.{FaultLine}
use Rattle.xc_data.specs.declared.script.HostCallKind.{HostCallKind}
use Rattle.xc_data.specs.Kinds.{kind_place}
use Rattle.xc_memhost.specs.Faults.{any_within, is_line_of}

-- a line's kind has this place
abbrev pub is_at_place : ℕ → FaultLine → Bool
is_at_place place line = kind_place line.kind == place

-- in the order of their first numbers
abbrev pub IsRising : List FaultLine → Type 0
IsRising lines = IsNonDecreasingBy (λ line. line.first) lines

-- a line ends before the first of the others begins
abbrev pub EndsBefore : FaultLine → List FaultLine → Type 0
EndsBefore a [] = Unit {0}
EndsBefore a (b ∷ lines) = (a.last < b.first) × (a.first ≤ b.first)

-- each line ends before the next begins
abbrev pub AreDisjoint : List FaultLine → Type 0
AreDisjoint [] = Unit {0}
AreDisjoint (a ∷ lines) = EndsBefore a lines × AreDisjoint lines

-- the lines of each kind's place list the numbers that all lines list for it
abbrev pub IsIndex : List FaultLine → List (List FaultLine) → Type 0
IsIndex lines listed =
    (kind : HostCallKind) (n : ℕ) → any_within n (unwrap_or (slice_get listed (kind_place kind)) []) ≡ list_any (is_line_of kind n) lines
