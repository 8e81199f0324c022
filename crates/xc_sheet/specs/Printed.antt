-- What was read is what is printed: it is printed again, and compared.
use Rattle.std.specs.Prelude.{ℕ, ◌==◌, List, length, Option, Some, None, if◌then◌else◌}
use Rattle.xc_lines.specs.Parts.{◌>>=◌, Read, past}

-- what stands behind these bytes, of which there is one at least
unfoldable pub past_some : List ℕ → List ℕ → Option (List ℕ)
past_some front bytes = if length front == 0 then None else past front bytes

-- a value whose text stands there
unfoldable pub printed : {A : Type 0} → (List ℕ → Read A) → (A → List ℕ) → List ℕ → Read A
printed read text bytes = do
  x ← read bytes
  rest ← past_some (text x.0) bytes
  Some (x.0, rest)
