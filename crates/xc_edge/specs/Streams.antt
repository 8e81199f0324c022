-- What several reads take from a source, and what several writes append to a sink.
use Rattle.std.specs.Prelude.{ℕ, ◌≤◌, ◌<◌, List, length, take}
use Rattle.std.specs.Io.KnownBytes.{Appends, Consumes, IsAtEnd}
use Rattle.xc_edge.specs.View.{StreamView}

-- these bytes came: all there were, or as many as the limit says
pub record Came (limit : ℕ) (old new : StreamView) (bytes : List ℕ) : Type 0 where
  pub taken : Consumes old.bytes new.bytes bytes
  pub bound : length bytes ≤ limit
  pub end : length bytes < limit → IsAtEnd new.bytes

-- a front of at most so many bytes was taken
abbrev pub ConsumesUpTo : ℕ → StreamView → StreamView → Type 0
ConsumesUpTo limit old new = (front : List ℕ) × (length front ≤ limit) × Consumes old.bytes new.bytes front

-- the whole text was appended
abbrev pub AppendsWhole : StreamView → StreamView → List ℕ → Type 0
AppendsWhole old new text = Appends old.bytes new.bytes text

-- a front of the text was appended, and not the whole of it
abbrev pub AppendsPart : StreamView → StreamView → List ℕ → Type 0
AppendsPart old new text = (n : ℕ) × (n < length text) × Appends old.bytes new.bytes (take n text)
