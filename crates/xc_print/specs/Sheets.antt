-- A text that goes to a sink in pieces.
use Rattle.std.specs.Prelude.{◌≡◌, ℕ, ◌+◌, ◌<◌, ◌≤◌, Bool, true, false, List, [], ◌∷◌, ◌++◌, length, take, nat_lt, Option, is_none}
use Rattle.std.specs.declared.option.Option.TheVariants.{None, Some}
use Rattle.std.specs.Io.KnownBytes.{Appends, append_known}
use Rattle.xc_data.specs.Step.{Step}
use Rattle.xc_edge.specs.View.{StreamView, HasFailed}

-- what was pushed, what of it the sink took, what waits to be written, and whether a write failed
pub record Gathered : Type 0 where
  pub said : List ℕ
  pub taken : List ℕ
  pub piece : List ℕ
  pub failed : Bool

-- the sink took so much of the text, since it stood as at the start: all but what waits; or, once a write failed, a front of it
pub record IsUnderway (sink : Step StreamView) (g : Gathered) : Type 0 where
  pub later : sink.old.faults ≤ sink.new.faults
  pub written : is_none sink.old.bytes ≡ false → sink.new.bytes ≡ append_known sink.old.bytes g.taken
  pub whole : g.failed ≡ false → g.said ≡ g.taken ++ g.piece
  pub short : g.failed ≡ true → length g.taken < length g.said
  pub front : g.failed ≡ true → g.taken ≡ take (length g.taken) g.said
  pub faulty : g.failed ≡ true → HasFailed sink.old sink.new

-- a front of a text was sent, behind what was taken before; if that wasn't all, a write failed
pub record IsSent (sink : Step StreamView) (before after text : List ℕ) (failed : Bool) : Type 0 where
  pub count : ℕ
  pub most : count ≤ length text
  pub told : Appends sink.old.bytes sink.new.bytes (take count text)
  pub later : sink.old.faults ≤ sink.new.faults
  pub taken : after ≡ before ++ take count text
  pub short : failed ≡ nat_lt count (length text)
  pub fault : failed ≡ true → HasFailed sink.old sink.new

-- what a sink told at the start, as numbers
abbrev pub told_heading : Option (List ℕ) → List ℕ
told_heading None = 0 ∷ []
told_heading (Some bytes) = (length bytes + 1) ∷ bytes

-- which sink a sheet has, and how it stood at the start: as numbers in front of a text
abbrev pub heading : ℕ → StreamView → List ℕ
heading name start = name ∷ start.faults ∷ told_heading start.bytes
