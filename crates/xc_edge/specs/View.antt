-- A stream as contracts see it.
use Rattle.std.specs.Prelude.{ℕ, ◌≤◌, List, Option}
use Rattle.xc_data.specs.Counts.{counted}

-- the bytes that a source has left or a sink has taken, where it tells them; and how often a call failed
pub record StreamView : Type 0 where
  pub bytes : Option (List ℕ)
  pub faults : ℕ

-- a call failed, or the count of failures stands at its last value
abbrev pub HasFailed : StreamView → StreamView → Type 0
HasFailed old new = counted old.faults ≤ new.faults
