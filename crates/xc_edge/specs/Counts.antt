-- Counts of calls and of faults, and what they say of a failure.
use Rattle.std.specs.Prelude.{ℕ, ◌≤◌, Result, Ok, Err, OnErr}
use Rattle.xc_data.specs.Counts.{counted}
use Rattle.xc_edge.specs.View.{StreamView, HasFailed}

-- a count of faults after a call: one more where the call failed
abbrev pub faults_after : {T E : Type 0} → Result T E → ℕ → ℕ
faults_after (Ok _) n = n
faults_after (Err _) n = counted n

-- the count never falls, and the call fails only where it rose
pub record HasCause {T E : Type 0} (old new : StreamView) (result : Result T E) : Type 0 where
  pub later : old.faults ≤ new.faults
  pub failed : OnErr result (HasFailed old new)
