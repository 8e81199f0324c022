-- What a host answered, whether that is a fault, and which of its calls were made.
use Rattle.std.specs.Prelude.{ℕ, Bool, true, false, List, count_by, Result, Ok, Err}
use Rattle.xc_data.specs.Counts.{RisesBy}
use Rattle.xc_data.specs.Kinds.{is_kind}
use Rattle.xc_data.specs.declared.script.HostCallKind.{HostCallKind}
use Rattle.xc_data.specs.declared.script.HostCallKind.TheVariants.{Any}
use Rattle.xc_host.specs.declared.errors.Fault.{Fault}
use Rattle.xc_host.specs.declared.errors.HostErr.{HostErr}
use Rattle.xc_host.specs.declared.errors.HostErr.TheVariants as host_err

-- the answer is a fault; lack of memory is none
abbrev pub is_fault : {T : Type 0} → Result T HostErr → Bool
is_fault (Ok x) = false
is_fault (Err host_err.Fault) = true
is_fault (Err host_err.NoMemory) = false

-- an answer of a call that takes no memory, as one of a call that may want it
abbrev pub without_memory : {T : Type 0} → Result T Fault → Result T HostErr
without_memory (Ok x) = Ok x
without_memory (Err e) = Err host_err.Fault

-- ---- which calls were made
-- a call of one kind counts for another: for its own, and each for `Any`
abbrev pub counts_for : HostCallKind → HostCallKind → Bool
counts_for Any made = true
counts_for kind made = is_kind kind made

-- how many of these calls count for a kind
abbrev pub times : HostCallKind → List HostCallKind → ℕ
times kind made = count_by (counts_for kind) made

-- a host's counts of calls, by kind, rose by these calls and no others
abbrev pub IsCalled : List HostCallKind → (HostCallKind → ℕ) → (HostCallKind → ℕ) → Type 0
IsCalled made before now = (kind : HostCallKind) → RisesBy (times kind made) (before kind) (now kind)
