-- A transaction that commits or undoes, on its way to its entry.
use Rattle.std.specs.Prelude.{◌≡◌, ◌≢◌, ◌==◌, ◌-◌, ◌<◌, ℕ, List, [], ◌∷◌, ◌++◌, length, slice_get, Option, if◌then◌else◌}
use Rattle.std.specs.Option.{option_and_then}
use Rattle.std.specs.declared.option.Option.TheVariants.{None, Some}
use Rattle.xc_data.specs.declared.entry.Entry.{Entry}
use Rattle.xc_data.specs.declared.entry.Outcome.{Outcome}
use Rattle.xc_data.specs.declared.entry.Outcome.TheVariants.{Aborted, Committed}
use Rattle.xc_model.specs.declared.phase.Phase.{Phase}
use Rattle.xc_model.specs.declared.phase.Phase.TheVariants.{Running, Committing, Undoing, Backing}
use Rattle.xc_model.specs.Moment.{TxView, JobView, Doing, Idle, Active, Starved, Ended, late_left}

-- the phase of a job's active transaction
abbrev pub phase_in : Doing → Option Phase
phase_in (Active tx) = Some tx.phase
phase_in Idle = None
phase_in Starved = None
phase_in (Ended end) = None

-- what is told of the job of this number, if it is there
abbrev pub told_at : {A : Type 0} → (Doing → Option A) → List JobView → ℕ → Option A
told_at f jobs number =
    if number == 0 then None else option_and_then (λ (job : JobView). f job.doing) (slice_get jobs (number - 1))

-- the phase of the transaction of the job of this number, if it has an active one
abbrev pub phase_at : List JobView → ℕ → Option Phase
phase_at jobs number = told_at phase_in jobs number

-- how many turns a transaction in this phase has before that of its entry: one for each late call, or for each record, that has no
-- end yet
abbrev pub left_in : TxView → Phase → Option ℕ
left_in tx Running = None
left_in tx Backing = None
left_in tx Committing = Some (length (late_left tx))
left_in tx (Undoing c) = Some (length tx.undo.pending)

-- the same of what a job does
abbrev pub left_of : Doing → Option ℕ
left_of (Active tx) = left_in tx tx.phase
left_of Idle = None
left_of Starved = None
left_of (Ended end) = None

-- and of the job of this number
abbrev pub job_left_at : List JobView → ℕ → Option ℕ
job_left_at jobs number = told_at left_of jobs number

-- what a transaction in this phase comes to
abbrev pub ComesTo : Phase → Outcome → Type 0
ComesTo Running outcome = ⊥
ComesTo Backing outcome = ⊥
ComesTo Committing (Committed late) = Unit {0}
ComesTo Committing (Aborted report) = ⊥
ComesTo (Undoing c) (Committed late) = ⊥
ComesTo (Undoing c) (Aborted report) = report.cause ≡ c

-- the entry of the transaction of the job of this number, which was in this phase
pub record IsEntryOf (number : ℕ) (phase : Phase) (e : Entry) : Type 0 where
  pub job : e.job ≡ number
  pub outcome : ComesTo phase e.outcome

-- one entry more is in the journal, that of a transaction which was in this phase
abbrev pub AddsEntry : ℕ → Phase → List Entry → List Entry → Type 0
AddsEntry number phase old new = (e : Entry) × (new ≡ old ++ e ∷ []) × IsEntryOf number phase e

-- each other job that was there is as before
abbrev pub OthersStay : ℕ → List JobView → List JobView → Type 0
OthersStay number old new =
    (other : ℕ) → other ≢ number - 1 → other < length old → slice_get new other ≡ slice_get old other
