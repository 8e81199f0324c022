-- The rows of an idle job: it ends, waits, begins its next transaction, or finds no memory for that.
use Rattle.std.specs.Prelude.{◌≡◌, ℕ, ◌+◌, ◌<◌, ◌≤◌, List, [], length}
use Rattle.std.specs.Prelude.{IsSome, Bool, true, false}
use Rattle.std.specs.Prelude.{Option}
use Rattle.std.specs.declared.option.Option.TheVariants.{None, Some}
use Rattle.xc_data.specs.declared.object.Object.{Object}
use Rattle.xc_data.specs.declared.entry.Cause.{Cause}
use Rattle.xc_data.specs.declared.entry.Cause.TheVariants as cause
use Rattle.xc_data.specs.declared.entry.JobEnd.{JobEnd}
use Rattle.xc_data.specs.declared.entry.JobEnd.TheVariants as job_end
use Rattle.xc_data.specs.declared.entry.Turn.{Turn}
use Rattle.xc_data.specs.declared.entry.Turn.TheVariants as turn
use Rattle.xc_data.specs.declared.private.Private.{Private}
use Rattle.xc_script.specs.declared.ask.Ask.TheVariants as ask
use Rattle.xc_model.specs.declared.phase.Attempts.{Attempts}
use Rattle.xc_model.specs.declared.phase.Phase.TheVariants.{Running}
use Rattle.xc_model.specs.Live.{IsScripted, has_clients, most_entries}
use Rattle.xc_model.specs.Setting.{Setting}
use Rattle.xc_model.specs.Moment.{TxView, JobView, Ended, Moment}
use Rattle.xc_model.specs.Moment.{begun_count, failures, rank_of, with_job}
use Rattle.xc_model.specs.Moment.{unmarked, asked_to_wait}
use Rattle.xc_model.specs.Movers.{body_at, answered_with, IsActiveAt, Mover}

-- ---- an idle job
-- this cause names this transaction, for this object
abbrev pub CauseNames : Cause → Object → ℕ → Type 0
CauseNames (cause.Conflict met holder at) object number = (met ≡ object) × (holder ≡ number)
CauseNames (cause.Revoked met by at) object number = (met ≡ object) × (by ≡ number)
CauseNames cause.Asked object number = ⊥
CauseNames cause.NoMemory object number = ⊥
CauseNames (cause.Stuck failed) object number = ⊥

-- the last attempt's does, where one failed
abbrev pub NamesLast : Option Attempts → Object → ℕ → Type 0
NamesLast None object number = ⊥
NamesLast (Some a) object number = CauseNames a.last object number

-- a transaction of this number is active
abbrev pub IsActiveNumber : List JobView → ℕ → Type 0
IsActiveNumber jobs number = (j : ℕ) × (tx : TxView) × IsActiveAt jobs j tx × (tx.number ≡ number)

-- it waits for the transaction that ended its last attempt: that one is active, and patience is left
pub record IsWaiting (s : Setting) (now : Moment) (job : JobView) (object : Object) (number : ℕ) : Type 0 where
  pub left : IsSome (body_at s job.place)
  pub attempts : failures job.attempts < s.rules.attempts
  pub named : NamesLast job.attempts object number
  pub active : IsActiveNumber now.jobs number
  pub patient : job.busy < s.rules.patience

-- it waits for nobody
abbrev pub WaitsForNobody : Setting → Moment → JobView → Type 0
WaitsForNobody s now job = (object : Object) (number : ℕ) → IsWaiting s now job object number → ⊥

-- its client has handed in its end; of a script no transaction is left
abbrev pub IsOver : Bool → Setting → JobView → Type 0
IsOver true s job = job.handed ≡ Some ask.End
IsOver false s job = body_at s job.place ≡ None

-- its next transaction may begin
pub record MayBegin (s : Setting) (now : Moment) (job : JobView) : Type 0 where
  pub left : IsSome (body_at s job.place)
  pub more : IsOver (has_clients s.script) s job → ⊥
  pub attempts : failures job.attempts < s.rules.attempts
  pub free : WaitsForNobody s now job
  pub room : begun_count now < most_entries s.script

-- a transaction that has just begun
abbrev pub new_tx : ℕ → ℕ → ℕ → Private → TxView
new_tx number rank began me =
    record {
      number = number;
      rank = rank;
      began = began;
      phase = Running;
      me = me;
      writes = [];
      undo = record { pending = []; ended = [] };
      taken = [];
      calls = [];
      replies = [];
      held = [];
      late = [];
      ends = [];
      saved = None;
    }

-- the job at the start of its next transaction, whose number is the next
abbrev pub beginning_job : Moment → JobView → JobView
beginning_job now job =
    let number = begun_count now + 1 in
    let tx = new_tx number (rank_of job.attempts number) (length now.journal) job.me in
    record (answered_with job (record job.place { begun = job.place.variables }) tx) { busy = 0 }

-- the station after a begin: the new transaction has no mark
abbrev pub beginning_at : Moment → ℕ → JobView → Moment
beginning_at now at job =
    record (with_job now at (beginning_job now job)) { marks = unmarked now.marks (begun_count now + 1) }

-- it was tried as often as the rules allow, the last time with this cause
abbrev pub IsSpent : Setting → Option Attempts → Cause → Type 0
IsSpent s None c = ⊥
IsSpent s (Some a) c = (s.rules.attempts ≤ a.failed) × (a.last ≡ c)

-- it ends like this; for lack of memory a script's may wherever a transaction is left
abbrev pub IsEnding : Setting → Moment → JobView → JobEnd → Type 0
IsEnding s now job job_end.Done = IsOver (has_clients s.script) s job
IsEnding s now job (job_end.GaveUp c) = IsSome (body_at s job.place) × IsSpent s job.attempts c
IsEnding s now job job_end.JournalFull =
    IsSome (body_at s job.place) × (failures job.attempts < s.rules.attempts) × WaitsForNobody s now job × (10000 ≤ begun_count now)
IsEnding s now job job_end.NoMemory = IsScripted s.script × IsSome (body_at s job.place)

module _ (m : Mover) where
  -- an idle job ends, waits, or its next transaction begins; where a client's might and there is no memory for it, nothing changes
  abbrev pub IdleTurn : Turn → Moment → Type 0
  IdleTurn (turn.Ended end) new = IsEnding m.setting m.old m.job end × (new ≡ with_job m.old m.at (record m.job { doing = Ended end }))
  IdleTurn turn.Went new = MayBegin m.setting m.old m.job × (new ≡ beginning_at m.old m.at m.job)
  IdleTurn (turn.Busy object number) new = IsWaiting m.setting m.old m.job object number × (new ≡ with_job m.old m.at (asked_to_wait m.job))
  IdleTurn turn.NoMemory new = (has_clients m.setting.script ≡ true) × MayBegin m.setting m.old m.job × (new ≡ m.old)
