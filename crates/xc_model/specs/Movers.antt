-- Where a job is in its next transaction, and the job that takes its turn.
use Rattle.std.specs.Prelude.{◌≡◌, ℕ, ◌≤◌, List, slice_get}
use Rattle.std.specs.Prelude.{Option}
use Rattle.std.specs.declared.option.Option.TheVariants.{None, Some}
use Rattle.xc_data.specs.declared.script.HostCallKind.{HostCallKind}
use Rattle.xc_host.specs.Cause.{IsCalled}
use Rattle.xc_text.specs.Stated.{Statement}
use Rattle.xc_script.specs.declared.ask.Ask.{Ask}
use Rattle.xc_script.specs.Ask.{next_body}
use Rattle.xc_script.specs.Position.{Position, job_of, walk_of}
use Rattle.xc_model.specs.Live.{asked_by, has_clients}
use Rattle.xc_model.specs.Setting.{Setting}
use Rattle.xc_model.specs.Moment.{TxView, JobView, Active, Moment}
use Rattle.xc_model.specs.Moment.{active_of}

-- ---- where a job stands
-- its next transaction, where one is left
abbrev pub body_at : Setting → Position → Option (List Statement)
body_at s place = next_body s.script (job_of place)

-- what the transaction of a job is asked next
abbrev pub asked_at : Setting → JobView → Ask
asked_at s job = asked_by (has_clients s.script) s.script job.handed job.place

-- the job stands in the same transaction, with the same variables for its abort
pub record IsSameBegin (old new : Position) : Type 0 where
  pub block : new.block ≡ old.block
  pub next : new.next ≡ old.next
  pub begun : new.begun ≡ old.begun

-- it passed silent statements at most: it stands before the same as before
pub record IsSamePosition (s : Setting) (old new : Position) : Type 0 where
  pub begin : IsSameBegin old new
  pub walk : walk_of s.script new ≡ walk_of s.script old
  pub saved : new.saved ≡ old.saved
  pub at : old.at ≤ new.at

-- the job with its transaction like this, at this place
abbrev pub with_tx : JobView → Position → TxView → JobView
with_tx job place tx = record job { place = place; doing = Active tx }

-- the same, where what was handed in is answered
abbrev pub answered_with : JobView → Position → TxView → JobView
answered_with job place tx = record job { place = place; handed = None; doing = Active tx }

-- this transaction is the active one of the job in this place
abbrev pub IsActiveAt : List JobView → ℕ → TxView → Type 0
IsActiveAt jobs j tx = (job : JobView) × (slice_get jobs j ≡ Some job) × (active_of job ≡ Some tx)

-- the job that takes its turn: by which setting, in which place, counted from 0, from which moment, and how it stands
pub record Mover : Type 0 where
  pub setting : Setting
  pub at : ℕ
  pub old : Moment
  pub job : JobView

-- the job in this place, from this moment
abbrev pub mover : Setting → ℕ → Moment → JobView → Mover
mover s at old job = record { setting = s; at = at; old = old; job = job }

-- the host was called so, from one moment to another
abbrev pub HasCalled : (List HostCallKind → Type 0) → Moment → Moment → Type 0
HasCalled IsMade old new = (made : List HostCallKind) × IsMade made × IsCalled made old.calls new.calls
