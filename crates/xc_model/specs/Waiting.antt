-- Who waits for whom, and who is marked.
use Rattle.std.specs.Prelude.{◌≡◌, ◌≢◌, ◌⊎◌, ℕ, ◌<◌, Bool, not, is_some, length, Contains}
use Rattle.xc_data.specs.declared.claim.Claim.{Claim}
use Rattle.xc_data.specs.declared.entry.Turn.{Turn}
use Rattle.xc_data.specs.declared.entry.Turn.TheVariants as turn
use Rattle.xc_data.specs.declared.object.Object.{Object}
use Rattle.xc_data.specs.declared.entry.Mark.{Mark}
use Rattle.xc_model.specs.declared.phase.Phase.TheVariants.{Running}
use Rattle.xc_model.specs.Setting.{Setting}
use Rattle.xc_model.specs.Moment.{TxView, JobView, Idle, Moment, active_of}
use Rattle.xc_model.specs.Movers.{IsActiveAt}
use Rattle.xc_model.specs.IdleRows.{IsWaiting}

-- this running transaction waits for a younger one of another job, which holds the object
pub record WaitsFor (at : ℕ) (now : Moment) (tx : TxView) (object : Object) (number : ℕ) : Type 0 where
  pub active : IsActiveAt now.jobs at tx
  pub running : tx.phase ≡ Running
  pub place : ℕ
  pub other : place ≢ at
  pub holder : TxView
  pub there : IsActiveAt now.jobs place holder
  pub numbered : holder.number ≡ number
  pub younger : tx.rank < holder.rank
  pub claim : Claim
  pub holds : Contains holder.held claim
  pub names : claim.object ≡ object

-- the job in this place is told to wait for this transaction: the one that ended its last attempt, or a younger one
abbrev pub MayWait : Setting → ℕ → Moment → Object → ℕ → Type 0
MayWait s at now object number =
    ((job : JobView) × (job.doing ≡ Idle) × IsWaiting s now job object number) ⊎ ((tx : TxView) × WaitsFor at now tx object number)

-- it has an active transaction
abbrev pub has_active : JobView → Bool
has_active job = is_some (active_of job)

-- its count after a turn with another answer: 0 where a transaction began or entered, else as before
abbrev pub CountsOn : JobView → JobView → Type 0
CountsOn was is =
    ((is.busy ≡ was.busy) × (has_active is ≡ has_active was)) ⊎ ((is.busy ≡ 0) × (has_active is ≡ not (has_active was)))

-- this transaction is marked in a turn whose answer names it: an older one waits for it, and the journal is so long
pub record IsMarkedBy (at : ℕ) (now : Moment) (answer : Turn) (number : ℕ) (m : Mark) : Type 0 where
  pub answer_is : answer ≡ turn.Busy m.object number
  pub tx : TxView
  pub waits : WaitsFor at now tx m.object number
  pub by_is : m.by ≡ tx.number
  pub at_is : m.at ≡ length now.journal
