-- The table of turns: from one moment to the next, a row for each thing that a job may do.
use Rattle.std.specs.Prelude.{◌≡◌, true, ℕ, ◌-◌, List, ◌++◌, length, replicate, slice_get}
use Rattle.std.specs.declared.option.Option.TheVariants.{Some}
use Rattle.xc_data.specs.declared.entry.Entry.{Entry}
use Rattle.xc_data.specs.declared.entry.JobEnd.TheVariants as job_end
use Rattle.xc_data.specs.declared.entry.Turn.{Turn}
use Rattle.xc_data.specs.declared.entry.Turn.TheVariants as turn
use Rattle.xc_script.specs.declared.ask.Ask.{Ask}
use Rattle.xc_model.specs.declared.phase.Phase.{Phase}
use Rattle.xc_model.specs.declared.phase.Phase.TheVariants.{Running, Committing, Undoing, Backing}
use Rattle.xc_model.specs.Live.{IsScripted, has_clients}
use Rattle.xc_model.specs.Setting.{Setting}
use Rattle.xc_model.specs.Moment.{TxView, JobView, Doing, Idle, Active, Starved, Ended, Moment}
use Rattle.xc_model.specs.Moment.{with_job}
use Rattle.xc_model.specs.Movers.{Mover, mover}
use Rattle.xc_model.specs.IdleRows.{IdleTurn}
use Rattle.xc_model.specs.RunningRows.{MarkedTurn}
use Rattle.xc_model.specs.CommittingRows.{CommittingTurn}
use Rattle.xc_model.specs.UndoingRows.{UndoingTurn}
use Rattle.xc_model.specs.BackingRows.{MarkedBack}

-- ---- all rows
module _ (m : Mover) where
  -- a job whose last transaction was aborted for lack of memory ends; where clients ask it is idle again
  abbrev pub StarvedTurn : Turn → Moment → Type 0
  StarvedTurn (turn.Ended job_end.NoMemory) new =
      IsScripted m.setting.script × (new ≡ with_job m.old m.at (record m.job { doing = Ended job_end.NoMemory }))
  StarvedTurn turn.Went new = (has_clients m.setting.script ≡ true) × (new ≡ with_job m.old m.at (record m.job { doing = Idle }))
  StarvedTurn _ new = ⊥

  -- a job with an active transaction, by the transaction's phase
  abbrev pub ActiveTurn : TxView → Phase → Turn → Moment → Type 0
  ActiveTurn tx Running answer new = MarkedTurn m tx (m.old.marks tx.number) answer new
  ActiveTurn tx Committing answer new = CommittingTurn m tx answer new
  ActiveTurn tx (Undoing c) answer new = UndoingTurn m tx c answer new
  ActiveTurn tx Backing answer new = MarkedBack m tx (m.old.marks tx.number) answer new

  -- by what the job does; one that has ended has no turn
  abbrev pub TurnOf : Doing → Turn → Moment → Type 0
  TurnOf Idle answer new = IdleTurn m answer new
  TurnOf (Active tx) answer new = ActiveTurn tx tx.phase answer new
  TurnOf Starved answer new = StarvedTurn answer new
  TurnOf (Ended end) answer new = ⊥

-- one turn of the job in this place, which counts from 0
pub record IsTurn (s : Setting) (at : ℕ) (old : Moment) (answer : Turn) (new : Moment) : Type 0 where
  pub job : JobView
  pub there : slice_get old.jobs at ≡ Some job
  pub row : TurnOf (mover s at old job) job.doing answer new

-- what was asked last, entry by entry, after a turn of a job that was asked `last`: where an entry came, it has that
abbrev pub lasts_behind : Ask → List Entry → List Entry → List Ask → List Ask
lasts_behind last old new lasts = lasts ++ replicate (length new - length old) last
