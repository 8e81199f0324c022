-- A job and its active transaction as plain data, and what a turn of the job goes by.
use Rattle.std.specs.Prelude.{◌≡◌, ℕ, Bool, true, false, Option, List, [], ◌∷◌, ◌++◌, map, take, unwrap_or, slice_get, if◌then◌else◌}
use Rattle.std.specs.Global.{Box}
use Rattle.std.specs.declared.option.Option.TheVariants.{None, Some}
use Rattle.xc_data.specs.declared.call.LateCall.{LateCall}
use Rattle.xc_data.specs.declared.call.LateEnd.{LateEnd}
use Rattle.xc_data.specs.declared.entry.JobEnd.TheVariants as job_end
use Rattle.xc_data.specs.declared.entry.Outcome.{Outcome}
use Rattle.xc_data.specs.declared.entry.Outcome.TheVariants.{Committed, Aborted}
use Rattle.xc_data.specs.declared.entry.Turn.{Turn}
use Rattle.xc_data.specs.declared.entry.Turn.TheVariants as turn
use Rattle.xc_data.specs.declared.private.Private.{Private}
use Rattle.xc_data.specs.declared.undo.Undo.{Undo}
use Rattle.xc_text.specs.declared.script.Script.{Script}
use Rattle.xc_world.specs.Ends.{Ending}
use Rattle.xc_model.specs.Entering.{started_jobs}
use Rattle.xc_model.specs.declared.phase.Phase.{Phase}
use Rattle.xc_model.specs.declared.phase.Phase.TheVariants as phase
use Rattle.xc_model.specs.Moment.{TxView, SavedView, JobView, Doing, Idle, Active, Starved, Ended, late_left}
use Rattle.xc_station.specs.declared.tx.Saved.{Saved}
use Rattle.xc_station.specs.declared.tx.Tx.{Tx}
use Rattle.xc_station.specs.declared.job.Child.{Child}
use Rattle.xc_station.specs.declared.job.Job.{Job}
use Rattle.xc_station.specs.declared.job.Activity.{Activity}
use Rattle.xc_station.specs.declared.job.Activity.TheVariants as activity
use Rattle.xc_station.specs.declared.job.Stage.{Stage}
use Rattle.xc_station.specs.declared.job.Stage.TheVariants as stage

-- ---- a transaction
-- its records, with an end and without, in the order of the calls
abbrev pub trail_of : Tx → List Undo
trail_of tx = tx.undo.pending ++ map (λ (e : Ending). e.0) tx.undo.ended

-- what an open block's save keeps: the first so many of each list
abbrev pub saved_view : Tx → Saved → SavedView
saved_view tx kept =
    record {
      places = kept.me.value.places;
      writes = unwrap_or tx.writes.saved [];
      trail = take kept.records (trail_of tx);
      taken = take kept.taken tx.taken.items;
      late = take kept.late tx.late.calls;
    }

-- the same, where a block is open
abbrev pub saved_in : Tx → Option Saved → Option SavedView
saved_in tx None = None
saved_in tx (Some kept) = Some (saved_view tx kept)

-- a transaction, without the room after its lists
abbrev pub tx_view : Tx → TxView
tx_view tx =
    record {
      number = tx.number;
      rank = tx.rank;
      began = tx.began;
      phase = tx.phase;
      me = tx.me.value;
      writes = tx.writes.stores;
      undo = tx.undo;
      taken = tx.taken.items;
      calls = tx.calls.items;
      replies = tx.replies.items;
      held = tx.held.items;
      late = tx.late.calls;
      ends = tx.late.ends;
      saved = saved_in tx tx.saved;
    }

-- what was kept, or else this
abbrev pub kept_or : Private → Option (Box Private) → Private
kept_or me None = me
kept_or me (Some kept) = kept.value

-- the private state of its begin: it was kept where a call may have changed it
abbrev pub begun_of : Tx → Private
begun_of tx = if tx.changed then kept_or tx.me.value tx.begun else tx.me.value

-- what a job with this transaction does
abbrev pub doing_view : Tx → Activity → Doing
doing_view tx activity.Idle = Idle
doing_view tx activity.Active = Active (tx_view tx)
doing_view tx activity.Starved = Starved
doing_view tx (activity.Ended end) = Ended end

-- what a job does
abbrev pub doing_of : Job → Doing
doing_of job = doing_view job.tx job.activity

-- a job
abbrev pub job_view : Job → JobView
job_view job =
    record {
      block = job.block;
      me = begun_of job.tx;
      place = job.place;
      handed = job.handed;
      attempts = job.attempts;
      busy = job.busy;
      doing = doing_of job;
    }

-- what a job does after the turn that follows an abort for lack of memory: of a script it has ended; where clients ask it is idle
abbrev pub fed_doing : Bool → Doing
fed_doing true = Idle
fed_doing false = Ended job_end.NoMemory

-- and what that turn answers
abbrev pub fed_turn : Bool → Turn
fed_turn true = turn.Went
fed_turn false = turn.Ended job_end.NoMemory

-- ---- what a committing transaction has started
-- a child, as the job that it is from the entry on
abbrev pub child_view : Child → JobView
child_view child =
    record { block = child.block; me = begun_of child.tx; place = child.place; handed = None; attempts = None; busy = 0; doing = Idle }

-- the jobs that this one's active transaction has started, as they are from its entry on
abbrev pub started_in : Script → JobView → Doing → List JobView
started_in script job (Active tx) = started_jobs script job tx
-- it has none
started_in script job Idle = []
started_in script job Starved = []
started_in script job (Ended end) = []

-- they wait with the job
abbrev pub HasChildren : Script → Job → Type 0
HasChildren script job = map child_view job.children.items ≡ started_in script (job_view job) (doing_of job)

-- all jobs
abbrev pub job_views : List Job → List JobView
job_views jobs = map job_view jobs

-- the outcome of a transaction that ends in this phase, with the ends of its records and of its late calls
abbrev pub outcome_in : Phase → List Ending → List LateEnd → Outcome
outcome_in (phase.Undoing c) records ends = Aborted (record { cause = c; records = records })
-- only an undoing one aborts
outcome_in _ records ends = Committed ends

-- ---- the rows of the table of turns
-- an undoing transaction, by its records that have no end yet
abbrev pub back_stage : List Undo → Stage
back_stage [] = stage.Undone
back_stage (u ∷ us) = stage.Undoing

-- a committing transaction, by its late calls that have no end yet
abbrev pub late_stage : List LateCall → Stage
late_stage [] = stage.Committed
late_stage (c ∷ cs) = stage.Committing

-- a transaction, by its phase
abbrev pub phase_stage : TxView → Phase → Stage
phase_stage tx phase.Running = stage.Running
phase_stage tx phase.Backing = stage.Backing
phase_stage tx phase.Committing = late_stage (late_left tx)
phase_stage tx (phase.Undoing c) = back_stage tx.undo.pending

-- a job, by what it does
abbrev pub stage_of : Doing → Stage
stage_of Idle = stage.Idle
stage_of (Active tx) = phase_stage tx tx.phase
stage_of Starved = stage.Starved
stage_of (Ended end) = stage.Ended

-- it hasn't ended
abbrev pub goes_on : Stage → Bool
goes_on stage.Ended = false
goes_on _ = true

-- the job hasn't ended
abbrev pub is_live : JobView → Bool
is_live job = goes_on (stage_of job.doing)

-- the job in this place is there, and its next turn goes by this
abbrev pub IsStage : List Job → ℕ → Stage → Type 0
IsStage jobs at s = (job : Job) × (slice_get jobs at ≡ Some job) × (stage_of (doing_of job) ≡ s)
