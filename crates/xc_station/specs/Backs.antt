-- What a block that goes back needs of its transaction, as the code has it.
use Rattle.std.specs.Prelude.{◌≡◌, ℕ, ◌+◌, ◌*◌, ◌<◌, ◌≤◌, ◌^◌, true, List, [], ◌∷◌, ◌++◌, length, All, slice_get, Option, IsSome, IsTrue}
use Rattle.std.specs.declared.option.Option.TheVariants.{None, Some}
use Rattle.xc_compensate.specs.Records.{NextIsCovered}
use Rattle.xc_data.specs.Remaining.{objects_of}
use Rattle.xc_data.specs.declared.call.Call.TheVariants as call
use Rattle.xc_data.specs.declared.entry.Turn.{Turn}
use Rattle.xc_data.specs.declared.undo.Undo.{Undo}
use Rattle.xc_host.specs.Model.{HostModel}
use Rattle.xc_model.specs.declared.phase.Phase.TheVariants.{Backing}
use Rattle.xc_model.specs.BackingRows.{MarkedBack}
use Rattle.xc_model.specs.Moment.{TxView, JobView, Active, Moment}
use Rattle.xc_model.specs.Live.{asked_by, has_clients}
use Rattle.xc_model.specs.Movers.{Mover}
use Rattle.xc_model.specs.Stories.{IsAboveSave}
use Rattle.xc_script.specs.Position.{IsPastSilent}
use Rattle.xc_script.specs.declared.ask.Ask.TheVariants as ask
use Rattle.xc_sentinel.specs.declared.sentinels.Sentinels.{Sentinels}
use Rattle.xc_text.specs.declared.script.Script.{Script}
use Rattle.xc_world.specs.Beside.{AreElsewhere}
use Rattle.xc_world.specs.Ends.{AreLegal, is_undone}
use Rattle.xc_station.specs.declared.calls.Shared.{Shared}
use Rattle.xc_station.specs.declared.job.Activity.TheVariants as activity
use Rattle.xc_station.specs.declared.job.Job.{Job}
use Rattle.xc_station.specs.declared.tx.Saved.{Saved}
use Rattle.xc_station.specs.declared.tx.Tx.{Tx}
use Rattle.xc_station.specs.Acting.{HasNoteRoom}
use Rattle.xc_station.specs.Moments.{AreSeats, IsTable, runs}

-- ---- what an open block's save keeps
-- so many records, notes and late calls are there, and the stores have their save
pub record IsSaveOf (tx : Tx) (kept : Saved) : Type 0 where
  pub records : kept.records ≤ length tx.undo.pending + length tx.undo.ended
  pub taken : kept.taken ≤ length tx.taken.items
  pub late : kept.late ≤ length tx.late.calls
  pub writes : IsSome tx.writes.saved

-- so it is where a block is open
abbrev pub HasSave : Tx → Option Saved → Type 0
HasSave tx None = Unit {0}
HasSave tx (Some kept) = IsSaveOf tx kept

-- room for the note of a back; and its faults can be counted, each of the records tried so often
pub record HasBackRoom (tries : ℕ) (tx : Tx) : Type 0 where
  pub notes : HasNoteRoom tx
  pub faults : (length tx.undo.pending + length tx.undo.ended) * tries < 2 ^ 32

-- a transaction may go back to its open block's save, and one that does so has its room
pub record CanGoBack (tries : ℕ) (tx : Tx) : Type 0 where
  pub save : HasSave tx tx.saved
  pub room : tx.phase ≡ Backing → HasBackRoom tries tx

-- so may a job's, while it runs
abbrev pub BacksSafely : ℕ → Job → Type 0
BacksSafely tries job = job.activity ≡ activity.Active → runs job.tx.phase ≡ true → CanGoBack tries job.tx

-- so may each job's
abbrev pub AllBackSafely : ℕ → List Job → Type 0
AllBackSafely tries jobs = (at : ℕ) (job : Job) → slice_get jobs at ≡ Some job → BacksSafely tries job

-- ---- a turn on the way back
-- a job whose block goes back may take its turn
pub record CanStepBack {H : Type 0} (script : Script) (model : HostModel H) (shared : Shared H) (tries : ℕ) (job : JobView) : Type 0 where
  pub tx : TxView
  pub doing : job.doing ≡ Active tx
  pub backing : tx.phase ≡ Backing
  pub asked : asked_by (has_clients script) script job.handed job.place ≡ ask.Call call.Back
  pub settled : IsPastSilent script job.place
  pub kept : IsSome job.place.saved
  pub within : IsAboveSave tx.saved tx.undo.pending
  pub legal : AreLegal tries (length tx.undo.pending + 1) tx.undo.ended
  pub undone : All (λ e. is_undone e.1 ≡ true) tx.undo.ended
  pub covered : IsTrue model.tells → NextIsCovered (model.contents shared.host) tx.undo
  -- nothing is kept of what the newest record without an end speaks of
  pub away : IsTrue model.tells → (older : List Undo) (u : Undo) → tx.undo.pending ≡ older ++ u ∷ []
      → AreElsewhere (objects_of u) shared.buffers.kept
  pub noted : length tx.taken ≤ shared.buffers.noted
  pub no_ends : tx.ends ≡ []

module _ (m : Mover) (new : Moment) where
  -- its turn is a row of the table of turns; and the table of claims and the seats are those of the active transactions then
  pub record IsBackRow (answer : Turn) (sentinels : Sentinels) : Type 0 where
    pub tx : TxView
    pub doing : m.job.doing ≡ Active tx
    pub row : MarkedBack m tx (m.old.marks tx.number) answer new
    pub table : IsTable sentinels.claims new.jobs
    pub seats : AreSeats sentinels.seats new.jobs
