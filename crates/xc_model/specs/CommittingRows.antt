-- The rows of a committing transaction: its late calls, one a turn, and its entry.
use Rattle.std.specs.Prelude.{◌≡◌, ℕ, ◌≤◌, List, [], ◌∷◌, ◌++◌, length}
use Rattle.std.specs.Prelude.{IsTrue}
use Rattle.xc_data.specs.Counts.{CountsFault}
use Rattle.xc_data.specs.Faults.{is_fault_end}
use Rattle.xc_data.specs.declared.call.LateCall.{LateCall}
use Rattle.xc_data.specs.declared.call.LateCall.TheVariants.{Thread}
use Rattle.xc_data.specs.declared.call.LateEnd.{LateEnd}
use Rattle.xc_data.specs.declared.entry.Outcome.TheVariants.{Committed}
use Rattle.xc_data.specs.declared.entry.Turn.{Turn}
use Rattle.xc_data.specs.declared.entry.Turn.TheVariants as turn
use Rattle.xc_deferred.specs.Does.{EndsAsPlain}
use Rattle.xc_host.specs.Uses.{LatesFor}
use Rattle.xc_model.specs.Moment.{TxView, Moment}
use Rattle.xc_model.specs.Moment.{late_left, with_job, entering, jobs_joined}
use Rattle.xc_model.specs.Moment.{Touches}
use Rattle.xc_model.specs.Movers.{with_tx, Mover, HasCalled}
use Rattle.xc_model.specs.Entering.{entry_of, behind_commit, started_jobs}
use Rattle.xc_model.specs.Starts.{IsStart}

-- ---- late calls
module _ (m : Mover) (tx : TxView) where
  -- the next late call is done, in the order in which they were made, under the claims of its transaction
  pub record EndsLate (call : LateCall) (new : Moment) : Type 0 where
    pub end : LateEnd
    pub behind : Touches m.old m.at (with_tx m.job m.job.place (record tx { ends = tx.ends ++ end ∷ [] })) new
    -- the host was called so
    pub uses : HasCalled (LatesFor call end) m.old new
    -- a fault exactly where the host's count rose
    pub cause : CountsFault (is_fault_end end) m.old.faults new.faults
    -- over a host that tells, its end and what it did are the plain machine's
    pub does : IsTrue m.setting.tells → EndsAsPlain m.old.contents new.contents call end

  -- the next late call starts a job, which is live from the entry on; no host is called
  pub record Starts (block : List ℕ) (new : Moment) : Type 0 where
    pub end : LateEnd
    pub behind : new
        ≡ record (with_job m.old m.at (with_tx m.job m.job.place (record tx { ends = tx.ends ++ end ∷ [] }))) { started = new.started }
    pub starts : IsStart m.setting.script m.old.started block end new.started

  -- by the call
  abbrev pub NextLate : LateCall → Moment → Type 0
  NextLate (Thread block) new = Starts block new
  NextLate call new = EndsLate call new

module _ (m : Mover) (tx : TxView) where
  -- a committed transaction, each of whose late calls has its end, enters, and the jobs that it started are live: no more
  -- than 1,000 are
  abbrev pub EntersCommitted : Moment → Type 0
  EntersCommitted new =
      (new ≡ jobs_joined (entering m.old m.at (behind_commit m.job tx) (entry_of tx m.at (Committed tx.ends)))
      (started_jobs m.setting.script m.job tx))
      × (length new.jobs ≤ 1000)

  -- by the late calls that have no end yet
  abbrev pub LateTurn : List LateCall → Moment → Type 0
  LateTurn [] new = EntersCommitted new
  LateTurn (call ∷ calls) new = NextLate m tx call new

  -- a committing transaction
  abbrev pub CommittingTurn : Turn → Moment → Type 0
  CommittingTurn turn.Went new = LateTurn (late_left tx) new
  CommittingTurn _ new = ⊥
