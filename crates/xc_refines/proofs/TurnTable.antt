-- A turn keeps the flights of all, whatever its row.
use Rattle.std.proofs.Common.{◌≡◌, ℕ, inl, inr, List, [], ◌∷◌, length, refl, ap, sym, ◌∙◌, subst, IsTrue, None, Some}
use Rattle.std.specs.Prelude.{Option, Bool, true, false, nat_lt, slice_get, slice_set}
use Rattle.xc_data.specs.declared.call.LateCall.{LateCall}
use Rattle.xc_data.specs.declared.call.LateCall.TheVariants.{Thread}
use Rattle.xc_data.specs.declared.entry.Cause.{Cause}
use Rattle.xc_data.specs.declared.entry.JobEnd.TheVariants as job_end
use Rattle.xc_data.specs.declared.entry.Turn.{Turn}
use Rattle.xc_data.specs.declared.entry.Turn.TheVariants as turn
use Rattle.xc_data.specs.declared.undo.Undo.{Undo}
use Rattle.xc_script.specs.declared.ask.Ask.{Ask}
use Rattle.xc_script.specs.declared.ask.Ask.TheVariants as ask
use Rattle.xc_data.specs.declared.entry.Mark.{Mark}
use Rattle.xc_model.proofs.Laws.{asked_same}
use Rattle.xc_model.specs.declared.phase.Phase.{Phase}
use Rattle.xc_model.specs.declared.phase.Phase.TheVariants.{Running, Committing, Undoing, Backing}
use Rattle.xc_model.specs.Setting.{Setting}
use Rattle.xc_model.specs.Stories.{StoriesHold}
use Rattle.xc_model.specs.Moment.{TxView, SavedView, JobView, Doing, Idle, Active, Starved, Ended, Moment, active_in, late_left, asked_to_wait}
use Rattle.xc_model.specs.Movers.{with_tx}
use Rattle.xc_model.specs.Rows.{IsTurn, TurnOf, ActiveTurn}
use Rattle.xc_model.specs.IdleRows.{IdleTurn}
use Rattle.xc_model.specs.RunningRows.{MarkedTurn, RunningTurn, CalledTurn, AskedTurn}
use Rattle.xc_model.specs.BackingRows.{BackingRow, OpenRow, MarkedBack}
use Rattle.xc_data.specs.declared.call.Call.{Call}
use Rattle.xc_data.specs.declared.call.Call.TheVariants as call
use Rattle.xc_model.specs.CommittingRows.{CommittingTurn, LateTurn, NextLate}
use Rattle.xc_model.specs.UndoingRows.{UndoingTurn, BackTurn}
use Rattle.xc_model.specs.Rows.{StarvedTurn}
use Rattle.xc_model.specs.Movers.{mover}
use Rattle.xc_refines.specs.InFlight.{AreInFlight}
use Rattle.xc_refines.proofs.TurnRows.{row_begins, row_ends, row_calls, row_conflicts, row_turns_back, row_commits, row_wants, row_waits, row_revokes}
use Rattle.xc_refines.proofs.TurnRows.{row_begins_back, row_cuts_back, row_backs_one, row_ends_back}
use Rattle.xc_refines.proofs.TurnRows.{row_compensates, row_ends_late, row_starts, row_commit_enters, row_abort_enters}

-- only a job and the marks changed
waits_only : (old new : Moment) (at : ℕ) (job' : JobView) (marks : ℕ → Option Mark) → new ≡ record old { jobs = slice_set old.jobs at job'; marks = marks }
    → new ≡ record old { jobs = slice_set old.jobs at job'; marks = new.marks }
waits_only old new at job' marks is =
    is ∙ ap (λ (ms : ℕ → Option Mark). record old { jobs = slice_set old.jobs at job'; marks = ms }) (sym (ap (λ (n : Moment). n.marks) is))

module _ (s : Setting) (old : Moment) (at : ℕ) (job : JobView) (there : slice_get old.jobs at ≡ Some job)
    (told : StoriesHold s (length old.words) old.marks old.journal old.jobs) (flying : AreInFlight s old) (tells : IsTrue s.tells) (new : Moment) where
  idle_flies : (answer : Turn) → job.doing ≡ Idle → IdleTurn (mover s at old job) answer new → AreInFlight s new
  idle_flies (turn.Ended end) doing row = subst (AreInFlight s) (sym row.1) (row_ends s old at job there told flying (Ended end) (ap active_in doing) refl)
  idle_flies turn.Went doing row = subst (AreInFlight s) (sym row.1) (row_begins s old at job there told flying (ap active_in doing))
  idle_flies (turn.Busy object number) doing row =
      row_waits s old at job there told flying new (asked_to_wait job) refl refl refl refl (waits_only old new at (asked_to_wait job) old.marks row.1)
  idle_flies turn.NoMemory doing row = subst (AreInFlight s) (sym row.2) flying

  starved_flies : (answer : Turn) → job.doing ≡ Starved → StarvedTurn (mover s at old job) answer new → AreInFlight s new
  starved_flies (turn.Ended job_end.NoMemory) doing row =
      subst (AreInFlight s) (sym row.1) (row_ends s old at job there told flying (Ended job_end.NoMemory) (ap active_in doing) refl)
  starved_flies (turn.Ended job_end.Done) doing row = absurd row
  starved_flies (turn.Ended (job_end.GaveUp c)) doing row = absurd row
  starved_flies (turn.Ended job_end.JournalFull) doing row = absurd row
  starved_flies turn.Went doing row = subst (AreInFlight s) (sym row.1) (row_ends s old at job there told flying Idle (ap active_in doing) refl)
  starved_flies (turn.Busy object holder) doing row = absurd row
  starved_flies turn.NoMemory doing row = absurd row

  module _ (tx : TxView) (doing : job.doing ≡ Active tx) where
    called_flies : (c : Call) → tx.phase ≡ Running → CalledTurn (mover s at old job) tx c new → AreInFlight s new
    called_flies call.Back runs row = row_begins_back s old at job there told flying tx doing new runs row
    called_flies c runs (inl row) = row_calls s old at job there told flying tx doing new c refl tells runs row
    called_flies c runs (inr row) = row_conflicts s old at job there told flying tx doing new c runs row

    asked_flies : (a : Ask) → tx.phase ≡ Running → AskedTurn (mover s at old job) tx a new → AreInFlight s new
    asked_flies (ask.Call c) runs row = called_flies c runs row
    asked_flies ask.Commit runs row = row_commits s old at job there told flying tx doing new runs row
    asked_flies ask.Abort runs row = row_turns_back s old at job there told flying tx doing new runs row
    asked_flies ask.End runs row = absurd row

    running_flies : (answer : Turn) → tx.phase ≡ Running → RunningTurn (mover s at old job) tx answer new → AreInFlight s new
    running_flies turn.Went runs row = asked_flies _ runs row
    running_flies turn.NoMemory runs row = row_wants s old at job there told flying tx doing new tells runs row
    running_flies (turn.Busy object holder) runs row =
        row_waits s old at job there told flying new (asked_to_wait (with_tx job row.place tx)) (sym doing) refl refl (asked_same s job row.place row.same)
        (waits_only old new at (asked_to_wait (with_tx job row.place tx)) _ row.behind)
    running_flies (turn.Ended end) runs row = absurd row

    marked_flies : (m : Option Mark) (answer : Turn) → tx.phase ≡ Running → MarkedTurn (mover s at old job) tx m answer new → AreInFlight s new
    marked_flies None answer runs row = running_flies answer runs row
    marked_flies (Some m) turn.Went runs row = row_revokes s old at job there told flying tx doing new m runs row
    marked_flies (Some m) turn.NoMemory runs row = absurd row
    marked_flies (Some m) (turn.Busy object holder) runs row = absurd row
    marked_flies (Some m) (turn.Ended end) runs row = absurd row

    next_flies : (call : LateCall) (calls : List LateCall) → tx.phase ≡ Committing → late_left tx ≡ call ∷ calls → NextLate (mover s at old job) tx call new
        → AreInFlight s new
    next_flies (Thread block) calls commits some row = row_starts s old at job there told flying tx doing new block calls commits some row
    next_flies call calls commits some row = row_ends_late s old at job there told flying tx doing new call calls tells commits some row

    late_flies : (left : List LateCall) → tx.phase ≡ Committing → late_left tx ≡ left → LateTurn (mover s at old job) tx left new → AreInFlight s new
    late_flies [] commits none row = subst (AreInFlight s) (sym row.0) (row_commit_enters s old at job there told flying tx doing commits none)
    late_flies (call ∷ calls) commits some row = next_flies call calls commits some row

    committing_flies : (answer : Turn) → tx.phase ≡ Committing → CommittingTurn (mover s at old job) tx answer new → AreInFlight s new
    committing_flies turn.Went commits row = late_flies (late_left tx) commits refl row
    committing_flies turn.NoMemory commits row = absurd row
    committing_flies (turn.Busy object holder) commits row = absurd row
    committing_flies (turn.Ended end) commits row = absurd row

    back_flies : (c : Cause) (pending : List Undo) → tx.phase ≡ Undoing c → tx.undo.pending ≡ pending → BackTurn (mover s at old job) tx c pending new
        → AreInFlight s new
    back_flies c [] undoes none row = row_abort_enters s old at job there told flying tx doing new c tells undoes none row
    back_flies c (u ∷ pending) undoes some row = row_compensates s old at job there told flying tx doing new c tells undoes row

    undoing_flies : (c : Cause) (answer : Turn) → tx.phase ≡ Undoing c → UndoingTurn (mover s at old job) tx c answer new → AreInFlight s new
    undoing_flies c turn.Went undoes row = back_flies c tx.undo.pending undoes refl row
    undoing_flies c turn.NoMemory undoes row = absurd row
    undoing_flies c (turn.Busy object holder) undoes row = absurd row
    undoing_flies c (turn.Ended end) undoes row = absurd row

    backing_row_flies : (saved : SavedView) (b : Bool) → tx.phase ≡ Backing → tx.saved ≡ Some saved
        → nat_lt (length saved.trail) (length tx.undo.pending) ≡ b → BackingRow (mover s at old job) tx saved b new → AreInFlight s new
    backing_row_flies saved true backing is test row = row_backs_one s old at job there told flying tx doing new saved tells backing row
    backing_row_flies saved false backing is test row = row_ends_back s old at job there told flying tx doing new saved tells backing is test row

    open_flies : (o : Option SavedView) → tx.phase ≡ Backing → tx.saved ≡ o → OpenRow (mover s at old job) tx o new → AreInFlight s new
    open_flies None backing is row = absurd row
    open_flies (Some saved) backing is row =
        backing_row_flies saved (nat_lt (length saved.trail) (length tx.undo.pending)) backing is refl row

    backing_flies : (m : Option Mark) (answer : Turn) → tx.phase ≡ Backing → MarkedBack (mover s at old job) tx m answer new → AreInFlight s new
    backing_flies None turn.Went backing row = open_flies tx.saved backing refl row
    backing_flies None turn.NoMemory backing row = absurd row
    backing_flies None (turn.Busy object holder) backing row = absurd row
    backing_flies None (turn.Ended end) backing row = absurd row
    backing_flies (Some m) turn.Went backing row = row_cuts_back s old at job there told flying tx doing new m backing row
    backing_flies (Some m) turn.NoMemory backing row = absurd row
    backing_flies (Some m) (turn.Busy object holder) backing row = absurd row
    backing_flies (Some m) (turn.Ended end) backing row = absurd row

    active_flies : (p : Phase) (answer : Turn) → tx.phase ≡ p → ActiveTurn (mover s at old job) tx p answer new → AreInFlight s new
    active_flies Running answer is row = marked_flies (old.marks tx.number) answer is row
    active_flies Committing answer is row = committing_flies answer is row
    active_flies (Undoing c) answer is row = undoing_flies c answer is row
    active_flies Backing answer is row = backing_flies (old.marks tx.number) answer is row

  doing_flies : (d : Doing) (answer : Turn) → job.doing ≡ d → TurnOf (mover s at old job) d answer new → AreInFlight s new
  doing_flies Idle answer doing row = idle_flies answer doing row
  doing_flies (Active tx) answer doing row = active_flies tx doing tx.phase answer refl row
  doing_flies Starved answer doing row = starved_flies answer doing row
  doing_flies (Ended end) answer doing row = absurd row

-- a turn of one job keeps the flights of all
pub turn_flies : (s : Setting) (at : ℕ) (old new : Moment) (answer : Turn) → IsTrue s.tells → IsTurn s at old answer new
    → StoriesHold s (length old.words) old.marks old.journal old.jobs → AreInFlight s old → AreInFlight s new
turn_flies s at old new answer tells t told flying = doing_flies s old at t.job t.there told flying tells new t.job.doing answer refl t.row
