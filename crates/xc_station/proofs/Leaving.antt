-- What every turn leaves: another job in one place, jobs that are live after the others, and a journal that goes on.
use Rattle.std.proofs.Common.{◌≡◌, inl, inr, ℕ, Bool, true, false, List, [], ◌∷◌, ◌++◌, length, refl, ap, sym, ◌∙◌}
use Rattle.std.proofs.lemmas.List.{append-nil}
use Rattle.std.specs.Prelude.{Option, nat_lt, slice_get, slice_set}
use Rattle.std.specs.declared.option.Option.TheVariants.{None, Some}
use Rattle.xc_data.specs.declared.call.Call.{Call}
use Rattle.xc_data.specs.declared.call.Call.TheVariants as call
use Rattle.xc_data.specs.declared.call.LateCall.{LateCall}
use Rattle.xc_data.specs.declared.call.LateCall.TheVariants as late_call
use Rattle.xc_data.specs.declared.entry.Cause.{Cause}
use Rattle.xc_data.specs.declared.entry.Entry.{Entry}
use Rattle.xc_data.specs.declared.entry.JobEnd.TheVariants as job_end
use Rattle.xc_data.specs.declared.entry.Mark.{Mark}
use Rattle.xc_data.specs.declared.entry.Outcome.TheVariants.{Committed, Aborted}
use Rattle.xc_data.specs.declared.entry.Turn.{Turn}
use Rattle.xc_data.specs.declared.entry.Turn.TheVariants as turn
use Rattle.xc_data.specs.declared.undo.Undo.{Undo}
use Rattle.xc_script.specs.declared.ask.Ask.{Ask}
use Rattle.xc_script.specs.declared.ask.Ask.TheVariants as ask
use Rattle.xc_model.specs.declared.phase.Phase.{Phase}
use Rattle.xc_model.specs.declared.phase.Phase.TheVariants.{Running, Committing, Undoing, Backing}
use Rattle.xc_model.specs.Setting.{Setting}
use Rattle.xc_model.specs.Moment.{TxView, SavedView, JobView, Doing, Idle, Active, Starved, Ended, Moment, late_left, asked_to_wait}
use Rattle.xc_model.specs.Rows.{IsTurn, TurnOf, ActiveTurn}
use Rattle.xc_model.specs.IdleRows.{IdleTurn}
use Rattle.xc_model.specs.RunningRows.{MarkedTurn, RunningTurn, AskedTurn, CalledTurn}
use Rattle.xc_model.specs.BackingRows.{BackingRow, MarkedBack, OpenRow}
use Rattle.xc_model.specs.CommittingRows.{CommittingTurn, LateTurn, NextLate}
use Rattle.xc_model.specs.UndoingRows.{UndoingTurn, BackTurn}
use Rattle.xc_model.specs.Rows.{StarvedTurn}
use Rattle.xc_model.specs.Movers.{asked_at, mover}
use Rattle.xc_model.specs.Entering.{behind_abort, behind_commit, entry_of}
use Rattle.xc_model.specs.IdleRows.{beginning_job}
use Rattle.xc_model.specs.Entering.{started_jobs}
use Rattle.xc_turns.proofs.Laws.{set_itself}
use Rattle.xc_station.specs.Stations.{ChangesOne}

module _ (s : Setting) (at : ℕ) (old : Moment) (job : JobView) (new : Moment) where
  still : (behind : JobView) → new.jobs ≡ slice_set old.jobs at behind → new.journal ≡ old.journal → ChangesOne at old new
  still behind jobs journal =
      record {
        behind = behind;
        started = [];
        jobs = jobs ∙ sym (append-nil (slice_set old.jobs at behind));
        front = ([], journal ∙ sym (append-nil old.journal));
      }

  -- a moment that is known whole: another job in this place, and the journal is as before
  alone : (behind : JobView) (now : Moment) → new ≡ now → now.jobs ≡ slice_set old.jobs at behind → now.journal ≡ old.journal → ChangesOne at old new
  alone behind now is jobs journal = still behind (ap (λ (n : Moment). n.jobs) is ∙ jobs) (ap (λ (n : Moment). n.journal) is ∙ journal)

  enters : (behind : JobView) (started : List JobView) (entry : Entry) → new.jobs ≡ slice_set old.jobs at behind ++ started
      → new.journal ≡ old.journal ++ entry ∷ [] → ChangesOne at old new
  enters behind started entry jobs journal = record { behind = behind; started = started; jobs = jobs; front = (entry ∷ [], journal) }

  idle_leaves : slice_get old.jobs at ≡ Some job → (answer : Turn) → IdleTurn (mover s at old job) answer new → ChangesOne at old new
  idle_leaves there (turn.Ended end) row = alone (record job { doing = Ended end }) _ row.1 refl refl
  idle_leaves there (turn.Busy object number) row = alone (asked_to_wait job) _ row.1 refl refl
  idle_leaves there turn.Went row = alone (beginning_job old job) _ row.1 refl refl
  idle_leaves there turn.NoMemory row = alone job old row.2 (sym (set_itself old.jobs at job there)) refl

  starved_leaves : (answer : Turn) → StarvedTurn (mover s at old job) answer new → ChangesOne at old new
  starved_leaves (turn.Ended job_end.NoMemory) row = alone (record job { doing = Ended job_end.NoMemory }) _ row.1 refl refl
  starved_leaves turn.Went row = alone (record job { doing = Idle }) _ row.1 refl refl
  starved_leaves _ row = absurd row

  module _ (tx : TxView) where
    called_leaves : (c : Call) → CalledTurn (mover s at old job) tx c new → ChangesOne at old new
    called_leaves call.Back row = alone _ _ row.behind refl refl
    called_leaves c (inl row) = alone _ _ row.behind refl refl
    called_leaves c (inr row) = alone _ _ row.behind refl refl

    asked_leaves : (asked : Ask) → AskedTurn (mover s at old job) tx asked new → ChangesOne at old new
    asked_leaves (ask.Call c) row = called_leaves c row
    asked_leaves ask.Commit row = alone _ _ row.behind refl refl
    asked_leaves ask.Abort row = alone _ _ row.behind refl refl
    asked_leaves ask.End row = absurd row

    running_leaves : (answer : Turn) → RunningTurn (mover s at old job) tx answer new → ChangesOne at old new
    running_leaves turn.Went row = asked_leaves (asked_at s job) row
    running_leaves (turn.Busy object holder) row = alone _ _ row.behind refl refl
    running_leaves turn.NoMemory row = alone _ _ row.behind refl refl
    running_leaves (turn.Ended end) row = absurd row

    marked_leaves : (mark : Option Mark) (answer : Turn) → MarkedTurn (mover s at old job) tx mark answer new → ChangesOne at old new
    marked_leaves None answer row = running_leaves answer row
    marked_leaves (Some m) turn.Went row = alone _ _ row refl refl
    marked_leaves (Some m) (turn.Busy object holder) row = absurd row
    marked_leaves (Some m) turn.NoMemory row = absurd row
    marked_leaves (Some m) (turn.Ended end) row = absurd row

    back_row_leaves : (kept : SavedView) (b : Bool) → BackingRow (mover s at old job) tx kept b new → ChangesOne at old new
    back_row_leaves kept true row = alone _ _ row.behind refl refl
    back_row_leaves kept false row = alone _ _ row.behind refl refl

    open_leaves : (saved : Option SavedView) → OpenRow (mover s at old job) tx saved new → ChangesOne at old new
    open_leaves None row = absurd row
    open_leaves (Some kept) row = back_row_leaves kept (nat_lt (length kept.trail) (length tx.undo.pending)) row

    backing_leaves : (mark : Option Mark) (answer : Turn) → MarkedBack (mover s at old job) tx mark answer new → ChangesOne at old new
    backing_leaves None turn.Went row = open_leaves tx.saved row
    backing_leaves None _ row = absurd row
    backing_leaves (Some m) turn.Went row = alone _ _ row refl refl
    backing_leaves (Some m) _ row = absurd row

    next_leaves : (call : LateCall) → NextLate (mover s at old job) tx call new → ChangesOne at old new
    next_leaves (late_call.Thread block) row = alone _ _ row.behind refl refl
    next_leaves _ row = alone _ _ row.behind refl refl

    late_leaves : (late : List LateCall) → LateTurn (mover s at old job) tx late new → ChangesOne at old new
    late_leaves [] row =
        enters (behind_commit job tx) (started_jobs s.script job tx) (entry_of tx at (Committed tx.ends)) (ap (λ (n : Moment). n.jobs) row.0)
        (ap (λ (n : Moment). n.journal) row.0)
    late_leaves (call ∷ late) row = next_leaves call row

    committing_leaves : (answer : Turn) → CommittingTurn (mover s at old job) tx answer new → ChangesOne at old new
    committing_leaves turn.Went row = late_leaves (late_left tx) row
    committing_leaves _ row = absurd row

    back_leaves : (c : Cause) (pending : List Undo) → BackTurn (mover s at old job) tx c pending new → ChangesOne at old new
    back_leaves c [] row =
        enters (behind_abort job tx c) [] (entry_of tx at (Aborted (record { cause = c; records = tx.undo.ended })))
        (ap (λ (n : Moment). n.jobs) row.behind ∙ sym (append-nil (slice_set old.jobs at (behind_abort job tx c)))) (ap (λ (n : Moment). n.journal) row.behind)
    back_leaves c (u ∷ pending) row = alone _ _ row.behind refl refl

    undoing_leaves : (c : Cause) (answer : Turn) → UndoingTurn (mover s at old job) tx c answer new → ChangesOne at old new
    undoing_leaves c turn.Went row = back_leaves c tx.undo.pending row
    undoing_leaves c _ row = absurd row

    active_leaves : (phase : Phase) (answer : Turn) → ActiveTurn (mover s at old job) tx phase answer new → ChangesOne at old new
    active_leaves Running answer row = marked_leaves (old.marks tx.number) answer row
    active_leaves Backing answer row = backing_leaves (old.marks tx.number) answer row
    active_leaves Committing answer row = committing_leaves answer row
    active_leaves (Undoing c) answer row = undoing_leaves c answer row

  doing_leaves : slice_get old.jobs at ≡ Some job → (d : Doing) (answer : Turn) → TurnOf (mover s at old job) d answer new → ChangesOne at old new
  doing_leaves there Idle answer row = idle_leaves there answer row
  doing_leaves there (Active tx) answer row = active_leaves tx tx.phase answer row
  doing_leaves there Starved answer row = starved_leaves answer row
  doing_leaves there (Ended end) answer row = absurd row

-- each turn does
pub turn_leaves : (s : Setting) (at : ℕ) (old new : Moment) (answer : Turn) → IsTurn s at old answer new → ChangesOne at old new
turn_leaves s at old new answer t = doing_leaves s at old t.job new t.there t.job.doing answer t.row
