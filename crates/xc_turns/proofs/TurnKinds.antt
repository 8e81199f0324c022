-- Each row of the table of turns is of one kind.
use Rattle.std.proofs.Common.{◌≡◌, inl, inr, ℕ, ◌+◌, List, [], ◌∷◌, ◌++◌, length, refl, ap, sym, ◌∙◌, subst}
use Rattle.std.specs.Prelude.{Option, slice_get, slice_set}
use Rattle.std.specs.declared.option.Option.TheVariants.{None, Some}
use Rattle.xc_data.specs.declared.entry.KeptItem.{KeptItem}
use Rattle.xc_data.specs.declared.call.Call.{Call}
use Rattle.xc_data.specs.declared.call.LateCall.{LateCall}
use Rattle.xc_data.specs.declared.claim.Claim.{Claim}
use Rattle.xc_data.specs.declared.object.Object.{Object}
use Rattle.xc_data.specs.declared.entry.Cause.{Cause}
use Rattle.xc_data.specs.declared.entry.Cause.TheVariants as cause
use Rattle.xc_data.specs.declared.entry.JobEnd.TheVariants as job_end
use Rattle.xc_data.specs.declared.entry.Outcome.{Outcome}
use Rattle.xc_data.specs.declared.entry.Outcome.TheVariants.{Committed, Aborted}
use Rattle.xc_data.specs.declared.entry.Turn.{Turn}
use Rattle.xc_data.specs.declared.entry.Turn.TheVariants as turn
use Rattle.xc_data.specs.declared.undo.Undo.{Undo}
use Rattle.xc_script.specs.declared.ask.Ask.{Ask}
use Rattle.xc_script.specs.declared.ask.Ask.TheVariants as ask
use Rattle.xc_txmem.proofs.Laws.{overlay_count}
use Rattle.xc_host.specs.Contents.{Contents}
use Rattle.xc_data.specs.declared.entry.Mark.{Mark}
use Rattle.xc_model.specs.declared.phase.Phase.{Phase}
use Rattle.xc_model.specs.declared.phase.Phase.TheVariants.{Running, Committing, Undoing, Backing}
use Rattle.xc_model.specs.Setting.{Setting}
use Rattle.xc_model.specs.Moment.{TxView, JobView, Doing, Idle, Active, Starved, Ended, Moment, active_in, active_of, entering, late_left}
use Rattle.xc_model.specs.Moment.{revoked, asked_to_wait}
use Rattle.xc_model.specs.Stories.{cause_of_phase}
use Rattle.xc_model.specs.EntryEnds.{cause_in}
use Rattle.xc_model.specs.Rows.{IsTurn, TurnOf, StarvedTurn, ActiveTurn}
use Rattle.xc_model.specs.IdleRows.{IdleTurn}
use Rattle.xc_model.specs.RunningRows.{MarkedTurn, RunningTurn, CalledTurn, AskedTurn, BeginsBack}
use Rattle.xc_model.specs.BackingRows.{BacksOne, EndsBack, BackingRow, OpenRow, MarkedBack, phase_after, backed}
use Rattle.xc_data.specs.declared.call.Call.TheVariants as call
use Rattle.xc_data.specs.declared.undo.UndoEnd.{UndoEnd}
use Rattle.xc_data.specs.declared.undo.UndoEnd.TheVariants.{Undone, Failed, Blocked}
use Rattle.xc_model.specs.Moment.{SavedView}
use Rattle.std.specs.Prelude.{Bool, true, false, nat_lt}
use Rattle.xc_model.specs.CommittingRows.{CommittingTurn}
use Rattle.xc_model.specs.UndoingRows.{UndoingTurn, BackTurn}
use Rattle.xc_model.specs.RunningRows.{Calls, Conflicts, Waits, Revokes, Commits, TurnsBack, Wants, HoldsWanting}
use Rattle.xc_model.specs.CommittingRows.{LateTurn}
use Rattle.xc_model.specs.UndoingRows.{Compensates}
use Rattle.xc_model.specs.Entering.{started_jobs}
use Rattle.xc_model.specs.Movers.{mover}
use Rattle.xc_model.specs.Movers.{answered_with, asked_at, with_tx}
use Rattle.xc_model.specs.PlainSteps.{claims_at, noting, wanting}
use Rattle.xc_model.specs.IdleRows.{beginning_job}
use Rattle.xc_model.specs.Entering.{behind_commit, behind_abort, entry_of}
use Rattle.xc_model.specs.LateCalls.{started_late}
use Rattle.xc_turns.proofs.Grown.{AreIdle, started_idle}
use Rattle.xc_turns.proofs.LateEnds.{Ends, next_ends}
use Rattle.xc_turns.proofs.Lists.{set_itself}
use Rattle.xc_model.proofs.Laws.{asked_same}
use Rattle.std.proofs.Common.{append-nil}
use Rattle.xc_turns.proofs.Jobs.{behind_abort_none}
use Rattle.xc_turns.proofs.KindsOfTurns.{HoldsOn, IsNoConflict, cause_on, same, free, meets, Kind, rests, begins, moves, stays}
use Rattle.xc_turns.proofs.KindsOfTurns.{enters}

-- ---- causes by phase
-- a running one without a mark has no cause
no_cause : (m : Option Mark) (p : Phase) → m ≡ None → p ≡ Running → IsNoConflict (cause_of_phase m p)
no_cause m p e f =
    subst (λ n. IsNoConflict (cause_of_phase n p)) (sym e) (subst (λ q. IsNoConflict (cause_of_phase None q)) (sym f) tt)

-- nor has one that commits or turns back by itself
no_committing : (m : Option Mark) → IsNoConflict (cause_of_phase m Committing)
no_committing None = tt
no_committing (Some m) = tt

committing_is : (m : Option Mark) → cause_of_phase m Committing ≡ None
committing_is None = refl
committing_is (Some m) = refl

-- one that undoes has its own
pub undoing_is : (m : Option Mark) (c : Cause) → cause_of_phase m (Undoing c) ≡ Some c
undoing_is None c = refl
undoing_is (Some m) c = refl

-- ---- the rows
module _ (s : Setting) (at : ℕ) (old : Moment) (job : JobView) (new : Moment) where
  idle_kind : slice_get old.jobs at ≡ Some job → job.doing ≡ Idle → (answer : Turn) → IdleTurn (mover s at old job) answer new → Kind s at old job new
  idle_kind there e (turn.Ended end) row =
      rests (record {
        behind = record job { doing = Ended end };
        sets = record { jobs = ap (λ (n : Moment). n.jobs) row.1; words = ap (λ (n : Moment). length n.words) row.1 };
        journal = ap (λ (n : Moment). n.journal) row.1;
        marks = ap (λ (n : Moment). n.marks) row.1;
        before = ap active_in e;
        after = refl;
      })
  idle_kind there e (turn.Busy object number) row =
      rests (record {
        behind = asked_to_wait job;
        sets = record { jobs = ap (λ (n : Moment). n.jobs) row.1; words = ap (λ (n : Moment). length n.words) row.1 };
        journal = ap (λ (n : Moment). n.journal) row.1;
        marks = ap (λ (n : Moment). n.marks) row.1;
        before = ap active_in e;
        after = ap active_in e;
      })
  idle_kind there e turn.Went row =
      begins (record {
        behind = beginning_job old job;
        sets = record { jobs = ap (λ (n : Moment). n.jobs) row.1; words = ap (λ (n : Moment). length n.words) row.1 };
        journal = ap (λ (n : Moment). n.journal) row.1;
        before = ap active_in e;
        tx = _;
        after = refl;
        none = refl;
        running = refl;
        number = refl;
        marks = ap (λ (n : Moment). n.marks) row.1;
      })
  idle_kind there e turn.NoMemory row =
      rests (record {
        behind = job;
        sets = record {
          jobs = ap (λ (n : Moment). n.jobs) row.2 ∙ sym (set_itself old.jobs at job there);
          words = ap (λ (n : Moment). length n.words) row.2;
        };
        journal = ap (λ (n : Moment). n.journal) row.2;
        marks = ap (λ (n : Moment). n.marks) row.2;
        before = ap active_in e;
        after = ap active_in e;
      })

  starved_kind : job.doing ≡ Starved → (answer : Turn) → StarvedTurn (mover s at old job) answer new → Kind s at old job new
  starved_kind e (turn.Ended job_end.NoMemory) row =
      rests (record {
        behind = record job { doing = Ended job_end.NoMemory };
        sets = record { jobs = ap (λ (n : Moment). n.jobs) row.1; words = ap (λ (n : Moment). length n.words) row.1 };
        journal = ap (λ (n : Moment). n.journal) row.1;
        marks = ap (λ (n : Moment). n.marks) row.1;
        before = ap active_in e;
        after = refl;
      })
  starved_kind e turn.Went row =
      rests (record {
        behind = record job { doing = Idle };
        sets = record { jobs = ap (λ (n : Moment). n.jobs) row.1; words = ap (λ (n : Moment). length n.words) row.1 };
        journal = ap (λ (n : Moment). n.journal) row.1;
        marks = ap (λ (n : Moment). n.marks) row.1;
        before = ap active_in e;
        after = refl;
      })
  starved_kind e _ row = absurd row

  module _ (tx : TxView) (active : active_of job ≡ Some tx) where
    calls_kind : (call : Call) → asked_at s job ≡ ask.Call call → Calls (mover s at old job) tx call new → tx.phase ≡ Running
        → old.marks tx.number ≡ None → Kind s at old job new
    calls_kind call asked row e free_of =
        moves (record {
          behind = answered_with job row.place (noting tx call row.reply (claims_at old tx call) row.parts);
          sets = record { jobs = ap (λ (n : Moment). n.jobs) row.behind; words = ap (λ (n : Moment). length n.words) row.behind };
          journal = ap (λ (n : Moment). n.journal) row.behind;
          was = tx;
          tx = noting tx call row.reply (claims_at old tx call) row.parts;
          before = active;
          after = refl;
          number = refl;
          rank = refl;
          began = refl;
          held = inr (claims_at old tx call, row.free, refl);
          wants = inr (inl (record { call = call; asked = asked; held = refl }));
          why = free (no_cause (old.marks tx.number) tx.phase free_of e);
          marks = ap (λ (n : Moment). n.marks) row.behind;
        })

    conflict_kind : (call : Call) → asked_at s job ≡ ask.Call call → Conflicts (mover s at old job) tx call new → Kind s at old job new
    conflict_kind call asked row =
        let undoing : TxView = record tx { phase = Undoing (cause.Conflict row.object row.holder (length old.journal)) } in
        moves (record {
          behind = with_tx job row.place undoing;
          sets = record { jobs = ap (λ (n : Moment). n.jobs) row.behind; words = ap (λ (n : Moment). length n.words) row.behind };
          journal = ap (λ (n : Moment). n.journal) row.behind;
          was = tx;
          tx = undoing;
          before = active;
          after = refl;
          number = refl;
          rank = refl;
          began = refl;
          held = inl refl;
          wants = inl (refl, asked_same s job row.place row.same);
          marks = ap (λ (n : Moment). n.marks) row.behind;
          why = meets (record {
            call = call;
            asked = asked;
            object = row.object;
            holder = row.holder;
            met = row.met;
            phase = refl;
            me = refl;
            still = asked_same s job row.place row.same;
          });
        })

    commits_kind : Commits (mover s at old job) tx new → Kind s at old job new
    commits_kind row =
        moves (record {
          behind = with_tx job row.place (record tx { phase = Committing });
          sets = record {
            jobs = ap (λ (n : Moment). n.jobs) row.behind;
            words = ap (λ (n : Moment). length n.words) row.behind
                ∙ overlay_count old.words tx.writes;
          };
          journal = ap (λ (n : Moment). n.journal) row.behind;
          was = tx;
          tx = record tx { phase = Committing };
          before = active;
          after = refl;
          number = refl;
          rank = refl;
          began = refl;
          held = inl refl;
          wants = inl (refl, asked_same s job row.place row.same);
          why = free (no_committing (old.marks tx.number));
          marks = ap (λ (n : Moment). n.marks) row.behind;
        })

    -- it is told to wait
    waits_kind : (object : Object) (holder : ℕ) → Waits (mover s at old job) tx object holder new → Kind s at old job new
    waits_kind object holder row =
        stays (record {
          behind = asked_to_wait (with_tx job row.place tx);
          sets = record { jobs = ap (λ (n : Moment). n.jobs) row.behind; words = ap (λ (n : Moment). length n.words) row.behind };
          journal = ap (λ (n : Moment). n.journal) row.behind;
          tx = tx;
          before = active;
          after = refl;
          still = asked_same s job row.place row.same;
          object = object;
          holder = holder;
          waits = row;
        })

    -- it is revoked, for the cause that it had
    revokes_kind : (m : Mark) → Revokes (mover s at old job) tx m new → tx.phase ≡ Running → old.marks tx.number ≡ Some m → Kind s at old job new
    revokes_kind m row e has =
        let undoing : TxView = record tx { phase = Undoing (revoked m) } in
        moves (record {
          behind = with_tx job job.place undoing;
          sets = record { jobs = ap (λ (n : Moment). n.jobs) row; words = ap (λ (n : Moment). length n.words) row };
          journal = ap (λ (n : Moment). n.journal) row;
          was = tx;
          tx = undoing;
          before = active;
          after = refl;
          number = refl;
          rank = refl;
          began = refl;
          held = inl refl;
          wants = inl (refl, refl);
          why = same (record {
            cause = undoing_is (old.marks tx.number) (revoked m)
                ∙ sym (ap (λ n. cause_of_phase n tx.phase) has ∙ ap (cause_of_phase (Some m)) e);
            me = refl;
            still = refl;
          });
          marks = ap (λ (n : Moment). n.marks) row;
        })

    -- a transaction goes on for no cause of a conflict
    unclashed : (p : Phase) → old.marks tx.number ≡ None → IsNoConflict (cause_of_phase None p) → IsNoConflict (cause_of_phase (old.marks tx.number) p)
    unclashed p none so = subst (λ m. IsNoConflict (cause_of_phase m p)) (sym none) so

    begins_kind : BeginsBack (mover s at old job) tx new → old.marks tx.number ≡ None → Kind s at old job new
    begins_kind row none =
        let next : TxView = record tx { phase = Backing } in
        moves (record {
          behind = with_tx job row.place next;
          sets = record { jobs = ap (λ (n : Moment). n.jobs) row.behind; words = ap (λ (n : Moment). length n.words) row.behind };
          journal = ap (λ (n : Moment). n.journal) row.behind;
          was = tx;
          tx = next;
          before = active;
          after = refl;
          number = refl;
          rank = refl;
          began = refl;
          held = inl refl;
          wants = inl (refl, asked_same s job row.place row.same);
          why = free (unclashed Backing none tt);
          marks = ap (λ (n : Moment). n.marks) row.behind;
        })

    after_end : (n : ℕ) (e : UndoEnd) → IsNoConflict (cause_of_phase None (phase_after n e))
    after_end n (Undone faults) = tt
    after_end n (Failed done faults) = tt
    after_end n (Blocked by) = tt

    backs_one_kind : (kept : SavedView) → BacksOne (mover s at old job) tx kept new → old.marks tx.number ≡ None → Kind s at old job new
    backs_one_kind kept row none =
        let phase = phase_after (length row.older + 1) row.end in
        let next : TxView = record tx { phase = phase; undo = record { pending = row.older; ended = (row.tried, row.end) ∷ tx.undo.ended } } in
        moves (record {
          behind = with_tx job job.place next;
          sets = record { jobs = ap (λ (n : Moment). n.jobs) row.behind; words = ap (λ (n : Moment). length n.words) row.behind };
          journal = ap (λ (n : Moment). n.journal) row.behind;
          was = tx;
          tx = next;
          before = active;
          after = refl;
          number = refl;
          rank = refl;
          began = refl;
          held = inl refl;
          wants = inl (refl, refl);
          why = free (unclashed phase none (after_end (length row.older + 1) row.end));
          marks = ap (λ (n : Moment). n.marks) row.behind;
        })

    ends_back_kind : (kept : SavedView) → EndsBack (mover s at old job) tx kept new → old.marks tx.number ≡ None → Kind s at old job new
    ends_back_kind kept row none =
        moves (record {
          behind = answered_with job row.place (backed tx kept);
          sets = record { jobs = ap (λ (n : Moment). n.jobs) row.behind; words = ap (λ (n : Moment). length n.words) row.behind };
          journal = ap (λ (n : Moment). n.journal) row.behind;
          was = tx;
          tx = backed tx kept;
          before = active;
          after = refl;
          number = refl;
          rank = refl;
          began = refl;
          held = inl refl;
          wants = inr (inr row.asked);
          why = free (unclashed Running none tt);
          marks = ap (λ (n : Moment). n.marks) row.behind;
        })

    one_back_kind : (kept : SavedView) (b : Bool) → BackingRow (mover s at old job) tx kept b new → old.marks tx.number ≡ None → Kind s at old job new
    one_back_kind kept true row none = backs_one_kind kept row none
    one_back_kind kept false row none = ends_back_kind kept row none

    open_kind : (k : Option SavedView) → OpenRow (mover s at old job) tx k new → old.marks tx.number ≡ None → Kind s at old job new
    open_kind None row none = absurd row
    open_kind (Some kept) row none = one_back_kind kept (nat_lt (length kept.trail) (length tx.undo.pending)) row none

    cut_kind : (m : Mark) → Revokes (mover s at old job) tx m new → tx.phase ≡ Backing → old.marks tx.number ≡ Some m → Kind s at old job new
    cut_kind m row e has =
        let undoing : TxView = record tx { phase = Undoing (revoked m) } in
        moves (record {
          behind = with_tx job job.place undoing;
          sets = record { jobs = ap (λ (n : Moment). n.jobs) row; words = ap (λ (n : Moment). length n.words) row };
          journal = ap (λ (n : Moment). n.journal) row;
          was = tx;
          tx = undoing;
          before = active;
          after = refl;
          number = refl;
          rank = refl;
          began = refl;
          held = inl refl;
          wants = inl (refl, refl);
          why = same (record {
            cause = undoing_is (old.marks tx.number) (revoked m)
                ∙ sym (ap (λ n. cause_of_phase n tx.phase) has ∙ ap (cause_of_phase (Some m)) e);
            me = refl;
            still = refl;
          });
          marks = ap (λ (n : Moment). n.marks) row;
        })

    marked_back_kind : (m : Option Mark) → old.marks tx.number ≡ m → (answer : Turn) → MarkedBack (mover s at old job) tx m answer new → tx.phase ≡ Backing
        → Kind s at old job new
    marked_back_kind None has turn.Went row e = open_kind tx.saved row has
    marked_back_kind None has _ row e = absurd row
    marked_back_kind (Some m) has turn.Went row e = cut_kind m row e has
    marked_back_kind (Some m) has _ row e = absurd row

    turns_back_kind : TurnsBack (mover s at old job) tx new → Kind s at old job new
    turns_back_kind row =
        moves (record {
          behind = with_tx job row.place (record tx { phase = Undoing cause.Asked });
          sets = record { jobs = ap (λ (n : Moment). n.jobs) row.behind; words = ap (λ (n : Moment). length n.words) row.behind };
          journal = ap (λ (n : Moment). n.journal) row.behind;
          was = tx;
          tx = record tx { phase = Undoing cause.Asked };
          before = active;
          after = refl;
          number = refl;
          rank = refl;
          began = refl;
          held = inl refl;
          wants = inl (refl, asked_same s job row.place row.same);
          why = free (subst IsNoConflict (sym (undoing_is (old.marks tx.number) cause.Asked)) tt);
          marks = ap (λ (n : Moment). n.marks) row.behind;
        })

    wanting_held : (a : Ask) (left : List Undo) (held : List Claim) → HoldsWanting (mover s at old job) tx a left held → HoldsOn old.jobs at tx.held held
    wanting_held (ask.Call call) left held (inl kept) = inl kept.1
    wanting_held (ask.Call call) left held (inr more) = inr (claims_at old tx call, more.0, more.1)
    wanting_held ask.Commit left held kept = inl kept.1
    wanting_held ask.Abort left held kept = inl kept.1
    wanting_held ask.End left held kept = inl kept.1

    wants_kind : Wants (mover s at old job) tx new → Kind s at old job new
    wants_kind row =
        moves (record {
          behind = with_tx job row.place (wanting tx row.left row.held);
          sets = record { jobs = ap (λ (n : Moment). n.jobs) row.behind; words = ap (λ (n : Moment). length n.words) row.behind };
          journal = ap (λ (n : Moment). n.journal) row.behind;
          was = tx;
          tx = wanting tx row.left row.held;
          before = active;
          after = refl;
          number = refl;
          rank = refl;
          began = refl;
          held = wanting_held (asked_at s job) row.left row.held row.holds;
          wants = inl (refl, asked_same s job row.place row.same);
          why = free (subst IsNoConflict (sym (undoing_is (old.marks tx.number) cause.NoMemory)) tt);
          marks = ap (λ (n : Moment). n.marks) row.behind;
        })

    called_kind : (c : Call) → asked_at s job ≡ ask.Call c → CalledTurn (mover s at old job) tx c new → tx.phase ≡ Running
        → old.marks tx.number ≡ None → Kind s at old job new
    called_kind call.Back asked row e free_of = begins_kind row free_of
    called_kind c asked (inl row) e free_of = calls_kind c asked row e free_of
    called_kind c asked (inr row) e free_of = conflict_kind c asked row

    asked_kind : (a : Ask) → asked_at s job ≡ a → AskedTurn (mover s at old job) tx a new → tx.phase ≡ Running
        → old.marks tx.number ≡ None → Kind s at old job new
    asked_kind (ask.Call call) asked row e free_of = called_kind call asked row e free_of
    asked_kind ask.Commit asked row e free_of = commits_kind row
    asked_kind ask.Abort asked row e free_of = turns_back_kind row
    asked_kind ask.End asked row e free_of = absurd row

    running_kind : (answer : Turn) → RunningTurn (mover s at old job) tx answer new → tx.phase ≡ Running → old.marks tx.number ≡ None
        → Kind s at old job new
    running_kind turn.Went row e free_of = asked_kind (asked_at s job) refl row e free_of
    running_kind (turn.Busy object holder) row e free_of = waits_kind object holder row
    running_kind turn.NoMemory row e free_of = wants_kind row
    running_kind _ row e free_of = absurd row

    marked_kind : (m : Option Mark) → old.marks tx.number ≡ m → (answer : Turn) → MarkedTurn (mover s at old job) tx m answer new → tx.phase ≡ Running
        → Kind s at old job new
    marked_kind None has answer row e = running_kind answer row e has
    marked_kind (Some m) has turn.Went row e = revokes_kind m row e has
    marked_kind (Some m) has _ row e = absurd row

    compensates_kind : Compensates (mover s at old job) tx new → Kind s at old job new
    compensates_kind row =
        let undone : TxView = record tx { undo = record { pending = row.older; ended = (row.tried, row.end) ∷ tx.undo.ended } } in
        moves (record {
          behind = with_tx job job.place undone;
          sets = record { jobs = ap (λ (n : Moment). n.jobs) row.behind; words = ap (λ (n : Moment). length n.words) row.behind };
          journal = ap (λ (n : Moment). n.journal) row.behind;
          was = tx;
          tx = undone;
          before = active;
          after = refl;
          number = refl;
          rank = refl;
          began = refl;
          held = inl refl;
          wants = inl (refl, refl);
          why = same (record { cause = refl; me = refl; still = refl });
          marks = ap (λ (n : Moment). n.marks) row.behind;
        })

    enters_kind : (behind : JobView) (outcome : Outcome) (contents : Contents) (kept : List KeptItem) (jobs_behind more : List JobView)
        → new ≡ record (entering old at behind (entry_of tx at outcome)) { contents = contents; kept = kept; jobs = jobs_behind }
        → jobs_behind ≡ slice_set old.jobs at behind ++ more → AreIdle more → active_of behind ≡ None
        → cause_in outcome ≡ cause_on old tx → Kind s at old job new
    enters_kind behind outcome contents kept jobs_behind more row jobs idle after why =
        enters (record {
          behind = behind;
          more = more;
          idle = idle;
          jobs = ap (λ (n : Moment). n.jobs) row ∙ jobs;
          words = ap (λ (n : Moment). length n.words) row;
          tx = tx;
          outcome = outcome;
          journal = ap (λ (n : Moment). n.journal) row;
          before = active;
          after = after;
          why = why;
          marks = ap (λ (n : Moment). n.marks) row;
        })

    late_kind : Ends at old job tx new → Kind s at old job new
    late_kind row =
        let ended : TxView = record tx { ends = tx.ends ++ row.end ∷ [] } in
        moves (record {
          behind = with_tx job job.place ended;
          sets = record { jobs = row.jobs; words = ap length row.words };
          journal = row.journal;
          was = tx;
          tx = ended;
          before = active;
          after = refl;
          number = refl;
          rank = refl;
          began = refl;
          held = inl refl;
          wants = inl (refl, refl);
          why = same (record { cause = refl; me = refl; still = refl });
          marks = row.marks;
        })

    left_kind : (calls : List LateCall) → LateTurn (mover s at old job) tx calls new → tx.phase ≡ Committing → Kind s at old job new
    left_kind [] row e = enters_kind (behind_commit job tx) (Committed tx.ends) old.contents old.kept _ (started_jobs s.script job tx) row.0 refl
        (started_idle s.script (behind_commit job tx) (started_late tx.late tx.ends)) refl
        (sym (ap (cause_of_phase (old.marks tx.number)) e ∙ committing_is (old.marks tx.number)))
    left_kind (call ∷ calls) row e = late_kind (next_ends s at old job tx new call row)

    committing_kind : (answer : Turn) → CommittingTurn (mover s at old job) tx answer new → tx.phase ≡ Committing → Kind s at old job new
    committing_kind turn.Went row e = left_kind (late_left tx) row e
    committing_kind _ row e = absurd row

    back_kind : (c : Cause) (pending : List Undo) → BackTurn (mover s at old job) tx c pending new → tx.phase ≡ Undoing c → Kind s at old job new
    back_kind c [] row e =
        enters_kind (behind_abort job tx c) (Aborted (record { cause = c; records = tx.undo.ended })) new.contents new.kept _ [] row.behind
        (sym (append-nil (slice_set old.jobs at (behind_abort job tx c)))) tt (behind_abort_none job tx c)
        (sym (ap (cause_of_phase (old.marks tx.number)) e ∙ undoing_is (old.marks tx.number) c))
    back_kind c (u ∷ pending) row e = compensates_kind row

    undoing_kind : (c : Cause) (answer : Turn) → UndoingTurn (mover s at old job) tx c answer new → tx.phase ≡ Undoing c → Kind s at old job new
    undoing_kind c turn.Went row e = back_kind c tx.undo.pending row e
    undoing_kind c _ row e = absurd row

    active_kind : (phase : Phase) → tx.phase ≡ phase → (answer : Turn) → ActiveTurn (mover s at old job) tx phase answer new → Kind s at old job new
    active_kind Running e answer row = marked_kind (old.marks tx.number) refl answer row e
    active_kind Committing e answer row = committing_kind answer row e
    active_kind Backing e answer row = marked_back_kind (old.marks tx.number) refl answer row e
    active_kind (Undoing c) e answer row = undoing_kind c answer row e

  doing_kind : slice_get old.jobs at ≡ Some job → (d : Doing) → job.doing ≡ d → (answer : Turn) → TurnOf (mover s at old job) d answer new
      → Kind s at old job new
  doing_kind there Idle e answer row = idle_kind there e answer row
  doing_kind there (Active tx) e answer row = active_kind tx (ap active_in e) tx.phase refl answer row
  doing_kind there Starved e answer row = starved_kind e answer row
  doing_kind there (Ended end) e answer row = absurd row

-- each row is of one kind
pub row_kind : (s : Setting) (at : ℕ) (old new : Moment) (answer : Turn) → (t : IsTurn s at old answer new) → Kind s at old t.job new
row_kind s at old new answer t = doing_kind s at old t.job new t.there t.job.doing refl answer t.row
