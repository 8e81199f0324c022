-- Turns of one job alone keep transactions one after another.
use Rattle.std.proofs.Common.{◌≡◌, ℕ, ◌+◌, ◌<◌, ◌≤◌, inl, inr, List, [], ◌∷◌, ◌++◌, length, zero, suc}
use Rattle.std.proofs.Common.{refl, ap, sym, ◌∙◌, subst, arith, false, not}
use Rattle.std.proofs.lemmas.List.Elements.{All-nil, All-weaker}
use Rattle.std.specs.Prelude.{slice_get, Option, All}
use Rattle.std.specs.declared.option.Option.TheVariants.{None, Some}
use Rattle.xc_data.specs.declared.entry.Cause.{Cause}
use Rattle.xc_data.specs.declared.entry.Cause.TheVariants as cause
use Rattle.xc_data.specs.declared.entry.Entry.{Entry}
use Rattle.xc_data.specs.declared.entry.JobEnd.{JobEnd}
use Rattle.xc_data.specs.declared.entry.JobEnd.TheVariants as job_end
use Rattle.xc_data.specs.declared.entry.JobLine.{JobLine}
use Rattle.xc_data.specs.declared.entry.Outcome.TheVariants.{Committed, Aborted}
use Rattle.xc_data.specs.declared.entry.Turn.{Turn}
use Rattle.xc_data.specs.declared.entry.Turn.TheVariants as turn
use Rattle.xc_data.specs.declared.undo.Undo.{Undo}
use Rattle.xc_data.specs.declared.call.LateCall.{LateCall}
use Rattle.xc_text.specs.declared.script.Script.{Script}
use Rattle.xc_script.specs.declared.ask.Ask.{Ask}
use Rattle.xc_script.specs.declared.ask.Ask.TheVariants as ask
use Rattle.xc_data.specs.declared.entry.Mark.{Mark}
use Rattle.xc_model.specs.declared.phase.Phase.{Phase}
use Rattle.xc_model.specs.declared.phase.Phase.TheVariants.{Running, Committing, Undoing, Backing}
use Rattle.xc_model.specs.Live.{IsScripted}
use Rattle.xc_model.specs.Setting.{Setting}
use Rattle.xc_model.proofs.Laws.{most_scripted}
use Rattle.xc_model.specs.Serial.{IsSerial}
use Rattle.xc_model.specs.EntryEnds.{is_tried_again}
use Rattle.xc_model.specs.Moment.{TxView, JobView, Doing, Idle, Active, Starved, Ended, Moment, active_in, active_of, actives, begun_count, late_left}
use Rattle.xc_model.specs.Moment.{rank_of, entering, asked_to_wait}
use Rattle.xc_model.specs.Rows.{IsTurn, TurnOf, ActiveTurn, StarvedTurn}
use Rattle.xc_model.specs.IdleRows.{IdleTurn}
use Rattle.xc_model.specs.RunningRows.{MarkedTurn, RunningTurn, CalledTurn, AskedTurn}
use Rattle.xc_model.specs.BackingRows.{BackingRow, OpenRow, MarkedBack, phase_after, backed}
use Rattle.xc_data.specs.declared.call.Call.{Call}
use Rattle.xc_data.specs.declared.call.Call.TheVariants as call
use Rattle.xc_data.specs.declared.undo.UndoEnd.{UndoEnd}
use Rattle.xc_data.specs.declared.undo.UndoEnd.TheVariants.{Undone, Failed, Blocked}
use Rattle.xc_model.specs.Moment.{SavedView}
use Rattle.std.specs.Prelude.{Bool, true, nat_lt}
use Rattle.xc_model.specs.CommittingRows.{CommittingTurn}
use Rattle.xc_model.specs.UndoingRows.{UndoingTurn, BackTurn}
use Rattle.xc_model.specs.CommittingRows.{LateTurn}
use Rattle.xc_model.specs.Movers.{IsActiveAt, answered_with, asked_at, with_tx}
use Rattle.xc_model.specs.Entering.{entry_of, behind_commit}
use Rattle.xc_model.specs.PlainSteps.{noting, wanting, claims_at}
use Rattle.xc_model.specs.IdleRows.{new_tx, beginning_job}
use Rattle.xc_model.specs.Entering.{behind_abort, started_job}
use Rattle.xc_model.specs.IdleRows.{IsEnding}
use Rattle.xc_model.specs.Ending.{StopWhereFull}
use Rattle.xc_model.specs.Consistent.{AreLinesOf, IsLineOf}
use Rattle.xc_model.specs.Opened.{IsOpening, opened_job}
use Rattle.xc_model.specs.Alone.{AreAlone, IsFullAt, MeetsNobody}
use Rattle.xc_model.specs.LateCalls.{started_late}
use Rattle.xc_model.specs.Entering.{started_jobs}
use Rattle.xc_model.specs.Movers.{mover}
use Rattle.xc_turns.proofs.Grown.{started_idle}
use Rattle.xc_turns.proofs.LateEnds.{next_ends}
use Rattle.xc_turns.proofs.Jobs.{behind_abort_none, none_active, opened_rests}
use Rattle.xc_turns.proofs.OrderParts.{none_marked, none_left, active_is_next, MayBeFull, AreFull, goes_unfull, idle_unfull, alone_goes_on}
use Rattle.xc_turns.proofs.OrderParts.{rests, enters_alone, alone_joined}

-- ---- each row
-- where the job is idle no transaction is active
idle_alone : (at : ℕ) (old : Moment) (job : JobView) → slice_get old.jobs at ≡ Some job → job.doing ≡ Idle → AreAlone old at
    → length (actives old.jobs) ≡ 0
idle_alone at old job stands is alone =
    ap length (none_active old.jobs (λ j tx active.
    let here : IsActiveAt old.jobs at tx = subst (λ k. IsActiveAt old.jobs k tx) (alone.others j tx active) active in
    let same_job : job ≡ here.0 = let a = here.1 in cc in
    let h : ◌≡◌ {A = Option TxView} None (Some tx) = ap active_in (sym is) ∙ ap active_of same_job ∙ here.2 in cc))

-- where it finds the journal full, it is full
ended_full : (s : Setting) (at : ℕ) (old : Moment) (job : JobView) (end : JobEnd) → slice_get old.jobs at ≡ Some job → job.doing ≡ Idle
    → IsEnding s old job end → AreAlone old at → MayBeFull old.journal at (record job { doing = Ended end })
ended_full s at old job job_end.JournalFull stands is ending alone full =
    let first = idle_alone at old job stands is alone in
    let most = ending.3 in
    record { full = omega (arith, first, most); before = alone.before }
ended_full s at old job job_end.Done stands is ending alone full = cc
ended_full s at old job (job_end.GaveUp c) stands is ending alone full = cc
ended_full s at old job job_end.NoMemory stands is ending alone full = cc

idle_row : (s : Setting) (at : ℕ) (old new : Moment) (job : JobView) (answer : Turn) → slice_get old.jobs at ≡ Some job → job.doing ≡ Idle
    → IsScripted s.script → IdleTurn (mover s at old job) answer new → AreAlone old at → AreAlone new at
idle_row s at old new job turn.Went stands is own (ready, same) alone =
    let first = idle_alone at old job stands is alone in
    let room : begun_count old < 10000 = subst (λ n. begun_count old < n) (most_scripted s.script own) ready.room in
    let tx : TxView = new_tx (begun_count old + 1) (rank_of job.attempts (begun_count old + 1)) (length old.journal) job.me in
    alone_goes_on at old new job (beginning_job old job) tx stands (ap (λ (n : Moment). n.jobs) same) (ap (λ (n : Moment). n.journal) same)
    (λ n. ap (λ (now : Moment). now.marks n) same ∙ none_left old.marks (begun_count old + 1) alone.unmarked n) refl
    (omega (arith, first), refl, tt, omega (arith, first)) alone
idle_row s at old new job (turn.Ended end) stands is own (ending, same) alone =
    rests at old new job (record job { doing = Ended end }) stands (ap (λ (n : Moment). n.jobs) same) (ap (λ (n : Moment). n.journal) same)
    (none_marked old new (ap (λ (n : Moment). n.marks) same) alone.unmarked) refl (ended_full s at old job end stands is ending alone) alone
idle_row s at old new job (turn.Busy object number) stands is own (waits, same) alone =
    rests at old new job (asked_to_wait job) stands (ap (λ (n : Moment). n.jobs) same) (ap (λ (n : Moment). n.journal) same)
    (none_marked old new (ap (λ (n : Moment). n.marks) same) alone.unmarked) (ap active_in is)
    (goes_unfull old.journal at (asked_to_wait job) Idle is (λ e. cc)) alone
idle_row s at old new job turn.NoMemory stands is own h alone = subst (λ (n : Moment). AreAlone n at) (sym h.2) alone

call_row : (s : Setting) (at : ℕ) (old new : Moment) (job : JobView) (tx : TxView) (c : Call) → slice_get old.jobs at ≡ Some job → job.doing ≡ Active tx
    → CalledTurn (mover s at old job) tx c new → AreAlone old at → AreAlone new at
call_row s at old new job tx call.Back stands is c alone =
    let next = active_is_next at old job tx stands is alone in
    let tx' : TxView = record tx { phase = Backing } in
    alone_goes_on at old new job (with_tx job c.place tx') tx' stands (ap (λ (n : Moment). n.jobs) c.behind) (ap (λ (n : Moment). n.journal) c.behind)
    (none_marked old new (ap (λ (n : Moment). n.marks) c.behind) alone.unmarked) refl (next.0, next.1, tt, next.3) alone
call_row s at old new job tx asked stands is (inl c) alone =
    let next = active_is_next at old job tx stands is alone in
    let noted : TxView = noting tx asked c.reply (claims_at old tx asked) c.parts in
    alone_goes_on at old new job (answered_with job c.place noted) noted stands (ap (λ (n : Moment). n.jobs) c.behind) (ap (λ (n : Moment). n.journal) c.behind)
    (none_marked old new (ap (λ (n : Moment). n.marks) c.behind) alone.unmarked) refl next alone
call_row s at old new job tx asked stands is (inr c) alone =
    let r = c.met.rival in absurd (r.other (alone.others r.place r.rival r.active))

meets_nobody : (n : ℕ) (e : UndoEnd) → MeetsNobody (phase_after n e)
meets_nobody n (Undone faults) = tt
meets_nobody n (Failed done faults) = refl
meets_nobody n (Blocked by) = refl

one_back_row : (s : Setting) (at : ℕ) (old new : Moment) (job : JobView) (tx : TxView) (kept : SavedView) (b : Bool) → slice_get old.jobs at ≡ Some job
    → job.doing ≡ Active tx → BackingRow (mover s at old job) tx kept b new → AreAlone old at → AreAlone new at
one_back_row s at old new job tx kept true stands is t alone =
    let next = active_is_next at old job tx stands is alone in
    let tx' : TxView = record tx {
      phase = phase_after (length t.older + 1) t.end;
      undo = record { pending = t.older; ended = (t.tried, t.end) ∷ tx.undo.ended };
    } in
    alone_goes_on at old new job (with_tx job job.place tx') tx' stands (ap (λ (n : Moment). n.jobs) t.behind) (ap (λ (n : Moment). n.journal) t.behind)
    (none_marked old new (ap (λ (n : Moment). n.marks) t.behind) alone.unmarked) refl (next.0, next.1, meets_nobody (length t.older + 1) t.end, next.3) alone
one_back_row s at old new job tx kept false stands is t alone =
    let next = active_is_next at old job tx stands is alone in
    alone_goes_on at old new job (answered_with job t.place (backed tx kept)) (backed tx kept) stands (ap (λ (n : Moment). n.jobs) t.behind)
    (ap (λ (n : Moment). n.journal) t.behind)
    (none_marked old new (ap (λ (n : Moment). n.marks) t.behind) alone.unmarked) refl (next.0, next.1, tt, next.3) alone

open_row : (s : Setting) (at : ℕ) (old new : Moment) (job : JobView) (tx : TxView) (k : Option SavedView) → slice_get old.jobs at ≡ Some job
    → job.doing ≡ Active tx → OpenRow (mover s at old job) tx k new → AreAlone old at → AreAlone new at
open_row s at old new job tx None stands is h alone = absurd h
open_row s at old new job tx (Some kept) stands is h alone =
    one_back_row s at old new job tx kept (nat_lt (length kept.trail) (length tx.undo.pending)) stands is h alone

back_marked_row : (s : Setting) (at : ℕ) (old new : Moment) (job : JobView) (tx : TxView) (m : Option Mark) (answer : Turn) → slice_get old.jobs at ≡ Some job
    → job.doing ≡ Active tx → old.marks tx.number ≡ m → MarkedBack (mover s at old job) tx m answer new → AreAlone old at → AreAlone new at
back_marked_row s at old new job tx None turn.Went stands is has h alone = open_row s at old new job tx tx.saved stands is h alone
back_marked_row s at old new job tx None _ stands is has h alone = absurd h
back_marked_row s at old new job tx (Some m) answer stands is has h alone =
    absurd (let e : ◌≡◌ {A = Option Mark} None (Some m) = sym (alone.unmarked tx.number) ∙ has in cc)

ask_row : (s : Setting) (at : ℕ) (old new : Moment) (job : JobView) (tx : TxView) (a : Ask) → slice_get old.jobs at ≡ Some job → job.doing ≡ Active tx
    → AskedTurn (mover s at old job) tx a new → AreAlone old at → AreAlone new at
ask_row s at old new job tx (ask.Call c) stands is h alone = call_row s at old new job tx c stands is h alone
ask_row s at old new job tx ask.Commit stands is c alone =
    let next = active_is_next at old job tx stands is alone in
    let tx' : TxView = record tx { phase = Committing } in
    alone_goes_on at old new job (with_tx job c.place tx') tx' stands (ap (λ (n : Moment). n.jobs) c.behind) (ap (λ (n : Moment). n.journal) c.behind)
    (none_marked old new (ap (λ (n : Moment). n.marks) c.behind) alone.unmarked) refl
    (next.0, next.1, tt, next.3) alone
ask_row s at old new job tx ask.Abort stands is c alone =
    let next = active_is_next at old job tx stands is alone in
    let tx' : TxView = record tx { phase = Undoing cause.Asked } in
    alone_goes_on at old new job (with_tx job c.place tx') tx' stands (ap (λ (n : Moment). n.jobs) c.behind) (ap (λ (n : Moment). n.journal) c.behind)
    (none_marked old new (ap (λ (n : Moment). n.marks) c.behind) alone.unmarked) refl
    (next.0, next.1, refl, next.3) alone
ask_row s at old new job tx ask.End stands is h alone = absurd h

running_row : (s : Setting) (at : ℕ) (old new : Moment) (job : JobView) (tx : TxView) (answer : Turn) → slice_get old.jobs at ≡ Some job
    → job.doing ≡ Active tx → RunningTurn (mover s at old job) tx answer new → AreAlone old at → AreAlone new at
running_row s at old new job tx turn.Went stands is h alone = ask_row s at old new job tx (asked_at s job) stands is h alone
running_row s at old new job tx turn.NoMemory stands is c alone =
    let next = active_is_next at old job tx stands is alone in
    let tx' : TxView = wanting tx c.left c.held in
    alone_goes_on at old new job (with_tx job c.place tx') tx' stands (ap (λ (n : Moment). n.jobs) c.behind) (ap (λ (n : Moment). n.journal) c.behind)
    (none_marked old new (ap (λ (n : Moment). n.marks) c.behind) alone.unmarked) refl
    (next.0, next.1, refl, next.3) alone
running_row s at old new job tx (turn.Busy object holder) stands is w alone =
    let r = w.met.rival in absurd (r.other (alone.others r.place r.rival r.active))
running_row s at old new job tx (turn.Ended end) stands is h alone = absurd h

marked_row : (s : Setting) (at : ℕ) (old new : Moment) (job : JobView) (tx : TxView) (m : Option Mark) (answer : Turn) → slice_get old.jobs at ≡ Some job
    → job.doing ≡ Active tx → old.marks tx.number ≡ m → MarkedTurn (mover s at old job) tx m answer new → AreAlone old at → AreAlone new at
marked_row s at old new job tx None answer stands is has h alone = running_row s at old new job tx answer stands is h alone
marked_row s at old new job tx (Some m) answer stands is has h alone =
    absurd (let e : ◌≡◌ {A = Option Mark} None (Some m) = sym (alone.unmarked tx.number) ∙ has in cc)

late_row : (s : Setting) (at : ℕ) (old new : Moment) (job : JobView) (tx : TxView) (calls : List LateCall) → slice_get old.jobs at ≡ Some job
    → job.doing ≡ Active tx → LateTurn (mover s at old job) tx calls new → AreAlone old at → AreAlone new at
late_row s at old new job tx [] stands is same alone =
    let next = active_is_next at old job tx stands is alone in
    let mid = entering old at (behind_commit job tx) (entry_of tx at (Committed tx.ends)) in
    let more = started_jobs s.script job tx in
    subst (λ n. AreAlone n at) (sym same.0)
    (alone_joined at mid more (started_idle s.script (behind_commit job tx) (started_late tx.late tx.ends))
    (idle_unfull mid.journal (started_job s.script (behind_commit job tx)) (λ block. refl) (started_late tx.late tx.ends))
    (enters_alone at old mid job (behind_commit job tx) (entry_of tx at (Committed tx.ends)) old.contents old.kept stands refl refl (next.0, next.1, refl, refl)
    next.3
    (λ e. cc) alone))
late_row s at old new job tx (call ∷ calls) stands is row alone =
    let t = next_ends s at old job tx new call row in
    let next = active_is_next at old job tx stands is alone in
    let tx' : TxView = record tx { ends = tx.ends ++ t.end ∷ [] } in
    alone_goes_on at old new job (with_tx job job.place tx') tx' stands t.jobs t.journal (none_marked old new t.marks alone.unmarked) refl next alone

commit_row : (s : Setting) (at : ℕ) (old new : Moment) (job : JobView) (tx : TxView) (answer : Turn) → slice_get old.jobs at ≡ Some job
    → job.doing ≡ Active tx → CommittingTurn (mover s at old job) tx answer new → AreAlone old at → AreAlone new at
commit_row s at old new job tx turn.Went stands is h alone = late_row s at old new job tx (late_left tx) stands is h alone
commit_row s at old new job tx turn.NoMemory stands is h alone = absurd h
commit_row s at old new job tx (turn.Busy object holder) stands is h alone = absurd h
commit_row s at old new job tx (turn.Ended end) stands is h alone = absurd h

-- a job goes on after an abort, or starves
back_goes : (job : JobView) (tx : TxView) (c : Cause) → (behind_abort job tx c).doing ≡ Ended job_end.JournalFull → ⊥
back_goes job tx (cause.Stuck failed) e = cc
back_goes job tx cause.Asked e = cc
back_goes job tx cause.NoMemory e = cc
back_goes job tx (cause.Conflict object holder at) e = cc
back_goes job tx (cause.Revoked object by at) e = cc

back_row : (s : Setting) (at : ℕ) (old new : Moment) (job : JobView) (tx : TxView) (c : Cause) (pending : List Undo) → slice_get old.jobs at ≡ Some job
    → job.doing ≡ Active tx → tx.phase ≡ Undoing c → BackTurn (mover s at old job) tx c pending new → AreAlone old at → AreAlone new at
back_row s at old new job tx c [] stands is undoes same alone =
    let next = active_is_next at old job tx stands is alone in
    let lone : is_tried_again c ≡ false = subst MeetsNobody undoes next.2 in
    enters_alone at old new job (behind_abort job tx c) (entry_of tx at (Aborted (record { cause = c; records = tx.undo.ended }))) new.contents new.kept stands
    same.behind (behind_abort_none job tx c) (next.0, next.1, ap not lone, refl) next.3 (back_goes job tx c) alone
back_row s at old new job tx c (u ∷ pending) stands is undoes t alone =
    let next = active_is_next at old job tx stands is alone in
    let tx' : TxView = record tx { undo = record { pending = t.older; ended = (t.tried, t.end) ∷ tx.undo.ended } } in
    alone_goes_on at old new job (with_tx job job.place tx') tx' stands (ap (λ (n : Moment). n.jobs) t.behind) (ap (λ (n : Moment). n.journal) t.behind)
    (none_marked old new (ap (λ (n : Moment). n.marks) t.behind) alone.unmarked) refl next alone

undoing_row : (s : Setting) (at : ℕ) (old new : Moment) (job : JobView) (tx : TxView) (c : Cause) (answer : Turn) → slice_get old.jobs at ≡ Some job
    → job.doing ≡ Active tx → tx.phase ≡ Undoing c → UndoingTurn (mover s at old job) tx c answer new → AreAlone old at → AreAlone new at
undoing_row s at old new job tx c turn.Went stands is undoes h alone = back_row s at old new job tx c tx.undo.pending stands is undoes h alone
undoing_row s at old new job tx c turn.NoMemory stands is undoes h alone = absurd h
undoing_row s at old new job tx c (turn.Busy object holder) stands is undoes h alone = absurd h
undoing_row s at old new job tx c (turn.Ended end) stands is undoes h alone = absurd h

active_row : (s : Setting) (at : ℕ) (old new : Moment) (job : JobView) (tx : TxView) (p : Phase) (answer : Turn) → slice_get old.jobs at ≡ Some job
    → job.doing ≡ Active tx → tx.phase ≡ p → ActiveTurn (mover s at old job) tx p answer new → AreAlone old at → AreAlone new at
active_row s at old new job tx Running answer stands is phase h alone =
    marked_row s at old new job tx (old.marks tx.number) answer stands is refl h alone
active_row s at old new job tx Committing answer stands is phase h alone = commit_row s at old new job tx answer stands is h alone
active_row s at old new job tx Backing answer stands is phase h alone =
    back_marked_row s at old new job tx (old.marks tx.number) answer stands is refl h alone
active_row s at old new job tx (Undoing c) answer stands is phase h alone = undoing_row s at old new job tx c answer stands is phase h alone

starved_row : (s : Setting) (at : ℕ) (old new : Moment) (job : JobView) (answer : Turn) → slice_get old.jobs at ≡ Some job
    → StarvedTurn (mover s at old job) answer new → AreAlone old at → AreAlone new at
starved_row s at old new job (turn.Ended job_end.NoMemory) stands same alone =
    rests at old new job (record job { doing = Ended job_end.NoMemory }) stands (ap (λ (n : Moment). n.jobs) same.1)
    (ap (λ (n : Moment). n.journal) same.1) (none_marked old new (ap (λ (n : Moment). n.marks) same.1) alone.unmarked) refl (λ e. cc) alone
starved_row s at old new job (turn.Ended job_end.Done) stands h alone = absurd h
starved_row s at old new job (turn.Ended (job_end.GaveUp c)) stands h alone = absurd h
starved_row s at old new job (turn.Ended job_end.JournalFull) stands h alone = absurd h
starved_row s at old new job turn.Went stands same alone =
    rests at old new job (record job { doing = Idle }) stands (ap (λ (n : Moment). n.jobs) same.1) (ap (λ (n : Moment). n.journal) same.1)
    (none_marked old new (ap (λ (n : Moment). n.marks) same.1) alone.unmarked) refl (λ e. cc) alone
starved_row s at old new job turn.NoMemory stands h alone = absurd h
starved_row s at old new job (turn.Busy object holder) stands h alone = absurd h

doing_row : (s : Setting) (at : ℕ) (old new : Moment) (job : JobView) (d : Doing) (answer : Turn) → slice_get old.jobs at ≡ Some job → job.doing ≡ d
    → IsScripted s.script → TurnOf (mover s at old job) d answer new → AreAlone old at → AreAlone new at
doing_row s at old new job Idle answer stands is own h alone = idle_row s at old new job answer stands is own h alone
doing_row s at old new job (Active tx) answer stands is own h alone = active_row s at old new job tx tx.phase answer stands is refl h alone
doing_row s at old new job Starved answer stands is own h alone = starved_row s at old new job answer stands h alone
doing_row s at old new job (Ended end) answer stands is own h alone = absurd h

-- a turn of the one job of a script that goes on
pub alone_turned : (s : Setting) (at : ℕ) (old new : Moment) (answer : Turn) → IsScripted s.script → IsTurn s at old answer new → AreAlone old at
    → AreAlone new at
alone_turned s at old new answer own h alone = doing_row s at old new h.job h.job.doing answer h.there refl own h.row alone

-- ---- before the first turn, and where a later job goes on
-- a station before its first turn
pub alone_opened : (script : Script) (now : Moment) → IsOpening script now → AreAlone now 0
alone_opened script now o =
    let rests = λ (j : ℕ) (tx : TxView) (active : IsActiveAt now.jobs j tx).
    opened_rests script script.outline.jobs j tx (subst (λ js. IsActiveAt js j tx) o.jobs active) in
    let none : IsSerial [] = record { order = tt; jobs = λ i j a b ea eb less. cc } in
    record {
      serial = subst (λ j. IsSerial j) (sym o.journal) none;
      before = subst (λ j. All (λ (e : Entry). e.job ≤ 0 + 1) j) (sym o.journal) (All-nil (λ (e : Entry). e.job ≤ 0 + 1));
      others = λ j tx active. absurd (rests j tx active);
      mine = λ tx active. absurd (rests 0 tx active);
      unmarked = o.marks;
      full = subst (λ js. AreFull now.journal js) (sym o.jobs)
          (λ j. idle_unfull now.journal (opened_job script) (λ name. refl) script.outline.jobs j j);
    }

-- where the job has no active transaction a later one may go on
pub alone_later : (now : Moment) (at later : ℕ) → AreAlone now at → ((tx : TxView) → IsActiveAt now.jobs at tx → ⊥) → at ≤ later → AreAlone now later
alone_later now at later alone rests after =
    let none = λ (j : ℕ) (tx : TxView) (active : IsActiveAt now.jobs j tx).
    rests tx (subst (λ k. IsActiveAt now.jobs k tx) (alone.others j tx active) active) in
    record {
      serial = alone.serial;
      before = All-weaker (λ (e : Entry). e.job ≤ at + 1) (λ (e : Entry). e.job ≤ later + 1) (λ e le. omega arith) now.journal alone.before;
      others = λ j tx active. absurd (none j tx active);
      mine = λ tx active. absurd (none later tx active);
      unmarked = alone.unmarked;
      full = alone.full;
    }

-- ---- at the end
line_ended : (line : JobLine) (job : JobView) (d : Doing) → IsLineOf line job d → d ≡ Ended line.end
line_ended line job Idle h = absurd h
line_ended line job (Active tx) h = absurd h
line_ended line job Starved h = absurd h
line_ended line job (Ended end) h = ap Ended (sym h.1)

lines_stop : (P : ℕ → Type 0) (jobs : List JobView) (lines : List JobLine) → AreLinesOf jobs lines
    → ((j : ℕ) (job : JobView) → slice_get jobs j ≡ Some job → job.doing ≡ Ended job_end.JournalFull → P j)
    → (j : ℕ) (line : JobLine) → slice_get lines j ≡ Some line → line.end ≡ job_end.JournalFull → P j
lines_stop P [] lines are full j line there is =
    let h : ◌≡◌ {A = Option JobLine} None (Some line) = sym (ap (λ (ls : List JobLine). slice_get ls j) are) ∙ there in cc
lines_stop P (job ∷ jobs) [] are full j line there is = absurd are
lines_stop P (job ∷ jobs) (first ∷ lines) are full zero line there is =
    let same : first ≡ line = cc in
    full zero job refl (line_ended first job job.doing are.0 ∙ ap Ended (ap (λ (l : JobLine). l.end) same ∙ is))
lines_stop P (job ∷ jobs) (first ∷ lines) are full (suc j) line there is =
    lines_stop (λ n. P (suc n)) jobs lines are.1 (λ i. full (suc i)) j line there is

-- no entry is of a job after one that found the journal full
pub alone_stops : (now : Moment) (at : ℕ) (lines : List JobLine) → AreAlone now at → AreLinesOf now.jobs lines → StopWhereFull lines now.journal
alone_stops now at lines alone are j line there is = (lines_stop (IsFullAt now.journal) now.jobs lines are alone.full j line there is).before
