-- Each row of the table of turns keeps the count of the host's faults that of the recorded ones.
use Rattle.std.proofs.Common.{◌≡◌, ℕ, ◌+◌, length, inl, inr, None, Some, List, [], ◌∷◌, ◌++◌, refl, ap, sym, ◌∙◌, subst, arith, cond}
use Rattle.std.specs.Prelude.{Option, Bool, true, false, nat_lt, slice_get, slice_set, count_by, sum_by}
use Rattle.std.proofs.lemmas.List.Sums.{sum_by-cons, sum_by_push}
use Rattle.xc_data.specs.declared.entry.KeptItem.{KeptItem}
use Rattle.xc_compensate.specs.Records.{Records}
use Rattle.xc_data.specs.Counts.{RisesBy}
use Rattle.xc_data.specs.Faults.{entry_faults, reply_faults, is_fault_reply, is_fault_end, undo_faults, end_faults}
use Rattle.xc_data.specs.declared.call.Call.{Call}
use Rattle.xc_data.specs.declared.call.Call.TheVariants as call
use Rattle.xc_data.specs.declared.call.Reply.{Reply}
use Rattle.xc_data.specs.declared.call.Reply.TheVariants as reply
use Rattle.xc_data.specs.declared.call.LateCall.{LateCall}
use Rattle.xc_data.specs.declared.entry.Cause.{Cause}
use Rattle.xc_data.specs.declared.entry.Cause.TheVariants as cause
use Rattle.xc_data.specs.declared.entry.Entry.{Entry}
use Rattle.xc_data.specs.declared.entry.Outcome.TheVariants.{Committed, Aborted}
use Rattle.xc_data.specs.declared.entry.JobEnd.TheVariants as job_end
use Rattle.xc_data.specs.declared.entry.Turn.{Turn}
use Rattle.xc_data.specs.declared.entry.Turn.TheVariants as turn
use Rattle.xc_data.specs.declared.undo.Undo.{Undo}
use Rattle.xc_script.specs.declared.ask.Ask.{Ask}
use Rattle.xc_script.specs.declared.ask.Ask.TheVariants as ask
use Rattle.xc_host.specs.Contents.{Contents}
use Rattle.xc_host.proofs.Laws.{rises_sum}
use Rattle.xc_data.specs.declared.entry.Mark.{Mark}
use Rattle.xc_model.specs.declared.phase.Phase.{Phase}
use Rattle.xc_model.specs.declared.phase.Phase.TheVariants.{Running, Committing, Undoing, Backing}
use Rattle.xc_model.specs.Setting.{Setting}
use Rattle.xc_model.specs.Progress.{Following, progress_of}
use Rattle.xc_model.specs.Moment.{TxView, SavedView, JobView, Doing, Idle, Active, Starved, Ended, Moment}
use Rattle.xc_model.specs.Moment.{active_in, active_of, actives, late_left, revoked, asked_to_wait}
use Rattle.xc_model.specs.Moment.{with_job, entering}
use Rattle.xc_model.specs.Movers.{answered_with, asked_at, with_tx}
use Rattle.xc_model.specs.IdleRows.{beginning_job}
use Rattle.xc_model.specs.PlainSteps.{claims_at, noting, wanting}
use Rattle.xc_model.specs.Entering.{entry_of, behind_commit, behind_abort}
use Rattle.xc_model.specs.RunningRows.{Calls, CalledTurn, is_way_back}
use Rattle.xc_model.specs.BackingRows.{phase_after, backed, BacksOne, EndsBack, BackingRow, OpenRow, MarkedBack}
use Rattle.xc_model.specs.CommittingRows.{LateTurn}
use Rattle.xc_model.specs.UndoingRows.{Compensates}
use Rattle.xc_model.specs.Entering.{started_jobs}
use Rattle.xc_model.specs.Movers.{mover}
use Rattle.xc_model.specs.IdleRows.{IdleTurn}
use Rattle.xc_model.specs.RunningRows.{AskedTurn, MarkedTurn, RunningTurn}
use Rattle.xc_model.specs.CommittingRows.{CommittingTurn}
use Rattle.xc_model.specs.UndoingRows.{BackTurn, UndoingTurn}
use Rattle.xc_model.specs.Rows.{StarvedTurn, ActiveTurn, TurnOf, IsTurn}
use Rattle.xc_model.specs.Stories.{IsCommitting, IsInPhase, IsUndoing, IsDoing, StoriesHold}
use Rattle.xc_model.specs.Counted.{tx_faults, recorded_faults, AreCounted}
use Rattle.xc_turns.proofs.Lists.{get_beside}
use Rattle.xc_turns.proofs.Jobs.{behind_abort_none}
use Rattle.xc_model.specs.LateCalls.{started_late}
use Rattle.xc_turns.proofs.Grown.{grown_actives, started_idle}
use Rattle.xc_turns.proofs.LateEnds.{Ends, next_ends}
use Rattle.xc_turns.proofs.CountedSums.{adds, sum_set, fault_as_count}

-- ---- by its phase a transaction has ended records or late ends
-- the job's story, with what its phase says
pub story_in_phase : (s : Setting) (at : ℕ) (now : Moment) (job : JobView) (tx : TxView) → slice_get now.jobs at ≡ Some job → job.doing ≡ Active tx
    → StoriesHold s (length now.words) now.marks now.journal now.jobs → (f : Following) × IsInPhase s job.place (asked_at s job) tx tx.phase
story_in_phase s at now job tx stands is told =
    let f = get_beside (progress_of s.script now.journal).jobs now.jobs at job told.count stands in
    let j = told.jobs_told at f.0 job f.1 stands in
    let doing = subst (IsDoing s (length now.journal + length (actives now.jobs)) f.0 job) is j.doing in
    (f.0, doing.phase)

-- a committing one has no ended record
none_ended : (s : Setting) (at : ℕ) (now : Moment) (job : JobView) (tx : TxView) → slice_get now.jobs at ≡ Some job → job.doing ≡ Active tx
    → tx.phase ≡ Committing → StoriesHold s (length now.words) now.marks now.journal now.jobs → tx.undo.ended ≡ []
none_ended s at now job tx stands is commits told =
    let phase = story_in_phase s at now job tx stands is told in
    let committing : IsCommitting s job.place (asked_at s job) tx = subst (IsInPhase s job.place (asked_at s job) tx) commits phase.1 in
    committing.none

-- an undoing one has no end of a late call
pub none_late : (s : Setting) (at : ℕ) (now : Moment) (job : JobView) (tx : TxView) (c : Cause) → slice_get now.jobs at ≡ Some job → job.doing ≡ Active tx
    → tx.phase ≡ Undoing c → StoriesHold s (length now.words) now.marks now.journal now.jobs → tx.ends ≡ []
none_late s at now job tx c stands is undoes told =
    let phase = story_in_phase s at now job tx stands is told in
    let undoing : IsUndoing s (asked_at s job) tx c = subst (IsInPhase s job.place (asked_at s job) tx) undoes phase.1 in
    undoing.no_ends

-- a reply that tells of no way back tells of a fault, or of none
plain_faults : (r : Reply) → is_way_back r ≡ false → reply_faults r ≡ cond (is_fault_reply r) 1 0
plain_faults (reply.Fault n) e = refl
plain_faults (reply.Undone n) e = cc e
plain_faults _ e = refl

-- ---- what moves
moved : (a b x y n m k : ℕ) → b + x ≡ a + y → m + y ≡ n + x + k → n + a + k ≡ m + b
moved a b x y n m k sums parts = omega arith

module _ (s : Setting) (at from : ℕ) (old : Moment) (job : JobView) (new : Moment) (stands : slice_get old.jobs at ≡ Some job)
    (told : StoriesHold s (length old.words) old.marks old.journal old.jobs) (h : AreCounted from old) where
  -- what a job's transaction has recorded
  abbrev part : JobView → ℕ
  part x = adds tx_faults (active_of x)

  -- so many faults more, in the journal and in this job
  more_counted : (job' : JobView) (k : ℕ) → actives new.jobs ≡ actives (slice_set old.jobs at job')
      → sum_by entry_faults new.journal + part job' ≡ sum_by entry_faults old.journal + part job + k → RisesBy k old.faults new.faults
      → AreCounted from new
  more_counted job' k jobs parts cause =
      let total : recorded_faults old + k ≡ recorded_faults new =
      moved (sum_by tx_faults (actives old.jobs)) (sum_by tx_faults (actives (slice_set old.jobs at job'))) (part job) (part job')
      (sum_by entry_faults old.journal) (sum_by entry_faults new.journal) k (sum_set tx_faults old.jobs at job job' stands) parts
      ∙ ap (λ txs. sum_by entry_faults new.journal + sum_by tx_faults txs) (sym jobs) in
      subst (λ n. RisesBy n from new.faults) total (rises_sum (recorded_faults old) k from old.faults new.faults h cause)

  -- as many as before
  still_counted : (job' : JobView) → new.jobs ≡ slice_set old.jobs at job' → new.journal ≡ old.journal → new.faults ≡ old.faults → part job' ≡ part job
      → AreCounted from new
  still_counted job' jobs journal faults same =
      let sums : sum_by entry_faults new.journal ≡ sum_by entry_faults old.journal = ap (sum_by entry_faults) journal in
      more_counted job' 0 (ap actives jobs) (omega (arith, sums, same)) faults

  -- only a job changed
  with_counted : (job' : JobView) → new ≡ with_job old at job' → part job' ≡ part job → AreCounted from new
  with_counted job' is same = still_counted job' (ap (λ (n : Moment). n.jobs) is) (ap (λ (n : Moment). n.journal) is) (ap (λ (n : Moment). n.faults) is) same

  -- an entry takes over what its transaction recorded
  entered_counted : (job' : JobView) (e : Entry) (contents : Contents) (kept : List KeptItem) (jobs : List JobView)
      → new ≡ record (entering old at job' e) { contents = contents; kept = kept; jobs = jobs }
      → actives jobs ≡ actives (slice_set old.jobs at job') → part job' ≡ 0 → entry_faults e ≡ part job → AreCounted from new
  entered_counted job' e contents kept jobs is put none same =
      let sums : sum_by entry_faults new.journal ≡ sum_by entry_faults old.journal + entry_faults e =
      ap (λ (n : Moment). sum_by entry_faults n.journal) is ∙ sum_by_push entry_faults old.journal e in
      more_counted job' 0 (ap (λ (n : Moment). actives n.jobs) is ∙ put) (omega (arith, sums, none, same)) (ap (λ (n : Moment). n.faults) is)

  -- ---- no active transaction
  by_idle : job.doing ≡ Idle → (answer : Turn) → IdleTurn (mover s at old job) answer new → AreCounted from new
  by_idle is (turn.Ended end) row = with_counted (record job { doing = Ended end }) row.1 (ap (λ d. adds tx_faults (active_in d)) (sym is))
  by_idle is turn.Went row =
      still_counted (beginning_job old job) (ap (λ (n : Moment). n.jobs) row.1) (ap (λ (n : Moment). n.journal) row.1) (ap (λ (n : Moment). n.faults) row.1)
      (ap (λ d. adds tx_faults (active_in d)) (sym is))
  by_idle is (turn.Busy object number) row = with_counted (asked_to_wait job) row.1 refl
  by_idle is turn.NoMemory row = subst (AreCounted from) (sym row.2) h

  by_starved : job.doing ≡ Starved → (answer : Turn) → StarvedTurn (mover s at old job) answer new → AreCounted from new
  by_starved is (turn.Ended job_end.NoMemory) row =
      with_counted (record job { doing = Ended job_end.NoMemory }) row.1 (ap (λ d. adds tx_faults (active_in d)) (sym is))
  by_starved is (turn.Ended job_end.Done) row = absurd row
  by_starved is (turn.Ended (job_end.GaveUp c)) row = absurd row
  by_starved is (turn.Ended job_end.JournalFull) row = absurd row
  by_starved is turn.Went row = with_counted (record job { doing = Idle }) row.1 (ap (λ d. adds tx_faults (active_in d)) (sym is))
  by_starved is (turn.Busy object holder) row = absurd row
  by_starved is turn.NoMemory row = absurd row

  module _ (tx : TxView) (is : job.doing ≡ Active tx) where
    recorded : tx_faults tx ≡ part job
    recorded = ap (λ d. adds tx_faults (active_in d)) (sym is)

    -- ---- a running one
    call_counted : (call : Call) → Calls (mover s at old job) tx call new → AreCounted from new
    call_counted call row =
        let tx' = noting tx call row.reply (claims_at old tx call) row.parts in
        let one = cond (is_fault_reply row.reply) 1 0 in
        let replies : sum_by reply_faults (tx.replies ++ row.reply ∷ []) ≡ sum_by reply_faults tx.replies + one =
        sum_by_push reply_faults tx.replies row.reply ∙ ap (λ n. sum_by reply_faults tx.replies + n) (plain_faults row.reply row.no_way_back) in
        let ended : sum_by undo_faults row.parts.undo.ended ≡ sum_by undo_faults tx.undo.ended = ap (λ (u : Records). sum_by undo_faults u.ended) row.undo in
        let sums : sum_by entry_faults new.journal ≡ sum_by entry_faults old.journal = ap (λ (n : Moment). sum_by entry_faults n.journal) row.behind in
        let was = recorded in
        more_counted (answered_with job row.place tx') one (ap (λ (n : Moment). actives n.jobs) row.behind) (omega (arith, replies, ended, sums, was))
        (fault_as_count (is_fault_reply row.reply) old.faults new.faults row.cause)

    by_call : (c : Call) → CalledTurn (mover s at old job) tx c new → AreCounted from new
    by_call call.Back row = with_counted (with_tx job row.place (record tx { phase = Backing })) row.behind recorded
    by_call c (inl row) = call_counted c row
    by_call c (inr row) =
        with_counted (with_tx job row.place (record tx { phase = Undoing (cause.Conflict row.object row.holder (length old.journal)) })) row.behind recorded

    by_ask : (a : Ask) → AskedTurn (mover s at old job) tx a new → AreCounted from new
    by_ask (ask.Call c) row = by_call c row
    by_ask ask.Commit row =
        let is = row.behind in
        still_counted (with_tx job row.place (record tx { phase = Committing })) (ap (λ (n : Moment). n.jobs) is) (ap (λ (n : Moment). n.journal) is)
        (ap (λ (n : Moment). n.faults) is) recorded
    by_ask ask.Abort row = with_counted (with_tx job row.place (record tx { phase = Undoing cause.Asked })) row.behind recorded
    by_ask ask.End row = absurd row

    by_running : (answer : Turn) → RunningTurn (mover s at old job) tx answer new → AreCounted from new
    by_running turn.Went row = by_ask (asked_at s job) row
    by_running turn.NoMemory row =
        still_counted (with_tx job row.place (wanting tx row.left row.held)) (ap (λ (n : Moment). n.jobs) row.behind)
        (ap (λ (n : Moment). n.journal) row.behind)
        (ap (λ (n : Moment). n.faults) row.behind) recorded
    by_running (turn.Busy object holder) row =
        still_counted (asked_to_wait (with_tx job row.place tx)) (ap (λ (n : Moment). n.jobs) row.behind) (ap (λ (n : Moment). n.journal) row.behind)
        (ap (λ (n : Moment). n.faults) row.behind) recorded
    by_running (turn.Ended end) row = absurd row

    by_mark : (m : Option Mark) (answer : Turn) → MarkedTurn (mover s at old job) tx m answer new → AreCounted from new
    by_mark None answer row = by_running answer row
    by_mark (Some m) turn.Went row = with_counted (with_tx job job.place (record tx { phase = Undoing (revoked m) })) row recorded
    by_mark (Some m) _ row = absurd row

    -- ---- one that commits
    late_counted : Ends at old job tx new → AreCounted from new
    late_counted row =
        let one = cond (is_fault_end row.end) 1 0 in
        let ends : count_by is_fault_end (tx.ends ++ row.end ∷ []) ≡ count_by is_fault_end tx.ends + one =
        sum_by_push (λ e. cond (is_fault_end e) 1 0) tx.ends row.end in
        let sums : sum_by entry_faults new.journal ≡ sum_by entry_faults old.journal = ap (sum_by entry_faults) row.journal in
        let was = recorded in
        more_counted (with_tx job job.place (record tx { ends = tx.ends ++ row.end ∷ [] })) one (ap actives row.jobs) (omega (arith, ends, sums, was))
        (fault_as_count (is_fault_end row.end) old.faults new.faults row.cause)

    by_late : tx.phase ≡ Committing → (calls : List LateCall) → LateTurn (mover s at old job) tx calls new → AreCounted from new
    by_late commits [] row =
        let none : sum_by undo_faults tx.undo.ended ≡ 0 = ap (sum_by undo_faults) (none_ended s at old job tx stands is commits told) in
        let was = recorded in
        entered_counted (behind_commit job tx) (entry_of tx at (Committed tx.ends)) old.contents old.kept _ row.0
        (grown_actives (slice_set old.jobs at (behind_commit job tx)) (started_jobs s.script job tx)
        (started_idle s.script (behind_commit job tx) (started_late tx.late tx.ends))) refl (omega (arith, none, was))
    by_late commits (call ∷ calls) row = late_counted (next_ends s at old job tx new call row)

    by_committing : tx.phase ≡ Committing → (answer : Turn) → CommittingTurn (mover s at old job) tx answer new → AreCounted from new
    by_committing commits turn.Went row = by_late commits (late_left tx) row
    by_committing commits (turn.Busy object holder) row = absurd row
    by_committing commits turn.NoMemory row = absurd row
    by_committing commits (turn.Ended end) row = absurd row

    -- ---- one rolling back
    tried_counted : Compensates (mover s at old job) tx new → AreCounted from new
    tried_counted row =
        let undo : Records = record { pending = row.older; ended = (row.tried, row.end) ∷ tx.undo.ended } in
        let ended : sum_by undo_faults ((row.tried, row.end) ∷ tx.undo.ended) ≡ end_faults row.end + sum_by undo_faults tx.undo.ended =
        sum_by-cons undo_faults (row.tried, row.end) tx.undo.ended in
        let sums : sum_by entry_faults new.journal ≡ sum_by entry_faults old.journal = ap (λ (n : Moment). sum_by entry_faults n.journal) row.behind in
        let was = recorded in
        more_counted (with_tx job job.place (record tx { undo = undo })) (end_faults row.end) (ap (λ (n : Moment). actives n.jobs) row.behind)
        (omega (arith, ended, sums, was)) row.faults

    by_records : (c : Cause) → tx.phase ≡ Undoing c → (pending : List Undo) → BackTurn (mover s at old job) tx c pending new → AreCounted from new
    by_records c undoes [] row =
        let none : count_by is_fault_end tx.ends ≡ 0 = ap (count_by is_fault_end) (none_late s at old job tx c stands is undoes told) in
        let was = recorded in
        entered_counted (behind_abort job tx c) (entry_of tx at (Aborted (record { cause = c; records = tx.undo.ended }))) new.contents new.kept _ row.behind
        refl
        (ap (adds tx_faults) (behind_abort_none job tx c)) (omega (arith, none, was))
    by_records c undoes (u ∷ pending) row = tried_counted row

    by_undoing : (c : Cause) → tx.phase ≡ Undoing c → (answer : Turn) → UndoingTurn (mover s at old job) tx c answer new → AreCounted from new
    by_undoing c undoes turn.Went row = by_records c undoes tx.undo.pending row
    by_undoing c undoes (turn.Busy object holder) row = absurd row
    by_undoing c undoes turn.NoMemory row = absurd row
    by_undoing c undoes (turn.Ended end) row = absurd row

    -- ---- one whose block goes back
    backs_one_counted : (kept : SavedView) → BacksOne (mover s at old job) tx kept new → AreCounted from new
    backs_one_counted kept row =
        let undo : Records = record { pending = row.older; ended = (row.tried, row.end) ∷ tx.undo.ended } in
        let ended : sum_by undo_faults ((row.tried, row.end) ∷ tx.undo.ended) ≡ end_faults row.end + sum_by undo_faults tx.undo.ended =
        sum_by-cons undo_faults (row.tried, row.end) tx.undo.ended in
        let sums : sum_by entry_faults new.journal ≡ sum_by entry_faults old.journal = ap (λ (n : Moment). sum_by entry_faults n.journal) row.behind in
        let was = recorded in
        more_counted (with_tx job job.place (record tx { phase = phase_after (length row.older + 1) row.end; undo = undo })) (end_faults row.end)
        (ap (λ (n : Moment). actives n.jobs) row.behind) (omega (arith, ended, sums, was)) row.faults

    ends_back_counted : (kept : SavedView) → EndsBack (mover s at old job) tx kept new → AreCounted from new
    ends_back_counted kept row =
        let faults = sum_by undo_faults tx.undo.ended in
        let replies : sum_by reply_faults (tx.replies ++ reply.Undone faults ∷ []) ≡ sum_by reply_faults tx.replies + faults =
        sum_by_push reply_faults tx.replies (reply.Undone faults) in
        let sums : sum_by entry_faults new.journal ≡ sum_by entry_faults old.journal = ap (λ (n : Moment). sum_by entry_faults n.journal) row.behind in
        let was = recorded in
        more_counted (answered_with job row.place (backed tx kept)) 0 (ap (λ (n : Moment). actives n.jobs) row.behind) (omega (arith, replies, sums, was))
        (ap (λ (n : Moment). n.faults) row.behind)

    by_block : (kept : SavedView) (b : Bool) → BackingRow (mover s at old job) tx kept b new → AreCounted from new
    by_block kept true row = backs_one_counted kept row
    by_block kept false row = ends_back_counted kept row

    by_open : (o : Option SavedView) → OpenRow (mover s at old job) tx o new → AreCounted from new
    by_open None row = absurd row
    by_open (Some kept) row = by_block kept (nat_lt (length kept.trail) (length tx.undo.pending)) row

    by_backing : (m : Option Mark) (answer : Turn) → MarkedBack (mover s at old job) tx m answer new → AreCounted from new
    by_backing None turn.Went row = by_open tx.saved row
    by_backing None turn.NoMemory row = absurd row
    by_backing None (turn.Busy object holder) row = absurd row
    by_backing None (turn.Ended end) row = absurd row
    by_backing (Some m) turn.Went row = with_counted (with_tx job job.place (record tx { phase = Undoing (revoked m) })) row recorded
    by_backing (Some m) _ row = absurd row

    by_phase : (p : Phase) → tx.phase ≡ p → (answer : Turn) → ActiveTurn (mover s at old job) tx p answer new → AreCounted from new
    by_phase Running e answer row = by_mark (old.marks tx.number) answer row
    by_phase Committing e answer row = by_committing e answer row
    by_phase (Undoing c) e answer row = by_undoing c e answer row
    by_phase Backing e answer row = by_backing (old.marks tx.number) answer row

  by_doing : (d : Doing) → job.doing ≡ d → (answer : Turn) → TurnOf (mover s at old job) d answer new → AreCounted from new
  by_doing Idle is answer row = by_idle is answer row
  by_doing (Active tx) is answer row = by_phase tx is tx.phase refl answer row
  by_doing Starved is answer row = by_starved is answer row
  by_doing (Ended end) is answer row = absurd row

-- a turn keeps the count
pub turn_keeps_count : (s : Setting) (at from : ℕ) (old new : Moment) (answer : Turn) → IsTurn s at old answer new
    → StoriesHold s (length old.words) old.marks old.journal old.jobs → AreCounted from old → AreCounted from new
turn_keeps_count s at from old new answer t told h = by_doing s at from old t.job new t.there told h t.job.doing refl answer t.row
