-- Each row of the table of turns keeps the words.
use Rattle.std.proofs.Common.{◌≡◌, ℕ, ◌+◌, length, inl, inr, true, false, Some, None, List, [], ◌∷◌, ◌++◌, refl, ap, sym, ◌∙◌, subst}
use Rattle.std.specs.Prelude.{Bool, Option, nat_lt, slice_get, slice_set}
use Rattle.xc_compensate.specs.Records.{Records}
use Rattle.xc_data.specs.declared.call.Call.{Call}
use Rattle.xc_data.specs.declared.call.Call.TheVariants as call
use Rattle.xc_data.specs.declared.call.LateCall.{LateCall}
use Rattle.xc_data.specs.declared.claim.Claim.{Claim}
use Rattle.xc_data.specs.declared.entry.Cause.{Cause}
use Rattle.xc_data.specs.declared.entry.Cause.TheVariants as cause
use Rattle.xc_data.specs.declared.entry.Entry.{Entry}
use Rattle.xc_data.specs.declared.entry.Outcome.TheVariants.{Committed, Aborted}
use Rattle.xc_data.specs.declared.entry.JobEnd.TheVariants as job_end
use Rattle.xc_data.specs.declared.entry.Turn.{Turn}
use Rattle.xc_data.specs.declared.entry.Turn.TheVariants as turn
use Rattle.xc_data.specs.declared.object.Object.TheVariants as object
use Rattle.xc_data.specs.declared.undo.Undo.{Undo}
use Rattle.xc_data.specs.declared.undo.UndoEnd.{UndoEnd}
use Rattle.xc_data.specs.declared.undo.UndoEnd.TheVariants.{Undone, Failed, Blocked}
use Rattle.xc_text.specs.declared.script.Script.{Script}
use Rattle.xc_script.specs.declared.ask.Ask.{Ask}
use Rattle.xc_script.specs.declared.ask.Ask.TheVariants as ask
use Rattle.xc_script.specs.Position.{Position}
use Rattle.xc_world.specs.Fits.{is_back}
use Rattle.xc_world.specs.Own.{Sees, Owns}
use Rattle.xc_data.specs.declared.entry.Mark.{Mark}
use Rattle.xc_model.specs.declared.phase.Phase.{Phase}
use Rattle.xc_model.specs.declared.phase.Phase.TheVariants.{Running, Committing, Undoing, Backing}
use Rattle.xc_model.specs.Setting.{Setting}
use Rattle.xc_model.specs.Progress.{words_left, progress_of}
use Rattle.xc_model.specs.Moment.{TxView, SavedView, JobView, Doing, Idle, Active, Starved, Ended, Moment, active_in, active_of, begun_count, late_left}
use Rattle.xc_model.specs.Moment.{rank_of, revoked, asked_to_wait, with_job}
use Rattle.xc_model.specs.Movers.{asked_at, with_tx}
use Rattle.xc_model.specs.IdleRows.{new_tx, beginning_job}
use Rattle.xc_model.specs.PlainSteps.{claims_at, noting, wanting}
use Rattle.xc_model.specs.Entering.{entry_of, behind_commit, behind_abort}
use Rattle.xc_model.specs.RunningRows.{BeginsBack, Calls, Conflicts, HoldsWanting, Wants}
use Rattle.xc_model.specs.CommittingRows.{LateTurn}
use Rattle.xc_model.specs.Entering.{started_jobs}
use Rattle.xc_model.specs.UndoingRows.{Compensates, EntersAborted}
use Rattle.xc_model.specs.Movers.{mover}
use Rattle.xc_model.specs.IdleRows.{IdleTurn}
use Rattle.xc_model.specs.RunningRows.{AskedTurn, CalledTurn, MarkedTurn, RunningTurn}
use Rattle.xc_model.specs.BackingRows.{phase_after, backed, BacksOne, EndsBack, BackingRow, OpenRow, BackingTurn, MarkedBack}
use Rattle.xc_model.specs.CommittingRows.{CommittingTurn}
use Rattle.xc_model.specs.UndoingRows.{BackTurn, UndoingTurn}
use Rattle.xc_model.specs.Rows.{StarvedTurn, ActiveTurn, TurnOf, IsTurn}
use Rattle.xc_model.specs.Holding.{AreApart}
use Rattle.xc_model.specs.Words.{WaitsToStore, TxWordsAgree, WordsAgree}
use Rattle.xc_turns.proofs.Jobs.{behind_abort_none}
use Rattle.xc_turns.proofs.Progressing.{progress-more}
use Rattle.xc_turns.proofs.WordClaims.{sees_still, owns_still}
use Rattle.xc_turns.proofs.WordTx.{begun_spoken, turned_spoken, phased_spoken, running_waits, backing_waits, backed_spoken, called_spoken}
use Rattle.xc_model.specs.LateCalls.{started_late}
use Rattle.xc_turns.proofs.Grown.{spoken_grown, started_idle}
use Rattle.xc_turns.proofs.LateEnds.{Ends, next_ends}
use Rattle.xc_turns.proofs.WordRows.{IsQuiet, Speaks, quiet_turn, commits_turn, late_turn, enters_turn}

-- the words of a station are those that its journal and its active transactions made
abbrev pub KeepsWords : Setting → Moment → Type 0
KeepsWords s now = WordsAgree (progress_of s.script now.journal).words now.words now.jobs

-- with the words and the journal as before
kept_words : (s : Setting) (old new : Moment) (jobs : List JobView) → new.jobs ≡ jobs → new.words ≡ old.words → new.journal ≡ old.journal
    → KeepsWords s (record old { jobs = jobs }) → KeepsWords s new
kept_words s old new jobs p q r h =
    subst (λ j. WordsAgree (progress_of s.script j).words new.words new.jobs) (sym r)
    (subst (λ w. WordsAgree (progress_of s.script old.journal).words w new.jobs) (sym q)
    (subst (λ js. WordsAgree (progress_of s.script old.journal).words old.words js) (sym p) h))

-- the words that a journal with one entry more leaves
words_entered : (script : Script) (journal : List Entry) (e : Entry)
    → (progress_of script (journal ++ e ∷ [])).words ≡ words_left (progress_of script journal).words e.calls e.outcome
words_entered script journal e = ap (λ p. p.words) (progress-more script journal e)

-- where no transaction is active nothing is said
idle_quiet : (job : JobView) → active_of job ≡ None → IsQuiet job
idle_quiet job none t e = cc (none, e)

idle_speaks : (before : List ℕ) (job : JobView) → active_of job ≡ None → Speaks before job
idle_speaks before job none t e = cc (none, e)

active_quiet : (job : JobView) (tx : TxView) → active_of job ≡ Some tx → (tx.phase ≡ Committing → ⊥) → IsQuiet job
active_quiet job tx is lacks t e phase = let same : t ≡ tx = cc (is, e) in lacks (ap (λ (x : TxView). x.phase) (sym same) ∙ phase)

active_speaks : (before : List ℕ) (job : JobView) (tx : TxView) → active_of job ≡ Some tx → TxWordsAgree before tx → Speaks before job
active_speaks before job tx is sp t e = let same : tx ≡ t = cc (is, e) in subst (TxWordsAgree before) same sp

running_is_none : (p : Phase) → p ≡ Running → p ≡ Committing → ⊥
running_is_none p is e = cc

undoing_is_none : (p : Phase) (c : Cause) → p ≡ Undoing c → p ≡ Committing → ⊥
undoing_is_none p c is e = cc

backing_is_none : (p : Phase) → p ≡ Backing → p ≡ Committing → ⊥
backing_is_none p is e = cc

-- nor does one commit whose block's record was tried
tried_is_none : (number : ℕ) (end : UndoEnd) → phase_after number end ≡ Committing → ⊥
tried_is_none number (Undone faults) e = cc
tried_is_none number (Failed done faults) e = cc
tried_is_none number (Blocked by) e = cc

module _ (s : Setting) (at : ℕ) (old : Moment) (job : JobView) (new : Moment) (stands : slice_get old.jobs at ≡ Some job) (apart : AreApart old.jobs)
    (h : KeepsWords s old) where
  abbrev before : List ℕ
  before = (progress_of s.script old.journal).words

  -- ---- no active transaction
  -- from none to none
  idles : (job' : JobView) → active_of job ≡ None → active_of job' ≡ None → KeepsWords s (with_job old at job')
  idles job' was is = quiet_turn before old.words old.jobs at job stands h job' (idle_quiet job was) (idle_quiet job' is) (idle_speaks before job' is)

  by_idle : job.doing ≡ Idle → (answer : Turn) → IdleTurn (mover s at old job) answer new → KeepsWords s new
  by_idle is (turn.Ended end) row = subst (KeepsWords s) (sym row.1) (idles (record job { doing = Ended end }) (ap active_in is) refl)
  by_idle is turn.Went row =
      let number = begun_count old + 1 in
      let tx = new_tx number (rank_of job.attempts number) (length old.journal) job.me in
      let job' = beginning_job old job in
      kept_words s old new _ (ap (λ (n : Moment). n.jobs) row.1) (ap (λ (n : Moment). n.words) row.1) (ap (λ (n : Moment). n.journal) row.1)
      (quiet_turn before old.words old.jobs at job stands h job' (idle_quiet job (ap active_in is))
      (active_quiet job' tx refl (running_is_none Running refl)) (active_speaks before job' tx refl (begun_spoken before _ _ _ _)))
  by_idle is (turn.Busy object number) row = subst (KeepsWords s) (sym row.1) (idles (asked_to_wait job) (ap active_in is) (ap active_in is))
  by_idle is turn.NoMemory row = subst (KeepsWords s) (sym row.2) h

  by_starved : job.doing ≡ Starved → (answer : Turn) → StarvedTurn (mover s at old job) answer new → KeepsWords s new
  by_starved is (turn.Ended job_end.NoMemory) row =
      subst (KeepsWords s) (sym row.1) (idles (record job { doing = Ended job_end.NoMemory }) (ap active_in is) refl)
  by_starved is (turn.Ended job_end.Done) row = absurd row
  by_starved is (turn.Ended (job_end.GaveUp c)) row = absurd row
  by_starved is (turn.Ended job_end.JournalFull) row = absurd row
  by_starved is turn.Went row = subst (KeepsWords s) (sym row.1) (idles (record job { doing = Idle }) (ap active_in is) refl)
  by_starved is (turn.Busy object holder) row = absurd row
  by_starved is turn.NoMemory row = absurd row

  module _ (tx : TxView) (is : job.doing ≡ Active tx) where
    active : active_of job ≡ Some tx
    active = ap active_in is

    said : TxWordsAgree before tx
    said = h.each at tx (job, stands, active)

    -- from one that doesn't commit to one that doesn't
    moves_on : (place : Position) (handed : Option Ask) (tx' : TxView) → (tx.phase ≡ Committing → ⊥) → (tx'.phase ≡ Committing → ⊥) → TxWordsAgree before tx'
        → KeepsWords s (with_job old at (record job { place = place; handed = handed; doing = Active tx' }))
    moves_on place handed tx' was now sp =
        let job' : JobView = record job { place = place; handed = handed; doing = Active tx' } in
        quiet_turn before old.words old.jobs at job stands h job' (active_quiet job tx active was) (active_quiet job' tx' refl now)
        (active_speaks before job' tx' refl sp)

    goes_on : (place : Position) (tx' : TxView) → (tx.phase ≡ Committing → ⊥) → (tx'.phase ≡ Committing → ⊥) → TxWordsAgree before tx'
        → KeepsWords s (with_job old at (with_tx job place tx'))
    goes_on place tx' was now sp = moves_on place job.handed tx' was now sp

    -- it goes over to another phase, or one of its records is tried
    phased : (place : Position) (phase : Phase) (undo : Records) → (tx.phase ≡ Committing → ⊥) → (phase ≡ Committing → ⊥)
        → (WaitsToStore phase → WaitsToStore tx.phase) → KeepsWords s (with_job old at (with_tx job place (record tx { phase = phase; undo = undo })))
    phased place phase undo was now still = goes_on place (record tx { phase = phase; undo = undo }) was now (phased_spoken before tx phase undo still said)

    -- it turns back
    turns_back : (place : Position) (c : Cause) → (tx.phase ≡ Committing → ⊥)
        → KeepsWords s (with_job old at (with_tx job place (record tx { phase = Undoing c })))
    turns_back place c was = phased place (Undoing c) tx.undo was (undoing_is_none (Undoing c) c refl) (λ waits. absurd waits)

    -- ---- a running one
    call_kept : (call : Call) → is_back call ≡ false → tx.phase ≡ Running → Calls (mover s at old job) tx call new → KeepsWords s new
    call_kept call ahead runs row =
        let tx' = noting tx call row.reply (claims_at old tx call) row.parts in
        kept_words s old new _ (ap (λ (n : Moment). n.jobs) row.behind) (ap (λ (n : Moment). n.words) row.behind) (ap (λ (n : Moment). n.journal) row.behind)
        (moves_on row.place None tx' (running_is_none tx.phase runs) (running_is_none tx'.phase runs)
        (called_spoken before old.words old.jobs at job tx stands active runs h call row.reply row.parts ahead row.free row.stores row.spoken))

    conflict_kept : (call : Call) → tx.phase ≡ Running → Conflicts (mover s at old job) tx call new → KeepsWords s new
    conflict_kept call runs row = subst (KeepsWords s) (sym row.behind) (turns_back row.place _ (running_is_none tx.phase runs))

    -- its block begins to go back
    begins_kept : tx.phase ≡ Running → BeginsBack (mover s at old job) tx new → KeepsWords s new
    begins_kept runs row = subst (KeepsWords s) (sym row.behind)
        (phased row.place Backing tx.undo (running_is_none tx.phase runs) (backing_is_none Backing refl) (λ waits. running_waits tx.phase runs))

    by_call : tx.phase ≡ Running → (c : Call) → CalledTurn (mover s at old job) tx c new → KeepsWords s new
    by_call runs call.Back row = begins_kept runs row
    by_call runs c (inl row) = call_kept c refl runs row
    by_call runs c (inr row) = conflict_kept c runs row

    by_ask : tx.phase ≡ Running → (a : Ask) → AskedTurn (mover s at old job) tx a new → KeepsWords s new
    by_ask runs (ask.Call c) row = by_call runs c row
    by_ask runs ask.Commit row =
        subst (KeepsWords s) (sym row.behind) (commits_turn before old.words old.jobs at job stands h tx active apart runs
        (with_tx job row.place (record tx { phase = Committing })) refl)
    by_ask runs ask.Abort row = subst (KeepsWords s) (sym row.behind) (turns_back row.place cause.Asked (running_is_none tx.phase runs))
    by_ask runs ask.End row = absurd row

    held_still : (a : Ask) (left : List Undo) (held : List Claim) → HoldsWanting (mover s at old job) tx a left held → (word : ℕ)
        → Sees tx.number tx.held (object.Word word)
        → Sees tx.number held (object.Word word)
    held_still (ask.Call call) left held (inl kept) word e = subst (λ cs. Sees tx.number cs (object.Word word)) (sym kept.1) e
    held_still (ask.Call call) left held (inr more) word e =
        subst (λ cs. Sees tx.number cs (object.Word word)) (sym more.1) (sees_still tx.number tx.held (claims_at old tx call) (object.Word word) e)
    held_still ask.Commit left held kept word e = subst (λ cs. Sees tx.number cs (object.Word word)) (sym kept.1) e
    held_still ask.Abort left held kept word e = subst (λ cs. Sees tx.number cs (object.Word word)) (sym kept.1) e
    held_still ask.End left held kept word e = subst (λ cs. Sees tx.number cs (object.Word word)) (sym kept.1) e

    owned_still : (a : Ask) (left : List Undo) (held : List Claim) → HoldsWanting (mover s at old job) tx a left held → (word : ℕ)
        → Owns tx.number tx.held (object.Word word)
        → Owns tx.number held (object.Word word)
    owned_still (ask.Call call) left held (inl kept) word e = subst (λ cs. Owns tx.number cs (object.Word word)) (sym kept.1) e
    owned_still (ask.Call call) left held (inr more) word e =
        subst (λ cs. Owns tx.number cs (object.Word word)) (sym more.1) (owns_still tx.number tx.held (claims_at old tx call) (object.Word word) e)
    owned_still ask.Commit left held kept word e = subst (λ cs. Owns tx.number cs (object.Word word)) (sym kept.1) e
    owned_still ask.Abort left held kept word e = subst (λ cs. Owns tx.number cs (object.Word word)) (sym kept.1) e
    owned_still ask.End left held kept word e = subst (λ cs. Owns tx.number cs (object.Word word)) (sym kept.1) e

    want_kept : (a : Ask) → tx.phase ≡ Running → (row : Wants (mover s at old job) tx new) → HoldsWanting (mover s at old job) tx a row.left row.held
        → KeepsWords s new
    want_kept a runs row holds =
        let tx' = wanting tx row.left row.held in
        kept_words s old new _ (ap (λ (n : Moment). n.jobs) row.behind) (ap (λ (n : Moment). n.words) row.behind) (ap (λ (n : Moment). n.journal) row.behind)
        (goes_on row.place tx' (running_is_none tx.phase runs) (undoing_is_none tx'.phase cause.NoMemory refl)
        (phased_spoken before (record tx { phase = Undoing cause.NoMemory; held = row.held }) (Undoing cause.NoMemory) tx'.undo (λ waits. waits)
        (turned_spoken before tx cause.NoMemory row.held (held_still a row.left row.held holds) (owned_still a row.left row.held holds) said)))

    by_running : tx.phase ≡ Running → (answer : Turn) → RunningTurn (mover s at old job) tx answer new → KeepsWords s new
    by_running runs turn.Went row = by_ask runs (asked_at s job) row
    by_running runs turn.NoMemory row = want_kept (asked_at s job) runs row row.holds
    by_running runs (turn.Busy object holder) row =
        let job' = asked_to_wait (with_tx job row.place tx) in
        kept_words s old new _ (ap (λ (n : Moment). n.jobs) row.behind) (ap (λ (n : Moment). n.words) row.behind) (ap (λ (n : Moment). n.journal) row.behind)
        (quiet_turn before old.words old.jobs at job stands h job' (active_quiet job tx active (running_is_none tx.phase runs))
        (active_quiet job' tx refl (running_is_none tx.phase runs)) (active_speaks before job' tx refl said))
    by_running runs (turn.Ended end) row = absurd row

    by_mark : tx.phase ≡ Running → (m : Option Mark) (answer : Turn) → MarkedTurn (mover s at old job) tx m answer new → KeepsWords s new
    by_mark runs None answer row = by_running runs answer row
    by_mark runs (Some m) turn.Went row = subst (KeepsWords s) (sym row) (turns_back job.place (revoked m) (running_is_none tx.phase runs))
    by_mark runs (Some m) _ row = absurd row

    -- ---- one whose block goes back
    backs_kept : (kept : SavedView) → tx.phase ≡ Backing → BacksOne (mover s at old job) tx kept new → KeepsWords s new
    backs_kept kept backs row =
        let undo : Records = record { pending = row.older; ended = (row.tried, row.end) ∷ tx.undo.ended } in
        kept_words s old new _ (ap (λ (n : Moment). n.jobs) row.behind) (ap (λ (n : Moment). n.words) row.behind) (ap (λ (n : Moment). n.journal) row.behind)
        (phased job.place (phase_after (length row.older + 1) row.end) undo (backing_is_none tx.phase backs)
        (tried_is_none (length row.older + 1) row.end) (λ waits. backing_waits tx.phase backs))

    ends_kept : (kept : SavedView) → tx.phase ≡ Backing → tx.saved ≡ Some kept → EndsBack (mover s at old job) tx kept new → KeepsWords s new
    ends_kept kept backs opened row =
        kept_words s old new _ (ap (λ (n : Moment). n.jobs) row.behind) (ap (λ (n : Moment). n.words) row.behind) (ap (λ (n : Moment). n.journal) row.behind)
        (moves_on row.place None (backed tx kept) (backing_is_none tx.phase backs) (running_is_none Running refl)
        (backed_spoken before tx kept (backing_waits tx.phase backs) opened said))

    by_block : (kept : SavedView) → tx.phase ≡ Backing → tx.saved ≡ Some kept → (b : Bool) → BackingRow (mover s at old job) tx kept b new → KeepsWords s new
    by_block kept backs opened true row = backs_kept kept backs row
    by_block kept backs opened false row = ends_kept kept backs opened row

    by_save : tx.phase ≡ Backing → (saved : Option SavedView) → tx.saved ≡ saved → OpenRow (mover s at old job) tx saved new → KeepsWords s new
    by_save backs None opened row = absurd row
    by_save backs (Some kept) opened row = by_block kept backs opened (nat_lt (length kept.trail) (length tx.undo.pending)) row

    by_backing : tx.phase ≡ Backing → (answer : Turn) → BackingTurn (mover s at old job) tx answer new → KeepsWords s new
    by_backing backs turn.Went row = by_save backs tx.saved refl row
    by_backing backs (turn.Busy object holder) row = absurd row
    by_backing backs turn.NoMemory row = absurd row
    by_backing backs (turn.Ended end) row = absurd row

    by_mark_back : tx.phase ≡ Backing → (m : Option Mark) (answer : Turn) → MarkedBack (mover s at old job) tx m answer new → KeepsWords s new
    by_mark_back backs None answer row = by_backing backs answer row
    by_mark_back backs (Some m) turn.Went row = subst (KeepsWords s) (sym row) (turns_back job.place (revoked m) (backing_is_none tx.phase backs))
    by_mark_back backs (Some m) _ row = absurd row

    -- ---- one that commits
    late_kept : Ends at old job tx new → KeepsWords s new
    late_kept row =
        let ends = tx.ends ++ row.end ∷ [] in
        kept_words s old new _ row.jobs row.words row.journal
        (late_turn before old.words old.jobs at job stands h tx active apart ends (with_tx job job.place (record tx { ends = ends })) refl)

    by_late : tx.phase ≡ Committing → (calls : List LateCall) → LateTurn (mover s at old job) tx calls new → KeepsWords s new
    by_late commits (call ∷ calls) row = late_kept (next_ends s at old job tx new call row)
    by_late commits [] row =
        let e = entry_of tx at (Committed tx.ends) in
        let jobs = slice_set old.jobs at (behind_commit job tx) in
        let more = started_jobs s.script job tx in
        subst (KeepsWords s) (sym row.0) (subst (λ ws. WordsAgree ws old.words (jobs ++ more)) (sym (words_entered s.script old.journal e))
        (spoken_grown (words_left before tx.calls (Committed tx.ends)) old.words jobs more
        (started_idle s.script (behind_commit job tx) (started_late tx.late tx.ends))
        (enters_turn before old.words old.jobs at job stands h tx active apart commits (behind_commit job tx) refl)))

    by_committing : tx.phase ≡ Committing → (answer : Turn) → CommittingTurn (mover s at old job) tx answer new → KeepsWords s new
    by_committing commits turn.Went row = by_late commits (late_left tx) row
    by_committing commits (turn.Busy object holder) row = absurd row
    by_committing commits turn.NoMemory row = absurd row
    by_committing commits (turn.Ended end) row = absurd row

    -- ---- one rolling back
    abort_kept : (c : Cause) → tx.phase ≡ Undoing c → EntersAborted (mover s at old job) tx c new → KeepsWords s new
    abort_kept c undoes row =
        let e = entry_of tx at (Aborted (record { cause = c; records = tx.undo.ended })) in
        let job' = behind_abort job tx c in
        let none = behind_abort_none job tx c in
        subst (KeepsWords s) (sym row.behind) (subst (λ ws. WordsAgree ws old.words (slice_set old.jobs at job')) (sym (words_entered s.script old.journal e))
        (quiet_turn before old.words old.jobs at job stands h job' (active_quiet job tx active (undoing_is_none tx.phase c undoes))
        (idle_quiet job' none) (idle_speaks before job' none)))

    tried_kept : (c : Cause) → tx.phase ≡ Undoing c → Compensates (mover s at old job) tx new → KeepsWords s new
    tried_kept c undoes row =
        let undo : Records = record { pending = row.older; ended = (row.tried, row.end) ∷ tx.undo.ended } in
        kept_words s old new _ (ap (λ (n : Moment). n.jobs) row.behind) (ap (λ (n : Moment). n.words) row.behind) (ap (λ (n : Moment). n.journal) row.behind)
        (phased job.place tx.phase undo (undoing_is_none tx.phase c undoes) (undoing_is_none tx.phase c undoes) (λ waits. waits))

    by_records : (c : Cause) → tx.phase ≡ Undoing c → (pending : List Undo) → BackTurn (mover s at old job) tx c pending new → KeepsWords s new
    by_records c undoes [] row = abort_kept c undoes row
    by_records c undoes (u ∷ pending) row = tried_kept c undoes row

    by_undoing : (c : Cause) → tx.phase ≡ Undoing c → (answer : Turn) → UndoingTurn (mover s at old job) tx c answer new → KeepsWords s new
    by_undoing c undoes turn.Went row = by_records c undoes tx.undo.pending row
    by_undoing c undoes (turn.Busy object holder) row = absurd row
    by_undoing c undoes turn.NoMemory row = absurd row
    by_undoing c undoes (turn.Ended end) row = absurd row

    by_phase : (p : Phase) → tx.phase ≡ p → (answer : Turn) → ActiveTurn (mover s at old job) tx p answer new → KeepsWords s new
    by_phase Running e answer row = by_mark e (old.marks tx.number) answer row
    by_phase Committing e answer row = by_committing e answer row
    by_phase (Undoing c) e answer row = by_undoing c e answer row
    by_phase Backing e answer row = by_mark_back e (old.marks tx.number) answer row

  by_doing : (d : Doing) → job.doing ≡ d → (answer : Turn) → TurnOf (mover s at old job) d answer new → KeepsWords s new
  by_doing Idle is answer row = by_idle is answer row
  by_doing (Active tx) is answer row = by_phase tx is tx.phase refl answer row
  by_doing Starved is answer row = by_starved is answer row
  by_doing (Ended end) is answer row = absurd row

-- a turn keeps the words
pub turn_keeps_words : (s : Setting) (at : ℕ) (old new : Moment) (answer : Turn) → IsTurn s at old answer new → AreApart old.jobs → KeepsWords s old
    → KeepsWords s new
turn_keeps_words s at old new answer t apart h = by_doing s at old t.job new t.there apart h t.job.doing refl answer t.row
