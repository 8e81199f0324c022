-- A turn keeps the order of the started jobs, and that whoever keeps a start owns the jobs.
use Rattle.std.proofs.Common.{◌≡◌, ◌≢◌, ℕ, ◌+◌, ◌≤◌, Bool, true, false, List, [], ◌∷◌, ◌++◌, length, drop, Option, Some, None, refl, ap, ap₂, sym, ◌∙◌}
use Rattle.std.proofs.Common.{subst, arith, append-nil, inl, inr, append_assoc, length-append}
use Rattle.std.specs.Prelude.{Contains, flat_map, map, slice_get, slice_set, sum_by}
use Rattle.std.specs.List.{list_any}
use Rattle.std.specs.Prelude.{nat_lt, ◌||◌}
use Rattle.std.proofs.lemmas.List.Folds.{list_any-append}
use Rattle.std.proofs.lemmas.List.{length-map, map-append}
use Rattle.std.proofs.lemmas.List.Concat.{length-flat_map}
use mathlib.Core.Logic.{dite}
use native.Mathlib.Decide.{ℕ_discrete}
use Rattle.xc_data.specs.declared.call.Call.{Call}
use Rattle.xc_data.specs.declared.call.LateCall.{LateCall}
use Rattle.xc_data.specs.declared.call.LateCall.TheVariants.{Thread}
use Rattle.xc_data.specs.declared.call.LateEnd.{LateEnd}
use Rattle.xc_data.specs.declared.call.LateEnd.TheVariants as end
use Rattle.xc_data.specs.declared.claim.Claim.{Claim}
use Rattle.xc_data.specs.declared.entry.Cause.{Cause}
use Rattle.xc_data.specs.declared.entry.Cause.TheVariants as cause
use Rattle.xc_data.specs.declared.entry.JobEnd.TheVariants as job_end
use Rattle.xc_data.specs.declared.entry.Turn.{Turn}
use Rattle.xc_data.specs.declared.entry.Turn.TheVariants as turn
use Rattle.xc_data.specs.declared.object.Object.TheVariants as object
use Rattle.xc_data.specs.declared.undo.Undo.{Undo}
use Rattle.xc_data.specs.Calls.{thread_in}
use Rattle.xc_data.specs.Claims.{owned}
use Rattle.xc_text.specs.declared.script.Script.{Script}
use Rattle.xc_script.specs.declared.ask.Ask.{Ask}
use Rattle.xc_script.specs.declared.ask.Ask.TheVariants as ask
use Rattle.xc_script.specs.Position.{Position}
use Rattle.xc_data.specs.declared.entry.Mark.{Mark}
use Rattle.xc_model.specs.declared.phase.Phase.{Phase}
use Rattle.xc_model.specs.declared.phase.Phase.TheVariants.{Running, Committing, Undoing, Backing}
use Rattle.xc_model.specs.Setting.{Setting}
use Rattle.xc_model.specs.LateCalls.{started_late, started_with}
use Rattle.xc_model.specs.Stories.{StoriesHold, IsInPhase, IsRunning}
use Rattle.xc_model.specs.Holding.{AreApart}
use Rattle.xc_model.specs.Moment.{TxView, JobView, Doing, Idle, Active, Starved, Ended, Moment, active_in, active_of, actives, late_left, asked_to_wait}
use Rattle.xc_model.specs.Started.{AreStarted, HasStartEnds, blocks, is_start, keeps_start, started_by, start_count}
use Rattle.xc_model.specs.Movers.{IsActiveAt, answered_with, with_tx}
use Rattle.xc_model.specs.RunningRows.{Calls, CalledTurn, HoldsWanting}
use Rattle.xc_model.specs.BackingRows.{BackingRow, OpenRow, MarkedBack, backed}
use Rattle.xc_model.specs.Moment.{SavedView}
use Rattle.xc_model.specs.Stories.{IsBacking}
use Rattle.xc_data.specs.declared.call.Call.TheVariants as call
use Rattle.xc_model.specs.CommittingRows.{EndsLate, LateTurn, NextLate}
use Rattle.xc_model.specs.Starts.{AreStarts, IsStart}
use Rattle.xc_model.specs.PlainSteps.{noting, claims_at}
use Rattle.xc_model.specs.IdleRows.{beginning_job}
use Rattle.xc_model.specs.Movers.{asked_at, mover}
use Rattle.xc_model.specs.Entering.{behind_abort, behind_commit, started_jobs}
use Rattle.xc_model.specs.IdleRows.{IdleTurn}
use Rattle.xc_model.specs.RunningRows.{AskedTurn, MarkedTurn, RunningTurn}
use Rattle.xc_model.specs.CommittingRows.{CommittingTurn}
use Rattle.xc_model.specs.UndoingRows.{BackTurn, UndoingTurn}
use Rattle.xc_model.specs.Rows.{StarvedTurn, ActiveTurn, TurnOf, IsTurn}
use Rattle.xc_turns.proofs.CountedSums.{adds, sum_set}
use Rattle.xc_turns.proofs.CountedTurns.{story_in_phase, none_late}
use Rattle.xc_turns.proofs.Grown.{AreIdle, grown_active, grown_actives, started_idle}
use Rattle.xc_turns.proofs.Jobs.{active_before, active_is, behind_abort_none}
use Rattle.xc_turns.proofs.Lists.{not_both}
use Rattle.xc_turns.proofs.StartedLists.{all_started, blocks_set, keeps_none, no_thread, only_here, only_there, same_started, started_job_blocks, started_of}
use Rattle.xc_turns.proofs.StartEnds.{EndsAsStart, no_starts, none_yet, one_more_start}
use Rattle.xc_turns.proofs.StartersAlone.{left_keeps_start, starter_alone}
use Rattle.xc_turns.proofs.StartsHeld.{HoldsStart, noted_holds, others_keep_none, owns_further}

-- ---- late calls and their ends
pub none_started : (late : List LateCall) → started_late late [] ≡ []
none_started [] = refl
none_started (c ∷ late) = refl

-- with one end more what that tells of is started too
pub one_more : (late : List LateCall) (ends : List LateEnd) (c : LateCall) (rest : List LateCall) (e : LateEnd) → drop (length ends) late ≡ c ∷ rest
    → started_late late (ends ++ e ∷ []) ≡ started_late late ends ++ started_with (thread_in c) e
one_more [] [] c rest e left = cc left
one_more [] (x ∷ ends) c rest e left = cc left
one_more (d ∷ late) [] c rest e left =
    let same : d ≡ c = cc left in
    ap (λ bs. started_with (thread_in d) e ++ bs) (none_started late) ∙ append-nil (started_with (thread_in d) e)
    ∙ ap (λ (x : LateCall). started_with (thread_in x) e) same
one_more (d ∷ late) (x ∷ ends) c rest e left =
    ap (λ bs. started_with (thread_in d) x ++ bs) (one_more late ends c rest e left)
    ∙ sym (append_assoc (started_with (thread_in d) x) (started_late late ends) (started_with (thread_in c) e))

-- ---- a turn
-- a job after an abort has its block
abort_block : (job : JobView) (tx : TxView) (c : Cause) → (behind_abort job tx c).block ≡ job.block
abort_block job tx (cause.Stuck failed) = refl
abort_block job tx cause.Asked = refl
abort_block job tx cause.NoMemory = refl
abort_block job tx (cause.Conflict object holder at) = refl
abort_block job tx (cause.Revoked object by at) = refl

-- where it keeps a start it owns the jobs, and its starts ended so far as they must after these blocks
record KeepsStarts (script : Script) (was : List (List ℕ)) (tx : TxView) : Type 0 where
  holds : HoldsStart tx
  right : HasStartEnds script was tx

-- a job without a transaction keeps no start
none_holds : {script : Script} {was : List (List ℕ)} (job : JobView) → active_of job ≡ None → (t : TxView) → active_of job ≡ Some t
    → KeepsStarts script was t
none_holds job none t has = absurd (not_both (active_of job) t none has)

-- and one of a transaction what that keeps
one_holds : {script : Script} {was : List (List ℕ)} (tx t : TxView) → Some tx ≡ Some t → KeepsStarts script was tx → KeepsStarts script was t
one_holds {script} {was} tx t has holds = let same : tx ≡ t = cc in subst (KeepsStarts script was) same holds

module _ (s : Setting) (at : ℕ) (old : Moment) (job : JobView) (new : Moment) (stands : slice_get old.jobs at ≡ Some job)
    (told : StoriesHold s (length old.words) old.marks old.journal old.jobs) (apart : AreApart old.jobs) (h : AreStarted s.script old) where
  -- the jobs' transactions keep what they must, after these blocks
  abbrev AllKeep : List (List ℕ) → List JobView → Type 0
  AllKeep was jobs = (j : ℕ) (t : TxView) → IsActiveAt jobs j t → KeepsStarts s.script was t

  -- the starts of the other jobs' transactions ended as they must after these blocks
  abbrev OthersKeep : List (List ℕ) → Type 0
  OthersKeep was = (j : ℕ) (t : TxView) → j ≢ at → IsActiveAt old.jobs j t → HasStartEnds s.script was t

  -- what is kept where one job is set
  set_holds : (was : List (List ℕ)) (job' : JobView) → ((t : TxView) → active_of job' ≡ Some t → KeepsStarts s.script was t) → OthersKeep was
      → AllKeep was (slice_set old.jobs at job')
  set_holds was job' mine others j t a = dite (ℕ_discrete j at)
      (λ (here : j ≡ at). mine t (active_is old.jobs at job stands job' t (subst (λ k. IsActiveAt (slice_set old.jobs at job') k t) here a)))
      (λ (away : j ≢ at).
      let before = active_before old.jobs at j job' t away a in record { holds = h.holds j t before; right = others j t away before })

  -- one job is set, and these are live after the others
  changed : (job' : JobView) (more : List JobView) → AreIdle more → new.jobs ≡ slice_set old.jobs at job' ++ more → job'.block ≡ job.block
      → new.started ≡ (blocks old.jobs ++ blocks more) ++ all_started (slice_set old.jobs at job') → length new.started ≤ 1000
      → ((t : TxView) → active_of job' ≡ Some t → KeepsStarts s.script (blocks old.jobs ++ blocks more) t)
      → OthersKeep (blocks old.jobs ++ blocks more) → AreStarted s.script new
  changed job' more idle jobs block started few mine others =
      let set = slice_set old.jobs at job' in
      let names : blocks new.jobs ≡ blocks old.jobs ++ blocks more =
      ap blocks jobs ∙ map-append (λ (x : JobView). x.block) set more ∙ ap (λ bs. bs ++ blocks more) (blocks_set old.jobs at job job' stands block) in
      let rest : all_started new.jobs ≡ all_started set = ap all_started jobs ∙ ap (flat_map started_by) (grown_actives set more idle) in
      let was = blocks old.jobs ++ blocks more in
      let keep : AllKeep was (set ++ more) = λ j t a. set_holds was job' mine others j t (grown_active set more idle j t a) in
      let all : AllKeep was new.jobs = subst (AllKeep was) (sym jobs) keep in
      record {
        order = started ∙ sym (ap₂ (λ a b. a ++ b) names rest);
        few = few;
        holds = λ j t a. (all j t a).holds;
        starts = λ j t a. subst (λ bs. HasStartEnds s.script bs t) (sym names) (all j t a).right;
      }

  -- only a job changed
  only_changed : (job' : JobView) → new.jobs ≡ slice_set old.jobs at job' → job'.block ≡ job.block
      → new.started ≡ blocks old.jobs ++ all_started (slice_set old.jobs at job') → length new.started ≤ 1000
      → ((t : TxView) → active_of job' ≡ Some t → KeepsStarts s.script (blocks old.jobs) t) → AreStarted s.script new
  only_changed job' jobs block started few mine =
      let nil = sym (append-nil (blocks old.jobs)) in
      changed job' [] tt (jobs ∙ sym (append-nil (slice_set old.jobs at job'))) block
      (started ∙ ap (λ bs. bs ++ all_started (slice_set old.jobs at job')) nil) few
      (λ t has. subst (λ bs. KeepsStarts s.script bs t) nil (mine t has))
      (λ j t away a. subst (λ bs. HasStartEnds s.script bs t) nil (h.starts j t a))

  few_as_before : new.started ≡ old.started → length new.started ≤ 1000
  few_as_before same = let few = h.few in let as_many = ap length same in omega (arith, as_many, few)

  -- and it has started the same
  still_started : (job' : JobView) → new.jobs ≡ slice_set old.jobs at job' → new.started ≡ old.started → job'.block ≡ job.block
      → started_of (active_of job') ≡ started_of (active_of job)
      → ((t : TxView) → active_of job' ≡ Some t → KeepsStarts s.script (blocks old.jobs) t) → AreStarted s.script new
  still_started job' jobs started block same mine =
      only_changed job' jobs block
      (started ∙ h.order ∙ ap (λ bs. blocks old.jobs ++ bs) (sym (same_started old.jobs at job job' stands same))) (few_as_before started) mine

  by_idle : job.doing ≡ Idle → (answer : Turn) → IdleTurn (mover s at old job) answer new → AreStarted s.script new
  by_idle is (turn.Ended end) row =
      still_started (record job { doing = Ended end }) (ap (λ (n : Moment). n.jobs) row.1) (ap (λ (n : Moment). n.started) row.1) refl
      (ap (λ d. started_of (active_in d)) (sym is)) (none_holds (record job { doing = Ended end }) refl)
  by_idle is turn.Went row =
      still_started (beginning_job old job) (ap (λ (n : Moment). n.jobs) row.1) (ap (λ (n : Moment). n.started) row.1) refl
      (ap (λ d. started_of (active_in d)) (sym is)) (λ t has. one_holds _ t has (record { holds = λ keeps. cc keeps; right = tt }))
  by_idle is (turn.Busy object number) row =
      still_started (asked_to_wait job) (ap (λ (n : Moment). n.jobs) row.1) (ap (λ (n : Moment). n.started) row.1) refl refl
      (none_holds (asked_to_wait job) (ap active_in is))
  by_idle is turn.NoMemory row = subst (AreStarted s.script) (sym row.2) h

  by_starved : job.doing ≡ Starved → (answer : Turn) → StarvedTurn (mover s at old job) answer new → AreStarted s.script new
  by_starved is (turn.Ended job_end.NoMemory) row =
      still_started (record job { doing = Ended job_end.NoMemory }) (ap (λ (n : Moment). n.jobs) row.1) (ap (λ (n : Moment). n.started) row.1) refl
      (ap (λ d. started_of (active_in d)) (sym is)) (none_holds (record job { doing = Ended job_end.NoMemory }) refl)
  by_starved is (turn.Ended job_end.Done) row = absurd row
  by_starved is (turn.Ended (job_end.GaveUp c)) row = absurd row
  by_starved is (turn.Ended job_end.JournalFull) row = absurd row
  by_starved is turn.Went row =
      still_started (record job { doing = Idle }) (ap (λ (n : Moment). n.jobs) row.1) (ap (λ (n : Moment). n.started) row.1) refl
      (ap (λ d. started_of (active_in d)) (sym is)) (none_holds (record job { doing = Idle }) refl)
  by_starved is (turn.Busy object holder) row = absurd row
  by_starved is turn.NoMemory row = absurd row

  module _ (tx : TxView) (is : job.doing ≡ Active tx) where
    mine : started_by tx ≡ started_of (active_of job)
    mine = ap (λ d. started_of (active_in d)) (sym is)

    -- it is active in its place
    here : IsActiveAt old.jobs at tx
    here = (job, stands, ap active_in is)

    holds_here : HoldsStart tx
    holds_here = h.holds at tx here

    keeps_here : KeepsStarts s.script (blocks old.jobs) tx
    keeps_here = record { holds = holds_here; right = h.starts at tx here }

    -- a transaction without ends has no wrong one
    without_ends : (t : TxView) → t.ends ≡ [] → HasStartEnds s.script (blocks old.jobs) t
    without_ends t none =
        subst (AreStarts s.script (blocks old.jobs) (map thread_in t.late)) (sym none)
        (none_yet s.script (blocks old.jobs) (map thread_in t.late))

    -- nor has one with the same late calls and ends
    same_ends : (tx' : TxView) → tx'.late ≡ tx.late → tx'.ends ≡ tx.ends → HasStartEnds s.script (blocks old.jobs) tx'
    same_ends tx' late ends =
        subst (AreStarts s.script (blocks old.jobs) (map thread_in tx'.late)) (sym ends)
        (subst (λ cs. AreStarts s.script (blocks old.jobs) (map thread_in cs) tx.ends) (sym late) keeps_here.right)

    -- where it keeps a start no other has started any
    others_none : keeps_start tx ≡ true → (j : ℕ) (u : TxView) → j ≢ at → IsActiveAt old.jobs j u → started_by u ≡ []
    others_none keeps j u ne a = keeps_none u (others_keep_none old.jobs at tx apart h.holds here (holds_here keeps) j u ne a)

    -- it goes on, with the same late calls and ends, and owns what it owned
    goes : (place : Position) (tx' : TxView) → tx'.late ≡ tx.late → tx'.ends ≡ tx.ends
        → (Contains (owned tx.held) object.Jobs → Contains (owned tx'.held) object.Jobs) → new.jobs ≡ slice_set old.jobs at (with_tx job place tx')
        → new.started ≡ old.started → AreStarted s.script new
    goes place tx' late ends owns jobs started =
        still_started (with_tx job place tx') jobs started refl ((λ i. started_late (late i) (ends i)) ∙ mine)
        (λ t has. one_holds tx' t has
        (record { holds = λ keeps. owns (holds_here (sym (ap (list_any is_start) late) ∙ keeps)); right = same_ends tx' late ends }))

    -- a running one has no ends
    runs_none : tx.phase ≡ Running → tx.ends ≡ []
    runs_none runs =
        let phase = story_in_phase s at old job tx stands is told in
        let running : IsRunning tx = subst (IsInPhase s job.place (asked_at s job) tx) runs phase.1 in
        running.no_ends

    -- without ends it has started none
    no_ends : (t : TxView) → t.ends ≡ [] → started_by t ≡ []
    no_ends t none = ap (started_late t.late) none ∙ none_started t.late

    call_started : (call : Call) → tx.phase ≡ Running → Calls (mover s at old job) tx call new → AreStarted s.script new
    call_started call runs row =
        let tx' = noting tx call row.reply (claims_at old tx call) row.parts in
        let none = runs_none runs in
        still_started (answered_with job row.place tx') (ap (λ (n : Moment). n.jobs) row.behind) (ap (λ (n : Moment). n.started) row.behind) refl
        (no_ends tx' none ∙ sym (no_ends tx none) ∙ mine)
        (λ t has. one_holds tx' t has
        (record { holds = noted_holds tx call row.reply (length old.words) holds_here; right = without_ends tx' none }))

    by_call : tx.phase ≡ Running → (c : Call) → CalledTurn (mover s at old job) tx c new → AreStarted s.script new
    by_call runs call.Back row =
        goes row.place (record tx { phase = Backing }) refl refl (λ o. o) (ap (λ (n : Moment). n.jobs) row.behind)
        (ap (λ (n : Moment). n.started) row.behind)
    by_call runs c (inl row) = call_started c runs row
    by_call runs c (inr row) =
        goes row.place _ refl refl (λ o. o) (ap (λ (n : Moment). n.jobs) row.behind) (ap (λ (n : Moment). n.started) row.behind)

    by_ask : tx.phase ≡ Running → (a : Ask) → AskedTurn (mover s at old job) tx a new → AreStarted s.script new
    by_ask runs (ask.Call c) row = by_call runs c row
    by_ask runs ask.Commit row =
        goes row.place (record tx { phase = Committing }) refl refl (λ o. o) (ap (λ (n : Moment). n.jobs) row.behind)
        (ap (λ (n : Moment). n.started) row.behind)
    by_ask runs ask.Abort row = goes row.place _ refl refl (λ o. o) (ap (λ (n : Moment). n.jobs) row.behind) (ap (λ (n : Moment). n.started) row.behind)
    by_ask runs ask.End row = absurd row

    -- what it owned it owns where memory ran out
    wanting_owns : (a : Ask) (left : List Undo) (held : List Claim) → HoldsWanting (mover s at old job) tx a left held
        → Contains (owned tx.held) object.Jobs → Contains (owned held) object.Jobs
    wanting_owns (ask.Call call) left held (inl same) owns = subst (λ (l : List Claim). Contains (owned l) object.Jobs) (sym same.1) owns
    wanting_owns (ask.Call call) left held (inr more) owns =
        subst (λ (l : List Claim). Contains (owned l) object.Jobs) (sym more.1) (owns_further tx.held (claims_at old tx call) object.Jobs owns)
    wanting_owns ask.Commit left held same owns = subst (λ (l : List Claim). Contains (owned l) object.Jobs) (sym same.1) owns
    wanting_owns ask.Abort left held same owns = subst (λ (l : List Claim). Contains (owned l) object.Jobs) (sym same.1) owns
    wanting_owns ask.End left held same owns = subst (λ (l : List Claim). Contains (owned l) object.Jobs) (sym same.1) owns

    by_running : tx.phase ≡ Running → (answer : Turn) → RunningTurn (mover s at old job) tx answer new → AreStarted s.script new
    by_running runs turn.Went row = by_ask runs _ row
    by_running runs turn.NoMemory row =
        goes row.place _ refl refl (wanting_owns (asked_at s job) row.left row.held row.holds) (ap (λ (n : Moment). n.jobs) row.behind)
        (ap (λ (n : Moment). n.started) row.behind)
    by_running runs (turn.Busy object holder) row =
        still_started (asked_to_wait (with_tx job row.place tx)) (ap (λ (n : Moment). n.jobs) row.behind) (ap (λ (n : Moment). n.started) row.behind) refl mine
        (λ t has. one_holds tx t has keeps_here)
    by_running runs (turn.Ended end) row = absurd row

    by_mark : tx.phase ≡ Running → (m : Option Mark) (answer : Turn) → MarkedTurn (mover s at old job) tx m answer new → AreStarted s.script new
    by_mark runs None answer row = by_running runs answer row
    by_mark runs (Some m) turn.Went row = goes job.place _ refl refl (λ o. o) (ap (λ (n : Moment). n.jobs) row) (ap (λ (n : Moment). n.started) row)
    by_mark runs (Some m) _ row = absurd row

    -- ---- one that commits
    -- what it starts comes after all
    grows : (e : LateEnd) (c : LateCall) (rest : List LateCall) → late_left tx ≡ c ∷ rest → (b : Bool) → keeps_start tx ≡ b
        → all_started (slice_set old.jobs at (with_tx job job.place (record tx { ends = tx.ends ++ e ∷ [] })))
        ≡ all_started old.jobs ++ started_with (thread_in c) e
    grows e c rest left true keeps =
        only_here old.jobs at job (with_tx job job.place (record tx { ends = tx.ends ++ e ∷ [] })) stands (others_none keeps)
        ∙ one_more tx.late tx.ends c rest e left
        ∙ ap (λ bs. bs ++ started_with (thread_in c) e) (mine ∙ sym (only_there old.jobs at job stands (others_none keeps)))
    grows e c rest left false keeps =
        let tx' : TxView = record tx { ends = tx.ends ++ e ∷ [] } in
        let was = keeps_none tx keeps in
        let is_now = keeps_none tx' keeps in
        let no_more : started_with (thread_in c) e ≡ [] =
        sym (ap (λ bs. bs ++ started_with (thread_in c) e) was) ∙ sym (one_more tx.late tx.ends c rest e left) ∙ is_now in
        same_started old.jobs at job (with_tx job job.place tx') stands (is_now ∙ sym was ∙ mine)
        ∙ sym (ap (λ bs. all_started old.jobs ++ bs) no_more ∙ append-nil (all_started old.jobs))

    -- one end more
    ended : (e : LateEnd) (c : LateCall) (rest : List LateCall) → late_left tx ≡ c ∷ rest
        → new.jobs ≡ slice_set old.jobs at (with_tx job job.place (record tx { ends = tx.ends ++ e ∷ [] }))
        → new.started ≡ old.started ++ started_with (thread_in c) e → length new.started ≤ 1000
        → EndsAsStart s.script (blocks old.jobs ++ started_by tx) (thread_in c) e → AreStarted s.script new
    ended e c rest left jobs more few so =
        let tx' : TxView = record tx { ends = tx.ends ++ e ∷ [] } in
        let w = started_with (thread_in c) e in
        only_changed (with_tx job job.place tx') jobs refl
        (more ∙ ap (λ bs. bs ++ w) h.order ∙ append_assoc (blocks old.jobs) (all_started old.jobs) w
        ∙ ap (λ bs. blocks old.jobs ++ bs) (sym (grows e c rest left (keeps_start tx) refl))) few
        (λ t has. one_holds tx' t has
        (record { holds = holds_here; right = one_more_start s.script (blocks old.jobs) tx.late tx.ends c rest e left keeps_here.right so }))

    at_host : (c : LateCall) (rest : List LateCall) → thread_in c ≡ None → late_left tx ≡ c ∷ rest → EndsLate (mover s at old job) tx c new
        → AreStarted s.script new
    at_host c rest none left row =
        let same : new.started ≡ old.started = ap (λ (n : Moment). n.started) row.behind in
        let nothing : started_with (thread_in c) row.end ≡ [] = ap (λ o. started_with o row.end) none ∙ no_thread row.end in
        ended row.end c rest left (ap (λ (n : Moment). n.jobs) row.behind)
        (same ∙ sym (ap (λ bs. old.started ++ bs) nothing ∙ append-nil old.started)) (few_as_before same)
        (subst (λ o. EndsAsStart s.script (blocks old.jobs ++ started_by tx) o row.end) (sym none) tt)

    -- what a start adds
    adds_one : (block : List ℕ) (e : LateEnd) (is : List (List ℕ)) → IsStart s.script old.started block e is
        → (is ≡ old.started ++ started_with (Some block) e) × (length is ≤ 1000)
    adds_one block end.Done is k =
        let lt = k.1 in
        let sum = ap length k.2 ∙ length-append old.started (block ∷ []) in
        (k.2, omega (arith, sum, lt))
    adds_one block end.NoScript is k =
        let few = h.few in let e = ap length k.1 in (k.1 ∙ sym (append-nil old.started), omega (arith, e, few))
    adds_one block (end.Full n) is k =
        let few = h.few in let e = ap length k.3 in (k.3 ∙ sym (append-nil old.started), omega (arith, e, few))
    adds_one block (end.NoMemory n) is k =
        let few = h.few in let e = ap length k.1 in (k.1 ∙ sym (append-nil old.started), omega (arith, e, few))
    adds_one block (end.Fault n) is k = absurd k
    adds_one block end.Shut is k = absurd k
    adds_one block end.NoName is k = absurd k

    by_next : (c : LateCall) (rest : List LateCall) → late_left tx ≡ c ∷ rest → NextLate (mover s at old job) tx c new → AreStarted s.script new
    by_next (Thread block) rest left row =
        let one = adds_one block row.end new.started row.starts in
        let alone : old.started ≡ blocks old.jobs ++ started_by tx = starter_alone old at tx h apart here (left_keeps_start tx block rest left) in
        ended row.end (Thread block) rest left (ap (λ (n : Moment). n.jobs) row.behind) one.0 one.1
        (subst (λ was. IsStart s.script was block row.end (was ++ started_with (Some block) row.end)) alone
        (subst (IsStart s.script old.started block row.end) one.0 row.starts))
    by_next c rest left row = at_host c rest refl left row

    -- what it has started stands in front of what others have
    leads : (b : Bool) → keeps_start tx ≡ b → all_started old.jobs ≡ started_by tx ++ all_started (slice_set old.jobs at (behind_commit job tx))
    leads true keeps =
        only_there old.jobs at job stands (others_none keeps) ∙ sym mine ∙ sym (append-nil (started_by tx))
        ∙ ap (λ bs. started_by tx ++ bs) (sym (only_here old.jobs at job (behind_commit job tx) stands (others_none keeps)))
    leads false keeps =
        let none = keeps_none tx keeps in
        sym (same_started old.jobs at job (behind_commit job tx) stands (sym none ∙ mine))
        ∙ ap (λ bs. bs ++ all_started (slice_set old.jobs at (behind_commit job tx))) (sym none)

    -- what it has started comes after all that are live, and no other's starts are among them
    others_keep : (more : List JobView) → blocks more ≡ started_by tx → (b : Bool) → keeps_start tx ≡ b → OthersKeep (blocks old.jobs ++ blocks more)
    others_keep more names true keeps j t away a =
        no_starts s.script (blocks old.jobs ++ blocks more) t.late t.ends
        (others_keep_none old.jobs at tx apart h.holds here (holds_here keeps) j t away a)
    others_keep more names false keeps j t away a =
        let nil = ap (λ bs. blocks old.jobs ++ bs) (names ∙ keeps_none tx keeps) ∙ append-nil (blocks old.jobs) in
        subst (λ bs. HasStartEnds s.script bs t) (sym nil) (h.starts j t a)

    by_late : (calls : List LateCall) → late_left tx ≡ calls → LateTurn (mover s at old job) tx calls new → AreStarted s.script new
    by_late [] left row =
        let job' = behind_commit job tx in
        let more = started_jobs s.script job tx in
        let rest = all_started (slice_set old.jobs at job') in
        let jobs : new.jobs ≡ slice_set old.jobs at job' ++ more = ap (λ (n : Moment). n.jobs) row.0 in
        let same : new.started ≡ old.started = ap (λ (n : Moment). n.started) row.0 in
        let names : blocks more ≡ started_by tx = started_job_blocks s.script job' (started_by tx) in
        changed job' more (started_idle s.script job' (started_by tx)) jobs refl
        (same ∙ h.order ∙ ap (λ bs. blocks old.jobs ++ bs) (leads (keeps_start tx) refl) ∙ sym (append_assoc (blocks old.jobs) (started_by tx) rest)
        ∙ ap (λ bs. (blocks old.jobs ++ bs) ++ rest) (sym names)) (few_as_before same) (none_holds job' refl)
        (others_keep more names (keeps_start tx) refl)
    by_late (c ∷ calls) left row = by_next c calls left row

    by_committing : (answer : Turn) → CommittingTurn (mover s at old job) tx answer new → AreStarted s.script new
    by_committing turn.Went row = by_late (late_left tx) refl row
    by_committing turn.NoMemory row = absurd row
    by_committing (turn.Busy object holder) row = absurd row
    by_committing (turn.Ended end) row = absurd row

    -- ---- one rolling back
    by_records : (c : Cause) → tx.phase ≡ Undoing c → (pending : List Undo) → BackTurn (mover s at old job) tx c pending new → AreStarted s.script new
    by_records c undoes [] row =
        let none : tx.ends ≡ [] = none_late s at old job tx c stands is undoes told in
        still_started (behind_abort job tx c) (ap (λ (n : Moment). n.jobs) row.behind) (ap (λ (n : Moment). n.started) row.behind) (abort_block job tx c)
        (ap started_of (behind_abort_none job tx c) ∙ sym (no_ends tx none) ∙ mine) (none_holds (behind_abort job tx c) (behind_abort_none job tx c))
    by_records c undoes (u ∷ pending) row =
        goes job.place _ refl refl (λ o. o) (ap (λ (n : Moment). n.jobs) row.behind) (ap (λ (n : Moment). n.started) row.behind)

    by_undoing : (c : Cause) → tx.phase ≡ Undoing c → (answer : Turn) → UndoingTurn (mover s at old job) tx c answer new → AreStarted s.script new
    by_undoing c undoes turn.Went row = by_records c undoes tx.undo.pending row
    by_undoing c undoes turn.NoMemory row = absurd row
    by_undoing c undoes (turn.Busy object holder) row = absurd row
    by_undoing c undoes (turn.Ended end) row = absurd row

    -- ---- one whose block goes back
    backs_none : tx.phase ≡ Backing → tx.ends ≡ []
    backs_none backs =
        let phase = story_in_phase s at old job tx stands is told in
        let backing : IsBacking s job.place (asked_at s job) tx = subst (IsInPhase s job.place (asked_at s job) tx) backs phase.1 in
        backing.no_ends

    by_one : tx.phase ≡ Backing → (kept : SavedView) (b : Bool) → BackingRow (mover s at old job) tx kept b new → AreStarted s.script new
    by_one backs kept true row =
        goes job.place _ refl refl (λ o. o) (ap (λ (n : Moment). n.jobs) row.behind) (ap (λ (n : Moment). n.started) row.behind)
    by_one backs kept false row =
        let tx' = backed tx kept in
        let none = backs_none backs in
        still_started (answered_with job row.place tx') (ap (λ (n : Moment). n.jobs) row.behind) (ap (λ (n : Moment). n.started) row.behind) refl
        (no_ends tx' none ∙ sym (no_ends tx none) ∙ mine)
        (λ t has. one_holds tx' t has (record {
          holds = λ keeps. holds_here (ap (list_any is_start) row.cut ∙ list_any-append is_start kept.late row.more
              ∙ ap (λ b. b || list_any is_start row.more) keeps);
          right = without_ends tx' none;
        }))

    by_open : tx.phase ≡ Backing → (k : Option SavedView) → OpenRow (mover s at old job) tx k new → AreStarted s.script new
    by_open backs None row = absurd row
    by_open backs (Some kept) row = by_one backs kept (nat_lt (length kept.trail) (length tx.undo.pending)) row

    by_back_mark : tx.phase ≡ Backing → (m : Option Mark) (answer : Turn) → MarkedBack (mover s at old job) tx m answer new → AreStarted s.script new
    by_back_mark backs None turn.Went row = by_open backs tx.saved row
    by_back_mark backs None _ row = absurd row
    by_back_mark backs (Some m) turn.Went row =
        goes job.place _ refl refl (λ o. o) (ap (λ (n : Moment). n.jobs) row) (ap (λ (n : Moment). n.started) row)
    by_back_mark backs (Some m) _ row = absurd row

    by_phase : (p : Phase) → tx.phase ≡ p → (answer : Turn) → ActiveTurn (mover s at old job) tx p answer new → AreStarted s.script new
    by_phase Running e answer row = by_mark e (old.marks tx.number) answer row
    by_phase Committing e answer row = by_committing answer row
    by_phase Backing e answer row = by_back_mark e (old.marks tx.number) answer row
    by_phase (Undoing c) e answer row = by_undoing c e answer row

  by_doing : (d : Doing) → job.doing ≡ d → (answer : Turn) → TurnOf (mover s at old job) d answer new → AreStarted s.script new
  by_doing Idle e answer row = by_idle e answer row
  by_doing (Active tx) e answer row = by_phase tx e tx.phase refl answer row
  by_doing Starved e answer row = by_starved e answer row
  by_doing (Ended end) e answer row = absurd row

-- a turn keeps the order of the started jobs
pub turn_keeps_started : (s : Setting) (at : ℕ) (old new : Moment) (answer : Turn) → IsTurn s at old answer new
    → StoriesHold s (length old.words) old.marks old.journal old.jobs → AreApart old.jobs → AreStarted s.script old → AreStarted s.script new
turn_keeps_started s at old new answer t told apart h = by_doing s at old t.job new t.there told apart h t.job.doing refl answer t.row

-- ---- what the order says
-- as many are started as are live or have ended and as active transactions have started
pub started_count : {script : Script} (now : Moment) → AreStarted script now → length now.started ≡ length now.jobs + sum_by start_count (actives now.jobs)
started_count now h =
    let sum = ap length h.order ∙ length-append (blocks now.jobs) (all_started now.jobs) in
    let first = length-map now.jobs (λ (job : JobView). job.block) in
    let later = length-flat_map started_by (actives now.jobs) in
    omega (arith, sum, first, later)

-- so there is room for the jobs that an entry makes live
pub entry_room : {script : Script} (now : Moment) (at : ℕ) (tx : TxView) → AreStarted script now → IsActiveAt now.jobs at tx
    → length now.jobs + start_count tx ≤ 1000
entry_room now at tx h (job, there, has) =
    let rests : JobView = record job { doing = Ended job_end.Done } in
    let sums = sum_set start_count now.jobs at job rests there in
    let mine : adds start_count (active_of job) ≡ start_count tx = ap (adds start_count) has in
    let was = started_count now h in
    let few = h.few in
    omega (arith, sums, mine, was, few)
