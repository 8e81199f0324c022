-- Each turn goes on with the stories of all jobs.
use Rattle.std.proofs.Common.{◌≡◌, inl, inr, ℕ, ◌+◌, ◌≤◌, IsTrue, List, [], ◌∷◌, ◌++◌, length, suc, refl, ap, ap₂, sym, ◌∙◌, subst, arith}
use Rattle.std.specs.Prelude.{Option, map, slice_get, slice_set}
use Rattle.std.specs.declared.option.Option.TheVariants.{None, Some}
use Rattle.std.specs.Option.{option_map}
use Rattle.xc_data.specs.declared.call.Call.{Call}
use Rattle.xc_data.specs.declared.call.LateCall.{LateCall}
use Rattle.xc_data.specs.declared.entry.Cause.{Cause}
use Rattle.xc_data.specs.declared.entry.Cause.TheVariants as cause
use Rattle.xc_data.specs.declared.entry.Entry.{Entry}
use Rattle.xc_data.specs.declared.entry.JobEnd.{JobEnd}
use Rattle.xc_data.specs.declared.entry.JobEnd.TheVariants as job_end
use Rattle.xc_data.specs.declared.entry.Outcome.TheVariants.{Committed}
use Rattle.xc_data.specs.declared.entry.Turn.{Turn}
use Rattle.xc_data.specs.declared.entry.Turn.TheVariants as turn
use Rattle.xc_data.specs.declared.object.Object.{Object}
use Rattle.xc_data.specs.declared.undo.Undo.{Undo}
use Rattle.xc_script.specs.declared.ask.Ask.{Ask}
use Rattle.xc_script.specs.declared.ask.Ask.TheVariants as ask
use Rattle.xc_script.specs.Position.{Position, is_call_asked}
use Rattle.xc_data.specs.declared.entry.Mark.{Mark}
use Rattle.xc_model.specs.declared.phase.Phase.{Phase}
use Rattle.xc_model.specs.declared.phase.Phase.TheVariants.{Running, Committing, Undoing, Backing}
use Rattle.xc_model.specs.Live.{asked_by, has_clients}
use Rattle.xc_model.specs.Setting.{Setting}
use Rattle.xc_model.specs.WordCalls.{AreWordReplies}
use Rattle.xc_model.specs.Progress.{Following, following_abort, progress_of}
use Rattle.xc_model.specs.Moment.{TxView, JobView, Doing, Idle, Active, Starved, Ended, Moment, active_in, begun_count, late_left, rank_of, revoked}
use Rattle.xc_model.specs.Moment.{asked_to_wait}
use Rattle.xc_model.specs.Rows.{ActiveTurn, IsTurn, lasts_behind}
use Rattle.xc_model.specs.RunningRows.{BeginsBack, CalledTurn, AskedTurn, Calls, Commits, Conflicts}
use Rattle.xc_model.specs.BackingRows.{phase_after, backed, BacksOne, EndsBack, BackingRow, OpenRow, MarkedBack}
use Rattle.xc_data.specs.declared.call.Call.TheVariants as call
use Rattle.xc_world.specs.Fits.{is_back}
use Rattle.xc_model.specs.Moment.{SavedView}
use Rattle.std.specs.Prelude.{Bool, true, false, nat_lt}
use Rattle.xc_model.specs.UndoingRows.{BackTurn, Compensates}
use Rattle.xc_model.specs.IdleRows.{IdleTurn, IsEnding, MayBegin}
use Rattle.xc_model.specs.Movers.{IsActiveAt}
use Rattle.xc_model.specs.RunningRows.{MarkedTurn, Revokes, RunningTurn, Waits}
use Rattle.xc_model.specs.CommittingRows.{LateTurn, NextLate}
use Rattle.xc_model.specs.Entering.{started_job, started_jobs, behind_abort}
use Rattle.xc_model.specs.Rows.{StarvedTurn, TurnOf}
use Rattle.xc_model.specs.RunningRows.{TurnsBack, Wants}
use Rattle.xc_model.specs.Movers.{asked_at}
use Rattle.xc_model.specs.Entering.{behind_commit}
use Rattle.xc_model.specs.IdleRows.{beginning_job}
use Rattle.xc_model.specs.Movers.{mover}
use Rattle.xc_model.specs.PlainSteps.{claims_at, noting, wanting}
use Rattle.xc_model.specs.Entering.{entry_of}
use Rattle.xc_model.specs.IdleRows.{new_tx}
use Rattle.xc_model.specs.Movers.{with_tx}
use Rattle.xc_model.specs.Grounds.{AreGrounded}
use Rattle.xc_model.specs.Stories.{StoriesHold, IsDoing, IsUnderway, active_begin, reading, scene_at}
use Rattle.xc_model.specs.Played.{IsPlayedSoFar}
use Rattle.xc_model.specs.Started.{AreStarted, HasStartEnds, blocks}
use Rattle.xc_model.specs.Words.{WordsAgree}
use Rattle.xc_turns.proofs.LiveSteps.{asks_scripted}
use Rattle.xc_model.proofs.Laws.{asked_same}
use Rattle.xc_turns.proofs.Lists.{get_beside}
use Rattle.xc_turns.proofs.Jobs.{behind_abort_none}
use Rattle.xc_turns.proofs.Progressing.{entered-all, lasts_grow, lasts_stay}
use Rattle.xc_turns.proofs.StoryBegins.{active_begun}
use Rattle.xc_turns.proofs.StoryJobs.{StoriesHoldBut, begins_in, story_goes_on, told_but, told_whole}
use Rattle.xc_turns.proofs.StoryRows.{begins_back_underway, backs_one_underway, ends_back_underway, cut_underway}
use Rattle.xc_turns.proofs.StoryRows.{active_told, back_underway, begun_told, called_underway, commits_underway, ended_told, ended_underway, fed_told}
use Rattle.xc_turns.proofs.StoryRows.{same_underway, starved_told, tried_underway, waiting_told}
use Rattle.xc_turns.proofs.LateCounts.{left_some}
use Rattle.xc_turns.proofs.StoryEntries.{started_on, abort_leads, abort_true, aborted_by, commit_leads, commit_true, gone_on}
use Rattle.std.proofs.Common.{append-nil}
use Rattle.std.proofs.lemmas.List.{length-map}
use Rattle.xc_model.specs.LateCalls.{started_late}
use Rattle.xc_model.specs.Progress.{committed_job, started_following as progress_started}
use Rattle.xc_turns.proofs.Grown.{started_idle}
use Rattle.xc_turns.proofs.LateEnds.{next_ends}
use Rattle.xc_turns.proofs.StoryEnds.{started_told, aborted_told, committed_told, enters}

-- the same asks, journal and jobs
told_as : (s : Setting) (lasts lasts' : List Ask) (journal journal' : List Entry) (jobs jobs' : List JobView) → lasts' ≡ lasts → journal' ≡ journal
    → jobs' ≡ jobs → StoriesHoldBut s lasts journal jobs → StoriesHoldBut s lasts' journal' jobs'
told_as s lasts lasts' journal journal' jobs jobs' asked entries same told =
    subst (λ xs. StoriesHoldBut s xs journal' jobs') (sym asked)
    (subst (λ es. StoriesHoldBut s lasts es jobs') (sym entries) (subst (StoriesHoldBut s lasts journal) (sym same) told))

-- the started jobs have the blocks that the journal tells of
told_blocks : (told : List Following) (jobs : List JobView) → length told ≡ length jobs
    → ((i : ℕ) (f : Following) (job : JobView) → slice_get told i ≡ Some f → slice_get jobs i ≡ Some job → f.block ≡ job.block)
    → map (λ (f : Following). f.block) told ≡ blocks jobs
told_blocks [] [] count each = refl
told_blocks [] (job ∷ jobs) count each = absurd (omega (arith, count))
told_blocks (f ∷ told) [] count each = absurd (omega (arith, count))
told_blocks (f ∷ told) (job ∷ jobs) count each =
    ap₂ (λ (b : List ℕ) (bs : List (List ℕ)). b ∷ bs) (each 0 f job refl refl)
    (told_blocks told jobs (omega (arith, count)) (λ i g k got there. each (suc i) g k got there))

-- what is true before a turn of the job in this place
pub record Before (s : Setting) (at : ℕ) (old : Moment) (job : JobView) : Type 0 where
  pub there : slice_get old.jobs at ≡ Some job
  pub spoken : WordsAgree (progress_of s.script old.journal).words old.words old.jobs
  pub played : IsTrue s.tells → (tx : TxView) → (is : IsActiveAt old.jobs at tx)
      → IsPlayedSoFar (asked_at s is.0) (length old.words) (progress_of s.script old.journal) at tx
  pub started : AreStarted s.script old
  pub lasts : List Ask
  pub told : StoriesHoldBut s lasts old.journal old.jobs

module _ (s : Setting) (at : ℕ) (old new : Moment) (job : JobView) (b : Before s at old job) where
  -- the new moment's stories
  abbrev After : Type 0
  After = StoriesHoldBut s (lasts_behind (asked_at s job) old.journal new.journal b.lasts) new.journal new.jobs

  -- where none enters
  stays_as : (jobs : List JobView) → new.journal ≡ old.journal → new.jobs ≡ jobs → StoriesHoldBut s b.lasts old.journal jobs → After
  stays_as jobs journal same told = told_as s b.lasts _ old.journal new.journal jobs new.jobs (lasts_stay _ _ _ b.lasts journal) journal same told

  -- where this one does
  enters_as : (e : Entry) (jobs : List JobView) → new.journal ≡ old.journal ++ e ∷ [] → new.jobs ≡ jobs
      → StoriesHoldBut s (b.lasts ++ asked_at s job ∷ []) (old.journal ++ e ∷ []) jobs → After
  enters_as e jobs journal same told =
      told_as s (b.lasts ++ asked_at s job ∷ []) _ (old.journal ++ e ∷ []) new.journal jobs new.jobs (lasts_grow _ _ _ b.lasts e journal) journal
      same told

  -- ---- an idle job
  ended_row : (end : JobEnd) → job.doing ≡ Idle → IsEnding s old job end → new.journal ≡ old.journal
      → new.jobs ≡ slice_set old.jobs at (record job { doing = Ended end }) → After
  ended_row end idle ending journal jobs =
      stays_as (slice_set old.jobs at (record job { doing = Ended end })) journal jobs
      (story_goes_on s b.lasts old.journal old.jobs at job (record job { doing = Ended end }) b.there (ap (option_map active_begin) (sym (ap active_in idle)))
      (λ f told. ended_told s old (length old.journal) f job end idle ending told) b.told)

  begun_row : job.doing ≡ Idle → MayBegin s old job → new.journal ≡ old.journal → new.jobs ≡ slice_set old.jobs at (beginning_job old job) → After
  begun_row idle ready journal jobs =
      let tx = new_tx (begun_count old + 1) (rank_of job.attempts (begun_count old + 1)) (length old.journal) job.me in
      stays_as (slice_set old.jobs at (beginning_job old job)) journal jobs
      (begins_in s b.lasts old.journal old.jobs at job (beginning_job old job) tx b.there (ap active_in idle) refl refl refl ready.room
      (λ f told. begun_told s old f job idle ready told) b.told)

  idle_row : (answer : Turn) → job.doing ≡ Idle → IdleTurn (mover s at old job) answer new → After
  idle_row (turn.Ended end) idle row = ended_row end idle row.0 (ap (λ (n : Moment). n.journal) row.1) (ap (λ (n : Moment). n.jobs) row.1)
  idle_row turn.Went idle row = begun_row idle row.0 (ap (λ (n : Moment). n.journal) row.1) (ap (λ (n : Moment). n.jobs) row.1)
  idle_row (turn.Busy object number) idle row =
      stays_as (slice_set old.jobs at (asked_to_wait job)) (ap (λ (n : Moment). n.journal) row.1)
      (ap (λ (n : Moment). n.jobs) row.1)
      (story_goes_on s b.lasts old.journal old.jobs at job (asked_to_wait job) b.there refl
      (λ f told. waiting_told s (begun_count old) (length old.journal) f job told) b.told)
  idle_row turn.NoMemory idle row = stays_as old.jobs (ap (λ (n : Moment). n.journal) row.2) (ap (λ (n : Moment). n.jobs) row.2) b.told

  starved_row : (answer : Turn) → job.doing ≡ Starved → StarvedTurn (mover s at old job) answer new → After
  starved_row (turn.Ended job_end.NoMemory) starved row =
      let next : JobView = record job { doing = Ended job_end.NoMemory } in
      stays_as (slice_set old.jobs at next) (ap (λ (n : Moment). n.journal) row.1) (ap (λ (n : Moment). n.jobs) row.1)
      (story_goes_on s b.lasts old.journal old.jobs at job next b.there (ap (option_map active_begin) (sym (ap active_in starved)))
      (λ f told. starved_told s (begun_count old) (length old.journal) f job row.0 starved told) b.told)
  starved_row (turn.Ended job_end.Done) starved row = absurd row
  starved_row (turn.Ended (job_end.GaveUp c)) starved row = absurd row
  starved_row (turn.Ended job_end.JournalFull) starved row = absurd row
  starved_row turn.Went starved row =
      let next : JobView = record job { doing = Idle } in
      stays_as (slice_set old.jobs at next) (ap (λ (n : Moment). n.journal) row.1) (ap (λ (n : Moment). n.jobs) row.1)
      (story_goes_on s b.lasts old.journal old.jobs at job next b.there (ap (option_map active_begin) (sym (ap active_in starved)))
      (λ f told. fed_told s (begun_count old) (length old.journal) f job row.0 starved told) b.told)
  starved_row (turn.Busy object holder) starved row = absurd row
  starved_row turn.NoMemory starved row = absurd row

  -- ---- a job with an active transaction that stays active
  moved_row : (place : Position) (handed : Option Ask) (tx next : TxView) → job.doing ≡ Active tx → active_begin next ≡ active_begin tx
      → ((f : Following) → IsUnderway s f job.place (asked_at s job) tx → IsUnderway s f place (asked_by (has_clients s.script) s.script handed place) next)
      → new.journal ≡ old.journal → new.jobs ≡ slice_set old.jobs at (record job { place = place; handed = handed; doing = Active next }) → After
  moved_row place handed tx next active same moves journal jobs =
      let behind : JobView = record job { place = place; handed = handed; doing = Active next } in
      stays_as (slice_set old.jobs at behind) journal jobs
      (story_goes_on s b.lasts old.journal old.jobs at job behind b.there (ap Some same ∙ ap (option_map active_begin) (sym (ap active_in active)))
      (λ f told. active_told s (begun_count old) (length old.journal) f job place handed tx next active (moves f) told) b.told)

  -- what it is asked stays
  active_row : (place : Position) (tx next : TxView) → job.doing ≡ Active tx → active_begin next ≡ active_begin tx
      → asked_by (has_clients s.script) s.script job.handed place ≡ asked_at s job
      → ((f : Following) → IsUnderway s f job.place (asked_at s job) tx → IsUnderway s f place (asked_at s job) next)
      → new.journal ≡ old.journal → new.jobs ≡ slice_set old.jobs at (with_tx job place next) → After
  active_row place tx next active same still moves journal jobs =
      moved_row place job.handed tx next active same (λ f under. subst (λ a. IsUnderway s f place a next) (sym still) (moves f under)) journal jobs

  -- where clients ask, nothing is asked once a call is answered
  unasked : (place : Position) → has_clients s.script ≡ true → asked_by (has_clients s.script) s.script None place ≡ ask.End
  unasked place live = ap (λ c. asked_by c s.script None place) live

  called_row : (tx : TxView) (call : Call) → is_back call ≡ false → job.doing ≡ Active tx → tx.phase ≡ Running → asked_at s job ≡ ask.Call call
      → Calls (mover s at old job) tx call new → After
  called_row tx call ahead active runs asked row =
      moved_row row.place None tx (noting tx call row.reply (claims_at old tx call) row.parts) active refl
      (λ f under. called_underway (mover s at old job) f tx call new _ (unasked row.place) ahead runs asked row under)
      (ap (λ (n : Moment). n.journal) row.behind) (ap (λ (n : Moment). n.jobs) row.behind)

  conflict_row : (tx : TxView) (call : Call) → job.doing ≡ Active tx → tx.phase ≡ Running → asked_at s job ≡ ask.Call call
      → Conflicts (mover s at old job) tx call new → After
  conflict_row tx call active runs asked row =
      let c = cause.Conflict row.object row.holder (length old.journal) in
      active_row row.place tx (record tx { phase = Undoing c }) active refl (asked_same s job row.place row.same)
      (λ f under. back_underway s f job.place row.place (asked_at s job) tx c tx.undo tx.held refl runs row.same (ap is_call_asked asked) (λ are. are) tt under)
      (ap (λ (n : Moment). n.journal) row.behind) (ap (λ (n : Moment). n.jobs) row.behind)

  -- it is told to wait
  waits_row : (tx : TxView) (object : Object) (holder : ℕ) → job.doing ≡ Active tx → tx.phase ≡ Running → Waits (mover s at old job) tx object holder new
      → After
  waits_row tx object holder active runs row =
      let next : JobView = with_tx job row.place tx in
      stays_as (slice_set old.jobs at (asked_to_wait next)) (ap (λ (n : Moment). n.journal) row.behind)
      (ap (λ (n : Moment). n.jobs) row.behind)
      (story_goes_on s b.lasts old.journal old.jobs at job (asked_to_wait next) b.there (ap (option_map active_begin) (sym (ap active_in active)))
      (λ f told. waiting_told s (begun_count old) (length old.journal) f next
      (active_told s (begun_count old) (length old.journal) f job row.place job.handed tx tx active
      (λ under. subst (λ a. IsUnderway s f row.place a tx) (sym (asked_same s job row.place row.same))
      (same_underway s f job.place row.place (asked_at s job) tx runs row.same under)) told)) b.told)

  -- it is revoked
  revoked_row : (tx : TxView) (m : Mark) → job.doing ≡ Active tx → tx.phase ≡ Running → Revokes (mover s at old job) tx m new → After
  revoked_row tx m active runs row =
      active_row job.place tx (record tx { phase = Undoing (revoked m) }) active refl refl
      (λ f under. back_underway s f job.place job.place (asked_at s job) tx (revoked m) tx.undo tx.held refl runs
      (record { begin = record { block = refl; next = refl; begun = refl }; walk = refl; saved = refl; at = omega arith })
      tt (λ are. are) tt under)
      (ap (λ (n : Moment). n.journal) row) (ap (λ (n : Moment). n.jobs) row)

  commits_row : (tx : TxView) → job.doing ≡ Active tx → tx.phase ≡ Running → asked_at s job ≡ ask.Commit → Commits (mover s at old job) tx new → After
  commits_row tx active runs asked row =
      active_row row.place tx (record tx { phase = Committing }) active refl (asked_same s job row.place row.same)
      (λ f under. commits_underway s f job.place row.place (asked_at s job) tx runs row.same row.settled asked under)
      (ap (λ (n : Moment). n.journal) row.behind) (ap (λ (n : Moment). n.jobs) row.behind)

  turned_row : (tx : TxView) → job.doing ≡ Active tx → tx.phase ≡ Running → asked_at s job ≡ ask.Abort → TurnsBack (mover s at old job) tx new → After
  turned_row tx active runs asked row =
      active_row row.place tx (record tx { phase = Undoing cause.Asked }) active refl (asked_same s job row.place row.same)
      (λ f under. back_underway s f job.place row.place (asked_at s job) tx cause.Asked tx.undo tx.held refl runs row.same asked (λ are. are) tt under)
      (ap (λ (n : Moment). n.journal) row.behind) (ap (λ (n : Moment). n.jobs) row.behind)

  wants_row : (tx : TxView) → job.doing ≡ Active tx → tx.phase ≡ Running → Wants (mover s at old job) tx new → After
  wants_row tx active runs row =
      let next = wanting tx row.left row.held in
      active_row row.place tx next active refl (asked_same s job row.place row.same)
      (λ f under. back_underway s f job.place row.place (asked_at s job) tx cause.NoMemory next.undo row.held refl runs row.same tt
      (λ are. record { own = tx.undo.pending; more = row.left; are = are; one = row.one; parts = refl }) tt under)
      (ap (λ (n : Moment). n.journal) row.behind) (ap (λ (n : Moment). n.jobs) row.behind)

  late_row : (tx : TxView) (call : LateCall) (calls : List LateCall) → job.doing ≡ Active tx → tx.phase ≡ Committing → late_left tx ≡ call ∷ calls
      → NextLate (mover s at old job) tx call new → After
  late_row tx call calls active commits some next =
      let row = next_ends s at old job tx new call next in
      active_row job.place tx (record tx { ends = tx.ends ++ row.end ∷ [] }) active refl refl
      (λ f under. ended_underway s f job.place (asked_at s job) tx row.end commits (left_some tx.late tx.ends call calls some) under) row.journal row.jobs

  tried_row : (tx : TxView) (c : Cause) → job.doing ≡ Active tx → tx.phase ≡ Undoing c → Compensates (mover s at old job) tx new → After
  tried_row tx c active undoes row =
      active_row job.place tx (record tx { undo = record { pending = row.older; ended = (row.tried, row.end) ∷ tx.undo.ended } }) active refl refl
      (λ f under. tried_underway s f job.place (asked_at s job) tx c row.older row.tried row.end undoes row.newest row.legal under)
      (ap (λ (n : Moment). n.journal) row.behind)
      (ap (λ (n : Moment). n.jobs) row.behind)

  -- its block goes back
  begins_back_row : (tx : TxView) → job.doing ≡ Active tx → tx.phase ≡ Running → asked_at s job ≡ ask.Call call.Back
      → BeginsBack (mover s at old job) tx new → After
  begins_back_row tx active runs asked row =
      active_row row.place tx (record tx { phase = Backing }) active refl (asked_same s job row.place row.same)
      (λ f under. begins_back_underway s f job.place row.place (asked_at s job) tx runs row.same row.settled asked row.opened under)
      (ap (λ (n : Moment). n.journal) row.behind) (ap (λ (n : Moment). n.jobs) row.behind)

  backs_one_row : (tx : TxView) (kept : SavedView) → job.doing ≡ Active tx → tx.phase ≡ Backing → tx.saved ≡ Some kept
      → nat_lt (length kept.trail) (length tx.undo.pending) ≡ true → BacksOne (mover s at old job) tx kept new → After
  backs_one_row tx kept active backs is above row =
      active_row job.place tx
      (record tx { phase = phase_after (length row.older + 1) row.end; undo = record { pending = row.older; ended = (row.tried, row.end) ∷ tx.undo.ended } })
      active refl refl
      (λ f under. backs_one_underway s f job.place (asked_at s job) tx kept row.older row.tried row.end backs is (grind (arith, above)) row.newest
      row.legal under)
      (ap (λ (n : Moment). n.journal) row.behind) (ap (λ (n : Moment). n.jobs) row.behind)

  ends_back_row : (tx : TxView) (kept : SavedView) → job.doing ≡ Active tx → tx.phase ≡ Backing → tx.saved ≡ Some kept
      → nat_lt (length kept.trail) (length tx.undo.pending) ≡ false → EndsBack (mover s at old job) tx kept new → After
  ends_back_row tx kept active backs is few row =
      moved_row row.place None tx (backed tx kept) active refl
      (λ f under. ends_back_underway (mover s at old job) f tx kept new _ (unasked row.place) backs is (grind (arith, few)) row under)
      (ap (λ (n : Moment). n.journal) row.behind) (ap (λ (n : Moment). n.jobs) row.behind)

  cut_row : (tx : TxView) (m : Mark) → job.doing ≡ Active tx → tx.phase ≡ Backing → Revokes (mover s at old job) tx m new → After
  cut_row tx m active backs row =
      active_row job.place tx (record tx { phase = Undoing (revoked m) }) active refl refl
      (λ f under. cut_underway s f job.place (asked_at s job) tx m backs under)
      (ap (λ (n : Moment). n.journal) row) (ap (λ (n : Moment). n.jobs) row)

  block_row : (tx : TxView) (kept : SavedView) (b : Bool) → job.doing ≡ Active tx → tx.phase ≡ Backing → tx.saved ≡ Some kept
      → nat_lt (length kept.trail) (length tx.undo.pending) ≡ b → BackingRow (mover s at old job) tx kept b new → After
  block_row tx kept true active backs is test row = backs_one_row tx kept active backs is test row
  block_row tx kept false active backs is test row = ends_back_row tx kept active backs is test row

  open_row : (tx : TxView) (o : Option SavedView) → job.doing ≡ Active tx → tx.phase ≡ Backing → tx.saved ≡ o → OpenRow (mover s at old job) tx o new → After
  open_row tx None active backs is row = absurd row
  open_row tx (Some kept) active backs is row = block_row tx kept (nat_lt (length kept.trail) (length tx.undo.pending)) active backs is refl row

  backing_row : (tx : TxView) (m : Option Mark) (answer : Turn) → job.doing ≡ Active tx → tx.phase ≡ Backing → MarkedBack (mover s at old job) tx m answer new
      → After
  backing_row tx None turn.Went active backs row = open_row tx tx.saved active backs refl row
  backing_row tx None turn.NoMemory active backs row = absurd row
  backing_row tx None (turn.Busy object holder) active backs row = absurd row
  backing_row tx None (turn.Ended end) active backs row = absurd row
  backing_row tx (Some m) turn.Went active backs row = cut_row tx m active backs row
  backing_row tx (Some m) turn.NoMemory active backs row = absurd row
  backing_row tx (Some m) (turn.Busy object holder) active backs row = absurd row
  backing_row tx (Some m) (turn.Ended end) active backs row = absurd row

  made_row : (tx : TxView) (c : Call) → job.doing ≡ Active tx → tx.phase ≡ Running → asked_at s job ≡ ask.Call c
      → CalledTurn (mover s at old job) tx c new → After
  made_row tx call.Back active runs asked row = begins_back_row tx active runs asked row
  made_row tx c active runs asked (inl row) = called_row tx c refl active runs asked row
  made_row tx c active runs asked (inr row) = conflict_row tx c active runs asked row

  asked_row : (tx : TxView) (a : Ask) → job.doing ≡ Active tx → tx.phase ≡ Running → asked_at s job ≡ a → AskedTurn (mover s at old job) tx a new → After
  asked_row tx (ask.Call c) active runs asked row = made_row tx c active runs asked row
  asked_row tx ask.Commit active runs asked row = commits_row tx active runs asked row
  asked_row tx ask.Abort active runs asked row = turned_row tx active runs asked row
  asked_row tx ask.End active runs asked row = absurd row

  running_row : (tx : TxView) (answer : Turn) → job.doing ≡ Active tx → tx.phase ≡ Running → RunningTurn (mover s at old job) tx answer new → After
  running_row tx turn.Went active is row = asked_row tx (asked_at s job) active is refl row
  running_row tx turn.NoMemory active is row = wants_row tx active is row
  running_row tx (turn.Busy object holder) active is row = waits_row tx object holder active is row
  running_row tx (turn.Ended end) active is row = absurd row

  marked_row : (tx : TxView) (m : Option Mark) (answer : Turn) → job.doing ≡ Active tx → tx.phase ≡ Running → MarkedTurn (mover s at old job) tx m answer new
      → After
  marked_row tx None answer active is row = running_row tx answer active is row
  marked_row tx (Some m) turn.Went active is row = revoked_row tx m active is row
  marked_row tx (Some m) turn.NoMemory active is row = absurd row
  marked_row tx (Some m) (turn.Busy object holder) active is row = absurd row
  marked_row tx (Some m) (turn.Ended end) active is row = absurd row

  -- ---- a transaction that enters
  -- it is active
  abbrev is_active : (tx : TxView) → job.doing ≡ Active tx → IsActiveAt old.jobs at tx
  is_active tx active = (job, b.there, ap active_in active)

  -- it began by now
  began_by_now : (tx : TxView) → job.doing ≡ Active tx → tx.began ≤ (progress_of s.script old.journal).entered
  began_by_now tx active =
      let by = b.told.begins.by_now (active_begin tx) (active_begun old.journal old.jobs at tx (is_active tx active)) in
      let all = entered-all s.script old.journal in
      omega arith

  replies_said : (tx : TxView) → job.doing ≡ Active tx → AreWordReplies (progress_of s.script old.journal).words tx.calls tx.replies
  replies_said tx active = (b.spoken.each at tx (is_active tx active)).replies

  -- what the journal tells of the job so far
  follows : (f : Following) × (slice_get (progress_of s.script old.journal).jobs at ≡ Some f)
  follows = get_beside (progress_of s.script old.journal).jobs old.jobs at job b.told.count b.there

  -- its starts ended after those that the journal tells of
  starts_told : (tx : TxView) → job.doing ≡ Active tx → HasStartEnds s.script (map (λ (f : Following). f.block) (progress_of s.script old.journal).jobs) tx
  starts_told tx active =
      subst (λ was. HasStartEnds s.script was tx)
      (sym (told_blocks (progress_of s.script old.journal).jobs old.jobs b.told.count (λ i f j got there. (b.told.jobs_told i f j got there).block)))
      (b.started.starts at tx (is_active tx active))

  commit_row : (tx : TxView) → job.doing ≡ Active tx → tx.phase ≡ Committing → late_left tx ≡ []
      → new.journal ≡ old.journal ++ entry_of tx at (Committed tx.ends) ∷ [] → new.jobs ≡ slice_set old.jobs at (behind_commit job tx) ++ started_jobs
      s.script job tx → After
  commit_row tx active commits none journal jobs =
      let p = progress_of s.script old.journal in
      let e = entry_of tx at (Committed tx.ends) in
      let (f, got) = follows in
      let told = b.told.jobs_told at f job got b.there in
      let under : IsUnderway s f job.place (asked_at s job) tx = subst (IsDoing s (begun_count old) f job) active told.doing in
      let starter = committed_job s.script f.job tx.calls tx.replies tx.ends in
      let blocks = started_late tx.late tx.ends in
      let gone = committed_told s (begun_count old) (length old.journal) p.entered f job tx active commits (entered-all s.script old.journal) told in
      let variables : (behind_commit job tx).place.variables ≡ starter.variables = ap (λ (place : Position). place.variables) gone.doing.1 in
      enters_as e (slice_set old.jobs at (behind_commit job tx) ++ started_jobs s.script job tx) journal jobs
      (enters s b.lasts old.journal old.jobs (started_jobs s.script job tx) at job (behind_commit job tx) tx (asked_at s job) e f
      (gone_on s.script p.entered f tx) (started_on s.script p.entered f tx) b.there
      (ap active_in active) refl refl got (commit_leads s.script p f at tx got under.kept.0)
      (length-map blocks (progress_started s.script starter (p.entered + 1)) ∙ sym (length-map blocks (started_job s.script (behind_commit job tx))))
      (started_idle s.script (behind_commit job tx) blocks)
      (started_told s (begun_count old) (length old.journal) p.entered starter (behind_commit job tx) blocks (entered-all s.script old.journal) refl gone.sided
      variables)
      (commit_true s (length old.words) p f at job.place (asked_at s job) tx (asks_scripted s job) got commits none under (began_by_now tx active)
      (replies_said tx active)
      (starts_told tx active) (λ t. b.played t tx (is_active tx active)))
      gone b.told)

  left_row : (tx : TxView) (calls : List LateCall) → job.doing ≡ Active tx → tx.phase ≡ Committing → late_left tx ≡ calls
      → LateTurn (mover s at old job) tx calls new → After
  left_row tx [] active commits none row = commit_row tx active commits none (ap (λ (n : Moment). n.journal) row.0) (ap (λ (n : Moment). n.jobs) row.0)
  left_row tx (call ∷ calls) active commits some row = late_row tx call calls active commits some row

  abort_row : (tx : TxView) (c : Cause) → job.doing ≡ Active tx → tx.phase ≡ Undoing c → tx.undo.pending ≡ []
      → new.journal ≡ old.journal ++ entry_of tx at (aborted_by c tx) ∷ [] → new.jobs ≡ slice_set old.jobs at (behind_abort job tx c) → After
  abort_row tx c active undoes none journal jobs =
      let p = progress_of s.script old.journal in
      let e = entry_of tx at (aborted_by c tx) in
      let (f, got) = follows in
      let told = b.told.jobs_told at f job got b.there in
      let under : IsUnderway s f job.place (asked_at s job) tx = subst (IsDoing s (begun_count old) f job) active told.doing in
      let nil = append-nil (slice_set old.jobs at (behind_abort job tx c)) in
      enters_as e (slice_set old.jobs at (behind_abort job tx c)) journal jobs
      (subst (λ js. StoriesHoldBut s (b.lasts ++ asked_at s job ∷ []) (old.journal ++ e ∷ []) js) nil
      (enters s b.lasts old.journal old.jobs [] at job (behind_abort job tx c) tx (asked_at s job) e f
      (following_abort p.entered f e c) [] b.there
      (ap active_in active) (behind_abort_none job tx c) refl got
      (abort_leads s.script p f at tx c got ∙ sym (append-nil (slice_set p.jobs at (following_abort p.entered f e c)))) refl tt (λ j g other none. cc none)
      (abort_true s (length old.words) p f at job.place (asked_at s job) tx c (asks_scripted s job) got undoes none under (began_by_now tx active)
      (replies_said tx active)
      (λ t. b.played t tx (is_active tx active)))
      (aborted_told s (begun_count old) (length old.journal) p.entered at f job tx c active (entered-all s.script old.journal) told) b.told))

  back_row : (tx : TxView) (c : Cause) (pending : List Undo) → job.doing ≡ Active tx → tx.phase ≡ Undoing c → tx.undo.pending ≡ pending
      → BackTurn (mover s at old job) tx c pending new → After
  back_row tx c [] active undoes none row = abort_row tx c active undoes none (ap (λ (n : Moment). n.journal) row.behind)
      (ap (λ (n : Moment). n.jobs) row.behind)
  back_row tx c (u ∷ pending) active undoes some row = tried_row tx c active undoes row

  -- ---- all rows
  phase_row : (tx : TxView) (phase : Phase) (answer : Turn) → job.doing ≡ Active tx → tx.phase ≡ phase → ActiveTurn (mover s at old job) tx phase answer new
      → After
  phase_row tx Running answer active is row = marked_row tx (old.marks tx.number) answer active is row
  phase_row tx Committing turn.Went active is row = left_row tx (late_left tx) active is refl row
  phase_row tx Committing turn.NoMemory active is row = absurd row
  phase_row tx Committing (turn.Busy object holder) active is row = absurd row
  phase_row tx Committing (turn.Ended end) active is row = absurd row
  phase_row tx (Undoing c) turn.Went active is row = back_row tx c tx.undo.pending active is refl row
  phase_row tx (Undoing c) turn.NoMemory active is row = absurd row
  phase_row tx (Undoing c) (turn.Busy object holder) active is row = absurd row
  phase_row tx (Undoing c) (turn.Ended end) active is row = absurd row
  phase_row tx Backing answer active is row = backing_row tx (old.marks tx.number) answer active is row

  doing_row : (d : Doing) (answer : Turn) → job.doing ≡ d → TurnOf (mover s at old job) d answer new → After
  doing_row Idle answer is row = idle_row answer is row
  doing_row (Active tx) answer is row = phase_row tx tx.phase answer is refl row
  doing_row Starved answer is row = starved_row answer is row
  doing_row (Ended end) answer is row = absurd row

-- a turn goes on with all that is true of the stories but for the grounds of conflicts
pub turn_told : (s : Setting) (at : ℕ) (old new : Moment) (answer : Turn) (lasts : List Ask) → (turned : IsTurn s at old answer new)
    → WordsAgree (progress_of s.script old.journal).words old.words old.jobs
    → (IsTrue s.tells → (tx : TxView) → (is : IsActiveAt old.jobs at tx)
    → IsPlayedSoFar (asked_at s is.0) (length old.words) (progress_of s.script old.journal) at tx)
    → AreStarted s.script old → StoriesHoldBut s lasts old.journal old.jobs
    → StoriesHoldBut s (lasts_behind (asked_at s turned.job) old.journal new.journal lasts) new.journal new.jobs
turn_told s at old new answer lasts turned spoken played started told =
    let b : Before s at old turned.job = record {
      there = turned.there;
      spoken = spoken;
      played = played;
      started = started;
      lasts = lasts;
      told = told;
    } in
    doing_row s at old new turned.job b turned.job.doing answer refl turned.row

-- a turn keeps the stories of all jobs, where it keeps the grounds of conflicts
pub a_turn_keeps_the_stories_but : (s : Setting) (at : ℕ) (old new : Moment) (answer : Turn) → (turned : IsTurn s at old answer new)
    → WordsAgree (progress_of s.script old.journal).words old.words old.jobs
    → (IsTrue s.tells → (tx : TxView) → (is : IsActiveAt old.jobs at tx)
    → IsPlayedSoFar (asked_at s is.0) (length old.words) (progress_of s.script old.journal) at tx)
    → AreStarted s.script old → (told : StoriesHold s (length old.words) old.marks old.journal old.jobs)
    → AreGrounded (scene_at (reading s (length new.words) new.marks) (lasts_behind (asked_at s turned.job) old.journal new.journal told.lasts)
    new.journal new.jobs)
    → (now : StoriesHold s (length new.words) new.marks new.journal new.jobs)
    × (now.lasts ≡ lasts_behind (asked_at s turned.job) old.journal new.journal told.lasts)
a_turn_keeps_the_stories_but s at old new answer turned spoken played started told grounded =
    told_whole s (length new.words) new.marks (lasts_behind (asked_at s turned.job) old.journal new.journal told.lasts) new.journal new.jobs
    (turn_told s at old new answer told.lasts turned spoken played started (told_but s (length old.words) old.marks old.journal old.jobs told)) grounded
