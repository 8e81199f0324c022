-- Each row of the table of turns keeps the flights of all.
use Rattle.std.proofs.Common.{◌≡◌, ℕ, ◌+◌, List, [], ◌∷◌, ◌++◌, length, refl, ap, sym, ◌∙◌, subst, arith, IsTrue, Option, Some, None}
use Rattle.std.proofs.Common.{length-append, length-drop}
use Rattle.std.specs.Prelude.{slice_get, slice_set, nat_lt, ◌≤◌, false}
use Rattle.xc_data.specs.declared.entry.KeptItem.{KeptItem}
use Rattle.xc_data.specs.declared.call.Call.{Call}
use Rattle.xc_data.specs.declared.call.LateCall.{LateCall}
use Rattle.xc_data.specs.declared.entry.Cause.{Cause}
use Rattle.xc_data.specs.declared.entry.Cause.TheVariants as cause
use Rattle.xc_data.specs.declared.entry.Entry.{Entry}
use Rattle.xc_data.specs.declared.entry.Outcome.TheVariants.{Committed, Aborted}
use Rattle.xc_compensate.specs.Records.{Records}
use Rattle.xc_host.specs.Contents.{Contents}
use Rattle.xc_host.specs.Kept.{with_kept}
use Rattle.xc_script.specs.Position.{Position}
use Rattle.xc_txmem.specs.Overlay.{overlaid}
use Rattle.xc_data.specs.declared.entry.Mark.{Mark}
use Rattle.xc_model.proofs.Laws.{in_time-count, asked_same}
use Rattle.xc_model.specs.declared.phase.Phase.TheVariants.{Running, Committing, Undoing, Backing}
use Rattle.xc_model.specs.Setting.{Setting}
use Rattle.xc_model.specs.Progress.{Progress, progress_of, after_entry}
use Rattle.xc_model.specs.Stories.{StoriesHold, IsAboveSave, IsBacking, IsCommitting, IsDoing, IsInPhase, IsUnderway}
use Rattle.xc_model.specs.Moment.{TxView, SavedView, JobView, Doing, Active, Moment, active_in, active_of, actives, begun_count, entering, late_left, rank_of}
use Rattle.xc_model.specs.Moment.{revoked, with_job}
use Rattle.xc_model.specs.Movers.{answered_with, asked_at, with_tx}
use Rattle.xc_model.specs.Entering.{behind_abort, behind_commit, entry_of}
use Rattle.xc_model.specs.IdleRows.{beginning_at, beginning_job}
use Rattle.xc_model.specs.PlainSteps.{claims_at, noting, contents_seen, wanting}
use Rattle.xc_model.specs.RunningRows.{Calls, Conflicts, Revokes, Commits, BeginsBack, TurnsBack, Wants}
use Rattle.xc_model.specs.UndoingRows.{Compensates, EntersAborted}
use Rattle.xc_model.specs.CommittingRows.{EndsLate}
use Rattle.xc_refines.specs.InFlight.{AreInFlight, flown}
use Rattle.xc_refines.proofs.TurnAborts.{abort_lands}
use Rattle.xc_refines.proofs.FlownLists.{flown_there}
use Rattle.xc_refines.proofs.TurnBack.{back_keeps, begins_back_keeps, commit_keeps, tried_keeps}
use Rattle.xc_refines.proofs.TurnWayBack.{cut_keeps, backs_one_keeps, ends_back_keeps}
use Rattle.xc_model.specs.BackingRows.{phase_after, backed, BacksOne, EndsBack}
use Rattle.xc_world.specs.Fits.{is_back}
use Rattle.xc_refines.proofs.TurnCalls.{Stepping, calls_keep}
use Rattle.xc_refines.proofs.TurnEnters.{commit_lands, entry_lands}
use Rattle.xc_refines.proofs.Grown.{idle_actives, started_new, started_their_blocks}
use Rattle.xc_refines.proofs.StartedWorld.{starts_there}
use Rattle.xc_refines.proofs.TurnLate.{host_late, late_lands}
use Rattle.xc_refines.proofs.TurnLed.{led-more, commit_world, commit_handles, abort_world, abort_handles}
use Rattle.xc_data.proofs.Laws.{picked_set, ones}
use Rattle.std.proofs.Common.{append-nil}
use Rattle.xc_data.specs.declared.call.LateCall.TheVariants.{Thread}
use Rattle.xc_model.specs.LateCalls.{started_late}
use Rattle.xc_model.specs.CommittingRows.{Starts}
use Rattle.xc_model.specs.Entering.{started_jobs}
use Rattle.xc_model.specs.Movers.{mover}
use Rattle.xc_model.specs.Moment.{jobs_joined}
use Rattle.xc_refines.proofs.TurnParts.{world_in, Flying, FollowsStory, begins_next, flying_from, flying_of, flies_idle, follows_at, flies_waiting, airfield}
use Rattle.xc_refines.proofs.TurnWants.{wants_so}

-- ---- a station after a turn
-- from its parts
pub flies_so : (s : Setting) (now : Moment) (p : Progress) (words : List ℕ) (contents : Contents) (started : List (List ℕ)) (jobs : List JobView) (next : ℕ)
    → progress_of s.script now.journal ≡ p → now.words ≡ words → now.contents ≡ contents → now.started ≡ started → now.jobs ≡ jobs
    → begun_count now + 1 ≡ next
    → Flying s p (airfield words contents started jobs next) → AreInFlight s now
flies_so s now p words contents started jobs next led was is begun put count f =
    flying_from s now (subst (λ q. Flying s q (airfield now.words now.contents now.started now.jobs (begun_count now + 1))) (sym led)
    (subst (λ w. Flying s p (airfield w now.contents now.started now.jobs (begun_count now + 1))) (sym was)
    (subst (λ c. Flying s p (airfield words c now.started now.jobs (begun_count now + 1))) (sym is)
    (subst (λ bs. Flying s p (airfield words contents bs now.jobs (begun_count now + 1))) (sym begun)
    (subst (λ j. Flying s p (airfield words contents started j (begun_count now + 1))) (sym put)
    (subst (λ n. Flying s p (airfield words contents started jobs n)) (sym count) f))))))

-- how many have begun where one job is put
count_put : (jobs : List JobView) (at : ℕ) (job job' : JobView) → slice_get jobs at ≡ Some job
    → length (actives (slice_set jobs at job')) + ones (active_of job) ≡ length (actives jobs) + ones (active_of job')
count_put jobs at job job' there = picked_set active_of jobs at job' job there

-- where the journal stays, and as many are active
pub row_kept : (s : Setting) (old new : Moment) (at : ℕ) (job job' : JobView) → slice_get old.jobs at ≡ Some job → ones (active_of job') ≡ ones (active_of job)
    → new.journal ≡ old.journal → new.jobs ≡ slice_set old.jobs at job'
    → Flying s (progress_of s.script old.journal) (airfield new.words new.contents new.started (slice_set old.jobs at job') (begun_count old + 1))
    → AreInFlight s new
row_kept s old new at job job' there same journal put f =
    let count = count_put old.jobs at job job' there in
    let many : length (actives new.jobs) ≡ length (actives (slice_set old.jobs at job')) = ap (λ js. length (actives js)) put in
    let entries : length new.journal ≡ length old.journal = ap length journal in
    flies_so s new (progress_of s.script old.journal) new.words new.contents new.started (slice_set old.jobs at job') (begun_count old + 1)
    (ap (progress_of s.script) journal) refl refl refl put (omega (arith, count, many, entries, same)) f

-- a job after its abort
pub record IsAfterAbort (job job' : JobView) : Type 0 where
  pub none : active_of job' ≡ None
  pub block : job'.block ≡ job.block
  pub me : job'.me ≡ job.me

-- whatever the cause
abort_left : (job : JobView) (tx : TxView) (c : Cause) → IsAfterAbort job (behind_abort job tx c)
abort_left job tx cause.Asked = record { none = refl; block = refl; me = refl }
abort_left job tx cause.NoMemory = record { none = refl; block = refl; me = refl }
abort_left job tx (cause.Conflict object holder when) = record { none = refl; block = refl; me = refl }
abort_left job tx (cause.Revoked object by when) = record { none = refl; block = refl; me = refl }
abort_left job tx (cause.Stuck failed) = record { none = refl; block = refl; me = refl }

-- ---- of one job
module _ (s : Setting) (old : Moment) (at : ℕ) (job : JobView) (there : slice_get old.jobs at ≡ Some job)
    (told : StoriesHold s (length old.words) old.marks old.journal old.jobs) (flying : AreInFlight s old) where
  abbrev before : Progress
  before = progress_of s.script old.journal

  f : Flying s before (airfield old.words old.contents old.started old.jobs (begun_count old + 1))
  f = flying_of s old flying

  follows : FollowsStory s old at job
  follows = follows_at s (length old.words) old at job told there

  -- ---- an idle job
  pub row_begins : active_of job ≡ None → AreInFlight s (beginning_at old at job)
  row_begins none =
      let new = beginning_at old at job in
      let count = count_put old.jobs at job (beginning_job old job) there in
      let was : ones (active_of job) ≡ 0 = ap ones none in
      flies_so s new before old.words old.contents old.started new.jobs (begun_count old + 1 + 1) refl refl refl refl refl (omega (arith, count, was))
      (begins_next s before old.words old.contents old.started old.jobs (begun_count old + 1) at job (record job.place { begun = job.place.variables })
      (rank_of job.attempts (begun_count old + 1)) (length old.journal) there none follows.told.fresh f)

  -- a job without a transaction ends
  pub row_ends : (d : Doing) → active_of job ≡ None → active_in d ≡ None → AreInFlight s (with_job old at (record job { doing = d }))
  row_ends d none none' =
      let job' : JobView = record job { doing = d } in
      row_kept s old (with_job old at job') at job job' there (ap ones none' ∙ ap ones (sym none)) refl refl
      (flies_idle s before old.words old.contents old.started old.jobs (begun_count old + 1) at job job' there none none' refl refl f)

  -- a job is told to wait
  pub row_waits : (new : Moment) (job' : JobView) → job'.doing ≡ job.doing → job'.me ≡ job.me → job'.block ≡ job.block
      → asked_at s job' ≡ asked_at s job → new ≡ record old { jobs = slice_set old.jobs at job'; marks = new.marks } → AreInFlight s new
  row_waits new job' doing me block still is =
      subst (AreInFlight s) (sym is) (row_kept s old (record old { jobs = slice_set old.jobs at job'; marks = new.marks }) at job job' there
      (ap (λ d. ones (active_in d)) doing) refl refl
      (flies_waiting s before old.words old.contents old.started old.jobs (begun_count old + 1) at job job' there doing me block still f))

  -- ---- an active transaction
  module _ (tx : TxView) (doing : job.doing ≡ Active tx) where
    abbrev here : Option TxView
    here = active_of job

    one : ones here ≡ 1
    one = ap (λ d. ones (active_in d)) doing

    underway : IsUnderway s follows.following job.place (asked_at s job) tx
    underway = subst (IsDoing s (begun_count old) follows.following job) doing follows.told.doing

    as_new : (new : Moment) (jobs : List JobView) → new.words ≡ old.words → new.started ≡ old.started
        → Flying s before (airfield old.words new.contents old.started jobs (begun_count old + 1))
        → Flying s before (airfield new.words new.contents new.started jobs (begun_count old + 1))
    as_new new jobs words begun f =
        subst (λ ws. Flying s before (airfield ws new.contents new.started jobs (begun_count old + 1))) (sym words)
        (subst (λ bs. Flying s before (airfield old.words new.contents bs jobs (begun_count old + 1))) (sym begun) f)

    kept : (new : Moment) (place : Position) (tx' : TxView) → new.journal ≡ old.journal → new.jobs ≡ slice_set old.jobs at (with_tx job place tx')
        → Flying s before (airfield new.words new.contents new.started (slice_set old.jobs at (with_tx job place tx')) (begun_count old + 1))
        → AreInFlight s new
    kept new place tx' = row_kept s old new at job (with_tx job place tx') there (sym one)

    -- a call
    pub row_calls : (new : Moment) (c : Call) → is_back c ≡ false → IsTrue s.tells → tx.phase ≡ Running → Calls (mover s at old job) tx c new
        → AreInFlight s new
    row_calls new c ahead tells runs row =
        let w = before.state.world in
        let at_words = record w { words = old.words; started = old.started } in
        let go : Stepping (record
        { old = contents_seen at_words old.contents tx.writes; new = contents_seen at_words new.contents row.parts.stores }) tx c row.reply row.parts
        = record {
          does = row.does tells at_words refl;
          ended = ap (λ (u : Records). u.ended) row.undo;
        } in
        let count = in_time-count tx.calls tx.replies underway.in_time in
        let done = calls_keep s before old.words old.contents new.contents old.started old.jobs (begun_count old + 1) at job row.place tx c row.reply
        row.parts ahead there doing
        runs go f row.free row.stores count in
        let next : TxView = noting tx c row.reply (claims_at old tx c) row.parts in
        row_kept s old new at job (answered_with job row.place next) there (sym one) (ap (λ (n : Moment). n.journal) row.behind)
        (ap (λ (n : Moment). n.jobs) row.behind)
        (as_new new (slice_set old.jobs at (answered_with job row.place next)) (ap (λ (n : Moment). n.words) row.behind)
        (ap (λ (n : Moment). n.started) row.behind) done)

    -- the rollback begins
    row_back : (c : Cause) (place : Position) → tx.phase ≡ Running → AreInFlight s (with_job old at (with_tx job place (record tx { phase = Undoing c })))
    row_back c place runs =
        kept (with_job old at (with_tx job place (record tx { phase = Undoing c }))) place (record tx { phase = Undoing c }) refl refl
        (back_keeps s before old.words old.contents old.started old.jobs (begun_count old + 1) at job place tx there doing f c runs)

    -- at a holder
    pub row_conflicts : (new : Moment) (c : Call) → tx.phase ≡ Running → Conflicts (mover s at old job) tx c new → AreInFlight s new
    row_conflicts new c runs row = subst (AreInFlight s) (sym row.behind) (row_back (cause.Conflict row.object row.holder (length old.journal)) row.place runs)

    -- where it is marked
    pub row_revokes : (new : Moment) (m : Mark) → tx.phase ≡ Running → Revokes (mover s at old job) tx m new → AreInFlight s new
    row_revokes new m runs row = subst (AreInFlight s) (sym row) (row_back (revoked m) job.place runs)

    -- where the abort is asked
    pub row_turns_back : (new : Moment) → tx.phase ≡ Running → TurnsBack (mover s at old job) tx new → AreInFlight s new
    row_turns_back new runs row = subst (AreInFlight s) (sym row.behind) (row_back cause.Asked row.place runs)

    -- its block goes back
    pub row_begins_back : (new : Moment) → tx.phase ≡ Running → BeginsBack (mover s at old job) tx new → AreInFlight s new
    row_begins_back new runs row = subst (AreInFlight s) (sym row.behind)
        (kept (with_job old at (with_tx job row.place (record tx { phase = Backing }))) row.place (record tx { phase = Backing }) refl refl
        (begins_back_keeps s before old.words old.contents old.started old.jobs (begun_count old + 1) at job row.place tx there doing f runs))

    -- a mark cuts its way back short
    pub row_cuts_back : (new : Moment) (m : Mark) → tx.phase ≡ Backing → Revokes (mover s at old job) tx m new → AreInFlight s new
    row_cuts_back new m backing row = subst (AreInFlight s) (sym row)
        (kept (with_job old at (with_tx job job.place (record tx { phase = Undoing (revoked m) }))) job.place (record tx { phase = Undoing (revoked m) })
        refl refl
        (cut_keeps s before old.words old.contents old.started old.jobs (begun_count old + 1) at job job.place tx there doing f backing (Undoing (revoked m))
        refl))

    -- a record of the block is tried
    pub row_backs_one : (new : Moment) (kept_there : SavedView) → IsTrue s.tells → tx.phase ≡ Backing → BacksOne (mover s at old job) tx kept_there new
        → AreInFlight s new
    row_backs_one new kept_there tells backing row =
        let tx' : TxView = record tx {
          phase = phase_after (length row.older + 1) row.end;
          undo = record { pending = row.older; ended = (row.tried, row.end) ∷ tx.undo.ended };
        } in
        kept new job.place tx' (ap (λ (n : Moment). n.journal) row.behind) (ap (λ (n : Moment). n.jobs) row.behind)
        (as_new new (slice_set old.jobs at (with_tx job job.place tx')) (ap (λ (n : Moment). n.words) row.behind) (ap (λ (n : Moment). n.started) row.behind)
        (backs_one_keeps s before old.words old.contents old.started old.jobs (begun_count old + 1) at job job.place tx there doing f backing row.older
        row.tried row.end new.contents (length row.older + 1) row.newest row.legal (row.effect tells)))

    backing_so : tx.phase ≡ Backing → IsBacking s job.place (asked_at s job) tx
    backing_so backing = subst (IsInPhase s job.place (asked_at s job) tx) backing underway.phase

    -- its block has gone back
    pub row_ends_back : (new : Moment) (saved : SavedView) → IsTrue s.tells → tx.phase ≡ Backing → tx.saved ≡ Some saved
        → nat_lt (length saved.trail) (length tx.undo.pending) ≡ false → EndsBack (mover s at old job) tx saved new → AreInFlight s new
    row_ends_back new saved tells backing is few row =
        let b = backing_so backing in
        let within : length saved.trail ≤ length tx.undo.pending = subst (λ o. IsAboveSave o tx.undo.pending) is b.within in
        let tx' : TxView = backed tx saved in
        row_kept s old new at job (answered_with job row.place tx') there (sym one) (ap (λ (n : Moment). n.journal) row.behind)
        (ap (λ (n : Moment). n.jobs) row.behind)
        (as_new new (slice_set old.jobs at (answered_with job row.place tx')) (ap (λ (n : Moment). n.words) row.behind)
        (ap (λ (n : Moment). n.started) row.behind)
        (ends_back_keeps s before old.words old.contents old.started old.jobs (begun_count old + 1) at job row.place tx there doing f backing saved new.contents
        is (grind (arith, few, within)) b.undone (row.returned tells)))

    -- a commit
    pub row_commits : (new : Moment) → tx.phase ≡ Running → Commits (mover s at old job) tx new → AreInFlight s new
    row_commits new runs row = subst (AreInFlight s) (sym row.behind)
        (kept (record (with_job old at (with_tx job row.place (record tx { phase = Committing }))) { words = overlaid old.words tx.writes })
        row.place (record tx { phase = Committing }) refl refl
        (commit_keeps s before old.words old.contents old.started old.jobs (begun_count old + 1) at job row.place tx there doing f runs))

    -- where memory ran out
    pub row_wants : (new : Moment) → IsTrue s.tells → tx.phase ≡ Running → Wants (mover s at old job) tx new → AreInFlight s new
    row_wants new tells runs row =
        let next : TxView = wanting tx row.left row.held in
        kept new row.place next (ap (λ (n : Moment). n.journal) row.behind) (ap (λ (n : Moment). n.jobs) row.behind)
        (as_new new (slice_set old.jobs at (with_tx job row.place next)) (ap (λ (n : Moment). n.words) row.behind) (ap (λ (n : Moment). n.started) row.behind)
        (wants_so s before old new (begun_count old + 1) at job row.place tx there doing f runs (asked_same s job row.place row.same) (asked_at s job)
        row.left row.held
        refl row.holds (row.contents tells)))

    -- a record is tried
    pub row_compensates : (new : Moment) (c : Cause) → IsTrue s.tells → tx.phase ≡ Undoing c → Compensates (mover s at old job) tx new → AreInFlight s new
    row_compensates new c tells undoes row =
        let tx' : TxView = record tx { undo = record { pending = row.older; ended = (row.tried, row.end) ∷ tx.undo.ended } } in
        kept new job.place tx' (ap (λ (n : Moment). n.journal) row.behind) (ap (λ (n : Moment). n.jobs) row.behind)
        (as_new new (slice_set old.jobs at (with_tx job job.place tx')) (ap (λ (n : Moment). n.words) row.behind) (ap (λ (n : Moment). n.started) row.behind)
        (tried_keeps s before old.words old.contents old.started old.jobs (begun_count old + 1) at job job.place tx there doing f c row.older row.tried
        row.end new.contents
        undoes row.newest row.legal (row.effect tells) refl))

    committing : tx.phase ≡ Committing → IsCommitting s job.place (asked_at s job) tx
    committing commits = subst (IsInPhase s job.place (asked_at s job) tx) commits underway.phase

    -- a late call
    pub row_ends_late : (new : Moment) (call : LateCall) (calls : List LateCall) → IsTrue s.tells → tx.phase ≡ Committing → late_left tx ≡ call ∷ calls
        → EndsLate (mover s at old job) tx call new → AreInFlight s new
    row_ends_late new call calls tells commits left row =
        let tx' : TxView = record tx { ends = tx.ends ++ row.end ∷ [] } in
        let done = host_late before.state.world old.words old.contents new.contents old.started call row.end (row.does tells) in
        kept new job.place tx' (ap (λ (n : Moment). n.journal) row.behind) (ap (λ (n : Moment). n.jobs) row.behind)
        (as_new new (slice_set old.jobs at (with_tx job job.place tx')) (ap (λ (n : Moment). n.words) row.behind) (ap (λ (n : Moment). n.started) row.behind)
        (late_lands s before old.words old.contents new.contents old.started old.started old.jobs (begun_count old + 1) at job tx there
        doing commits f
        call row.end done.0 done.1 calls left (committing commits).few_ends))

    -- one that starts a job
    pub row_starts : (new : Moment) (block : List ℕ) (calls : List LateCall) → tx.phase ≡ Committing → late_left tx ≡ Thread block ∷ calls
        → Starts (mover s at old job) tx block new → AreInFlight s new
    row_starts new block calls commits left row =
        let tx' : TxView = record tx { ends = tx.ends ++ row.end ∷ [] } in
        let jobs = slice_set old.jobs at (with_tx job job.place tx') in
        let next = begun_count old + 1 in
        let now = world_in before.state.world old.words old.contents old.started in
        let done = starts_there s.script now block f.blocks row.end new.started row.starts in
        let flown = late_lands s before old.words old.contents old.contents old.started new.started old.jobs next at job tx there doing commits f
        (Thread block) row.end done.fits done.step calls left (committing commits).few_ends in
        kept new job.place tx' (ap (λ (n : Moment). n.journal) row.behind) (ap (λ (n : Moment). n.jobs) row.behind)
        (subst (λ ws. Flying s before (airfield ws new.contents new.started jobs next)) (sym (ap (λ (n : Moment). n.words) row.behind))
        (subst (λ cs. Flying s before (airfield old.words cs new.started jobs next)) (sym (ap (λ (n : Moment). n.contents) row.behind)) flown))

    -- ---- an entry
    entered_so : (job' : JobView) (e : Entry) (contents : Contents) (kept : List KeptItem) (more : List JobView) → active_of job' ≡ None
        → actives (slice_set old.jobs at job' ++ more) ≡ actives (slice_set old.jobs at job')
        → Flying s (after_entry s.script before e) (airfield old.words contents old.started (slice_set old.jobs at job' ++ more) (begun_count old + 1))
        → AreInFlight s (jobs_joined (record (entering old at job' e) { contents = contents; kept = kept }) more)
    entered_so job' e contents kept more none same flown =
        let new : Moment = jobs_joined (record (entering old at job' e) { contents = contents; kept = kept }) more in
        let count = count_put old.jobs at job job' there in
        let none_now : ones (active_of job') ≡ 0 = ap ones none in
        let was = one in
        let active : length (actives new.jobs) ≡ length (actives (slice_set old.jobs at job')) = ap length same in
        let longer = length-append old.journal (e ∷ []) in
        flies_so s new (after_entry s.script before e) old.words contents old.started new.jobs (begun_count old + 1) (led-more s.script old.journal e)
        refl refl refl refl (omega (arith, count, none_now, was, longer, active)) flown

    -- of a commit, after its last late call
    pub row_commit_enters : tx.phase ≡ Committing → late_left tx ≡ []
        → AreInFlight s (jobs_joined (entering old at (behind_commit job tx) (entry_of tx at (Committed tx.ends))) (started_jobs s.script job tx))
    row_commit_enters commits none =
        let fresh = follows.told.fresh in
        let next = begun_count old + 1 in
        let g = follows.following in
        let e = entry_of tx at (Committed tx.ends) in
        let few = (committing commits).few_ends in
        let done : length tx.ends ≡ length tx.late = omega (arith, length-drop (length tx.ends) tx.late, ap length none, few) in
        let job' = behind_commit job tx in
        let blocks = started_late tx.late tx.ends in
        let more = started_jobs s.script job tx in
        let me = (f.flies.flights at (flown job.me (f.unnoted at) tx) (flown_there f.unnoted old.jobs at job tx there doing)).inside.me in
        entered_so job' e old.contents old.kept more refl (idle_actives job'.me.places (slice_set old.jobs at job') more (started_new s.script job' blocks))
        (entry_lands s before (after_entry s.script before e) old.words old.contents old.contents old.started old.jobs more next at job job' there refl f
        (commit_lands s before old.words old.contents old.started old.jobs next at job tx there doing f (after_entry s.script before e) job' more commits done
        (commit_world s.script before g old.jobs at job tx there follows.at_place fresh f.handles (f.unnoted at))
        (commit_handles s.script before g old.jobs at job tx there follows.at_place fresh f.handles job' underway.kept.0 me refl) refl refl
        (started_their_blocks s.script job' blocks) (started_new s.script job' blocks)))

    -- of an abort
    pub row_abort_enters : (new : Moment) (c : Cause) → IsTrue s.tells → tx.phase ≡ Undoing c → tx.undo.pending ≡ []
        → EntersAborted (mover s at old job) tx c new → AreInFlight s new
    row_abort_enters new c tells undoes none row =
        let fresh = follows.told.fresh in
        let next = begun_count old + 1 in
        let g = follows.following in
        let e = entry_of tx at (Aborted (record { cause = c; records = tx.undo.ended })) in
        let job' = behind_abort job tx c in
        let back = abort_left job tx c in
        let kept_jobs : Moment → List JobView → Moment = λ n js. record n { jobs = js } in
        let there_now = record (entering old at job' e) { contents = with_kept old.contents tx.taken; kept = new.kept } in
        let nil = append-nil (slice_set old.jobs at job') in
        subst (AreInFlight s) (ap (kept_jobs there_now) nil
        ∙ sym (row.behind ∙ ap (λ contents. record (entering old at job' e) { contents = contents; kept = new.kept }) (row.returned tells)))
        (entered_so job' e (with_kept old.contents tx.taken) new.kept [] back.none (ap actives nil)
        (entry_lands s before (after_entry s.script before e) old.words old.contents (with_kept old.contents tx.taken) old.started old.jobs [] next at job job'
        there back.none f
        (abort_lands s before old.words old.contents old.started old.jobs next at job tx c there doing undoes none f (after_entry s.script before e) job'
        (abort_world s.script before g old.jobs at job tx there follows.at_place fresh f.handles (f.unnoted at) c)
        (abort_handles s.script before g old.jobs at job tx there follows.at_place fresh f.handles c job' back.me) back.me back.block
        (λ j other at_j. (follows_at s (length old.words) old j other told at_j).told.fresh))))
