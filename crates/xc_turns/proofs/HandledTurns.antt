-- Each row of the table of turns keeps the handles, and the count of the host's calls.
use Rattle.std.proofs.Common.{◌≡◌, ℕ, ◌+◌, length, inl, inr, None, Some, List, [], ◌∷◌, ◌++◌, refl, ap, sym, ◌∙◌, subst, arith}
use Rattle.std.specs.Prelude.{Option, Bool, true, false, nat_lt, slice_get, slice_set}
use Rattle.xc_compensate.specs.Records.{Records}
use Rattle.xc_data.specs.declared.call.Call.{Call}
use Rattle.xc_data.specs.declared.call.Call.TheVariants as call
use Rattle.xc_data.specs.declared.call.LateCall.{LateCall}
use Rattle.xc_data.specs.declared.entry.Cause.{Cause}
use Rattle.xc_data.specs.declared.entry.Cause.TheVariants as cause
use Rattle.xc_data.specs.declared.entry.Entry.{Entry}
use Rattle.xc_data.specs.declared.entry.JobEnd.TheVariants as job_end
use Rattle.xc_data.specs.declared.entry.Mark.{Mark}
use Rattle.xc_data.specs.declared.entry.Report.{Report}
use Rattle.xc_data.specs.declared.entry.Turn.{Turn}
use Rattle.xc_data.specs.declared.entry.Turn.TheVariants as turn
use Rattle.xc_data.specs.declared.script.HostCallKind.{HostCallKind}
use Rattle.xc_data.specs.declared.undo.Undo.{Undo}
use Rattle.xc_data.specs.declared.undo.UndoEnd.{UndoEnd}
use Rattle.xc_data.specs.declared.undo.UndoEnd.TheVariants.{Undone, Failed, Blocked}
use Rattle.xc_host.specs.Cause.{IsCalled, times}
use Rattle.xc_host.specs.Uses.{BacksFor, LatesFor}
use Rattle.xc_script.specs.declared.ask.Ask.{Ask}
use Rattle.xc_script.specs.declared.ask.Ask.TheVariants as ask
use Rattle.xc_script.specs.Position.{Position}
use Rattle.xc_world.specs.Fits.{is_back}
use Rattle.xc_world.specs.Late.{kept_call}
use Rattle.xc_model.specs.declared.phase.Phase.{Phase}
use Rattle.xc_model.specs.declared.phase.Phase.TheVariants.{Running, Committing, Undoing, Backing}
use Rattle.xc_model.specs.BackingRows.{backed, phase_after, BackingRow, EndsBack, OpenRow, BackingTurn, MarkedBack}
use Rattle.xc_model.specs.Called.{BacksMake, StopsBy}
use Rattle.xc_model.specs.CommittingRows.{CommittingTurn, LateTurn}
use Rattle.xc_model.specs.Entering.{behind_abort}
use Rattle.xc_model.specs.Handles.{handled_anew}
use Rattle.xc_model.specs.Handling.{HandlesAgree, HasMade, MadeBy, StopsIn}
use Rattle.xc_model.specs.IdleRows.{IdleTurn, beginning_job}
use Rattle.xc_model.specs.Moment.{TxView, SavedView, JobView, Doing, Idle, Active, Starved, Ended, Moment}
use Rattle.xc_model.specs.Moment.{active_in, active_of, begun_count, late_left, rank_of, revoked}
use Rattle.xc_model.specs.Movers.{HasCalled, answered_with, asked_at, mover}
use Rattle.xc_model.specs.PlainSteps.{StopsAt, claims_at, noting, wanting}
use Rattle.xc_model.specs.Progress.{Following, progress_of}
use Rattle.xc_model.specs.Rows.{StarvedTurn, ActiveTurn, TurnOf, IsTurn, lasts_behind}
use Rattle.xc_model.specs.RunningRows.{Calls, CalledTurn, AskedTurn, MarkedTurn, RunningTurn, Wants}
use Rattle.xc_model.specs.Setting.{Setting}
use Rattle.xc_model.specs.Stories.{StoriesHold, StoryHolds, IsDoing, IsInPhase, IsUnderway}
use Rattle.xc_model.specs.UndoingRows.{BackTurn, EntersAborted, UndoingTurn}
use Rattle.xc_turns.proofs.HandledMade.{MadeAt, idle_made}
use Rattle.xc_turns.proofs.HandledTx.{backed_handled, begun_made, called_handled, lates_more, no_backs, no_ends_made, other_lates, parts_times, times_append}
use Rattle.xc_turns.proofs.HandledRows.{aborted_handled, committed_handled, stays_handled, there}
use Rattle.xc_turns.proofs.Jobs.{behind_abort_none}
use Rattle.xc_turns.proofs.LateEnds.{Ends, next_ends, next_uses}
use Rattle.xc_turns.proofs.Lists.{get_beside, set_itself}
use Rattle.xc_turns.proofs.Progressing.{lasts_grow, lasts_stay}
use Rattle.xc_model.proofs.Laws.{asked_same, in_time-count}

-- an abort leaves the job's handles
abort_places : (job : JobView) (tx : TxView) (c : Cause) → (behind_abort job tx c).me.places ≡ job.me.places
abort_places job tx (cause.Stuck failed) = refl
abort_places job tx cause.Asked = refl
abort_places job tx cause.NoMemory = refl
abort_places job tx (cause.Conflict object holder at) = refl
abort_places job tx (cause.Revoked object by at) = refl

-- where a block's compensation ended, memory didn't run out at a call
none_stopped : (number : ℕ) (end : UndoEnd) (last : Ask) → StopsIn (phase_after number end) last []
none_stopped number (Undone faults) last = refl
none_stopped number (Failed done faults) last = refl
none_stopped number (Blocked by) last = refl

-- a mark's cause isn't lack of memory
revoked_stops : (m : Mark) (last : Ask) → StopsIn (Undoing (revoked m)) last []
revoked_stops m last = refl

module _ (s : Setting) (at : ℕ) (old : Moment) (job : JobView) (new : Moment) (stands : slice_get old.jobs at ≡ Some job)
    (told : StoriesHold s (length old.words) old.marks old.journal old.jobs) (lasts : List Ask) (h : HandlesAgree s lasts old.journal old.jobs old.calls) where
  -- the handles of the new moment
  abbrev After : Type 0
  After = HandlesAgree s (lasts_behind (asked_at s job) old.journal new.journal lasts) new.journal new.jobs new.calls

  -- what the job's active transaction made
  abbrev was : MadeAt s job h.under_way at
  was = there s lasts old.journal old.jobs old.calls at job stands h

  -- with these asks, this journal and these jobs
  become : (asked : List Ask) (journal : List Entry) (jobs : List JobView) → lasts_behind (asked_at s job) old.journal new.journal lasts ≡ asked
      → new.journal ≡ journal → new.jobs ≡ jobs → HandlesAgree s asked journal jobs new.calls → After
  become asked journal jobs l p q so =
      subst (λ (xs : List Ask). HandlesAgree s xs new.journal new.jobs new.calls) (sym l)
      (subst (λ (es : List Entry). HandlesAgree s asked es new.jobs new.calls) (sym p)
      (subst (λ (js : List JobView). HandlesAgree s asked journal js new.calls) (sym q) so))

  -- where an entry comes
  enters_as : (e : Entry) (jobs : List JobView) → new.journal ≡ old.journal ++ e ∷ [] → new.jobs ≡ jobs
      → HandlesAgree s (lasts ++ asked_at s job ∷ []) (old.journal ++ e ∷ []) jobs new.calls → After
  enters_as e jobs p q so =
      become (lasts ++ asked_at s job ∷ []) (old.journal ++ e ∷ []) jobs (lasts_grow _ _ _ lasts e p) p q so

  -- the job goes on, and made more calls
  goes_on : (job' : JobView) (made' more : List HostCallKind) → job'.me.places ≡ job.me.places → MadeBy s job' (active_of job') made'
      → ((kind : HostCallKind) → times kind made' ≡ times kind was.made + times kind more) → IsCalled more old.calls new.calls
      → new.journal ≡ old.journal → new.jobs ≡ slice_set old.jobs at job' → After
  goes_on job' made' more same by grown used p q =
      become lasts old.journal (slice_set old.jobs at job') (lasts_stay _ _ _ lasts p) p q
      (stays_handled s lasts old.journal old.jobs old.calls at job stands h job' made' more new.calls same by grown used)

  -- as many as before
  same_times : (made' : List HostCallKind) → ((kind : HostCallKind) → times kind made' ≡ times kind was.made) → (kind : HostCallKind)
      → times kind made' ≡ times kind was.made + times kind []
  same_times made' same kind =
      let none : times kind [] ≡ 0 = refl in
      let own = same kind in
      omega (arith, none, own)

  -- the job's story
  follows : (f : Following) × (slice_get (progress_of s.script old.journal).jobs at ≡ Some f)
  follows = get_beside (progress_of s.script old.journal).jobs old.jobs at job told.count stands

  story : StoryHolds s (begun_count old) (length old.journal) follows.0 job
  story = told.jobs_told at follows.0 job follows.1 stands

  -- ---- no active transaction
  -- then the job made none
  module _ (idle : active_of job ≡ None) where
    none_made : was.made ≡ []
    none_made = subst (λ (o : Option TxView). MadeBy s job o was.made) idle was.by

    none_times : (kind : HostCallKind) → times kind [] ≡ times kind was.made
    none_times kind = ap (times kind) (sym none_made)

    -- from none to none
    rests : (job' : JobView) → job'.me.places ≡ job.me.places → active_of job' ≡ None → new.journal ≡ old.journal → new.jobs ≡ slice_set old.jobs at job'
        → ((kind : HostCallKind) → new.calls kind ≡ old.calls kind) → After
    rests job' same none p q calls = goes_on job' [] [] same (idle_made s job' none) (same_times [] none_times) calls p q

    by_idle : job.doing ≡ Idle → (answer : Turn) → IdleTurn (mover s at old job) answer new → After
    by_idle is (turn.Ended end) row =
        rests (record job { doing = Ended end }) refl refl (ap (λ (n : Moment). n.journal) row.1) (ap (λ (n : Moment). n.jobs) row.1)
        (λ kind. ap (λ (n : Moment). n.calls kind) row.1)
    by_idle is turn.Went row =
        let number = begun_count old + 1 in
        let job' = beginning_job old job in
        goes_on job' [] [] refl (begun_made s job' number (rank_of job.attempts number) (length old.journal) job.me story.fresh refl)
        (same_times [] none_times) (λ kind. ap (λ (n : Moment). n.calls kind) row.1)
        (ap (λ (n : Moment). n.journal) row.1) (ap (λ (n : Moment). n.jobs) row.1)
    by_idle is (turn.Busy object number) row =
        rests (record job { busy = job.busy + 1 }) refl (ap active_in is) (ap (λ (n : Moment). n.journal) row.1) (ap (λ (n : Moment). n.jobs) row.1)
        (λ kind. ap (λ (n : Moment). n.calls kind) row.1)
    by_idle is turn.NoMemory row =
        rests job refl idle (ap (λ (n : Moment). n.journal) row.2) (ap (λ (n : Moment). n.jobs) row.2 ∙ sym (set_itself old.jobs at job stands))
        (λ kind. ap (λ (n : Moment). n.calls kind) row.2)

    by_starved : (answer : Turn) → StarvedTurn (mover s at old job) answer new → After
    by_starved (turn.Ended job_end.NoMemory) row =
        rests (record job { doing = Ended job_end.NoMemory }) refl refl (ap (λ (n : Moment). n.journal) row.1) (ap (λ (n : Moment). n.jobs) row.1)
        (λ kind. ap (λ (n : Moment). n.calls kind) row.1)
    by_starved (turn.Ended job_end.Done) row = absurd row
    by_starved (turn.Ended (job_end.GaveUp c)) row = absurd row
    by_starved (turn.Ended job_end.JournalFull) row = absurd row
    by_starved turn.Went row =
        rests (record job { doing = Idle }) refl refl (ap (λ (n : Moment). n.journal) row.1) (ap (λ (n : Moment). n.jobs) row.1)
        (λ kind. ap (λ (n : Moment). n.calls kind) row.1)
    by_starved (turn.Busy object holder) row = absurd row
    by_starved turn.NoMemory row = absurd row

  module _ (tx : TxView) (is : job.doing ≡ Active tx) where
    -- what it made
    made : HasMade s job tx was.made
    made = subst (λ (d : Doing). MadeBy s job (active_in d) was.made) is was.by

    under : IsUnderway s follows.0 job.place (asked_at s job) tx
    under = subst (IsDoing s (begun_count old) follows.0 job) is story.doing

    -- each call has its reply
    each : length tx.calls ≡ length tx.replies
    each = in_time-count tx.calls tx.replies under.in_time

    -- part by part
    made_times : (kind : HostCallKind)
        → times kind was.made ≡ times kind made.body + times kind made.stops + times kind made.backs + times kind made.lates
    made_times kind = ap (times kind) made.all ∙ parts_times kind made.body made.stops made.backs made.lates

    -- in its phase
    in_phase : (p : Phase) → tx.phase ≡ p → IsInPhase s job.place (asked_at s job) tx p
    in_phase p q = subst (IsInPhase s job.place (asked_at s job) tx) q under.phase

    -- the job with the transaction like this, in this place
    abbrev going : Position → ℕ → TxView → JobView
    going place busy tx' = record job { place = place; busy = busy; doing = Active tx' }

    -- it goes on, and made more calls
    moves : (place : Position) (busy : ℕ) (tx' : TxView) (made' more : List HostCallKind) → HasMade s (going place busy tx') tx' made'
        → ((kind : HostCallKind) → times kind made' ≡ times kind was.made + times kind more) → IsCalled more old.calls new.calls
        → new.journal ≡ old.journal → new.jobs ≡ slice_set old.jobs at (going place busy tx') → After
    moves place busy tx' made' more by grown used p q = goes_on (going place busy tx') made' more refl by grown used p q

    -- it goes over to another phase, and no host is called
    turns : (place : Position) (busy : ℕ) (p : Phase) → made.stops ≡ [] → ((last : Ask) → StopsIn p last [])
        → ((kind : HostCallKind) → new.calls kind ≡ old.calls kind)
        → new.journal ≡ old.journal → new.jobs ≡ slice_set old.jobs at (going place busy (record tx { phase = p })) → After
    turns place busy p none stopped calls =
        let tx' = record tx { phase = p } in
        let so : HasMade s (going place busy tx') tx' was.made = record {
          body = made.body;
          stops = made.stops;
          backs = made.backs;
          lates = made.lates;
          calls = made.calls;
          stopped = subst (StopsIn p (asked_at s (going place busy tx'))) (sym none) (stopped (asked_at s (going place busy tx')));
          undone = made.undone;
          ended = made.ended;
          all = made.all;
        } in
        moves place busy tx' was.made [] so (same_times was.made (λ kind. refl)) calls

    -- ---- a running one
    module _ (runs : tx.phase ≡ Running) where
      none_yet : made.stops ≡ []
      none_yet = subst (λ (x : Phase). StopsIn x (asked_at s job) made.stops) runs made.stopped

      call_handled : (c : Call) → is_back c ≡ false → Calls (mover s at old job) tx c new → After
      call_handled c ahead row =
          let (more, named, used) = row.uses in
          let tx' = noting tx c row.reply (claims_at old tx c) row.parts in
          let so : HasMade s (answered_with job row.place tx') tx' ((made.body ++ more) ++ made.stops ++ made.backs ++ made.lates) = record {
            body = made.body ++ more;
            stops = made.stops;
            backs = made.backs;
            lates = made.lates;
            calls = called_handled tx c row.reply (claims_at old tx c) row.parts (handled_anew job.me.places) made.body more ahead each
                row.checked row.after named made.calls;
            stopped = subst (λ (x : Phase). StopsIn x (asked_at s (answered_with job row.place tx')) made.stops) (sym runs) none_yet;
            undone = subst (λ (u : Records). BacksMake u.ended made.backs) (sym row.undo) made.undone;
            ended = other_lates tx.late (tx.late ++ kept_call c tx.me row.reply) tx.ends made.lates (in_phase Running runs).no_ends made.ended;
            all = refl;
          } in
          goes_on (answered_with job row.place tx') ((made.body ++ more) ++ made.stops ++ made.backs ++ made.lates) more refl so
          (λ kind.
          let before = made_times kind in
          let after = parts_times kind (made.body ++ more) made.stops made.backs made.lates in
          let own = times_append kind made.body more in
          omega (arith, before, after, own))
          used (ap (λ (n : Moment). n.journal) row.behind) (ap (λ (n : Moment). n.jobs) row.behind)

      by_call : (c : Call) → CalledTurn (mover s at old job) tx c new → After
      by_call call.Back row =
          turns row.place job.busy Backing none_yet (λ last. refl) (λ kind. ap (λ (n : Moment). n.calls kind) row.behind)
          (ap (λ (n : Moment). n.journal) row.behind) (ap (λ (n : Moment). n.jobs) row.behind)
      by_call c (inl row) = call_handled c refl row
      by_call c (inr row) =
          turns row.place job.busy (Undoing (cause.Conflict row.object row.holder (length old.journal))) none_yet (λ last. refl)
          (λ kind. ap (λ (n : Moment). n.calls kind) row.behind)
          (ap (λ (n : Moment). n.journal) row.behind) (ap (λ (n : Moment). n.jobs) row.behind)

      by_ask : (a : Ask) → AskedTurn (mover s at old job) tx a new → After
      by_ask (ask.Call c) row = by_call c row
      by_ask ask.Commit row =
          turns row.place job.busy Committing none_yet (λ last. refl) (λ kind. ap (λ (n : Moment). n.calls kind) row.behind)
          (ap (λ (n : Moment). n.journal) row.behind) (ap (λ (n : Moment). n.jobs) row.behind)
      by_ask ask.Abort row =
          turns row.place job.busy (Undoing cause.Asked) none_yet (λ last. refl) (λ kind. ap (λ (n : Moment). n.calls kind) row.behind)
          (ap (λ (n : Moment). n.journal) row.behind) (ap (λ (n : Moment). n.jobs) row.behind)
      by_ask ask.End row = absurd row

      wants_handled : Wants (mover s at old job) tx new → After
      wants_handled row =
          let (more, named, used) = row.uses in
          let tx' = wanting tx row.left row.held in
          let so : HasMade s (going row.place job.busy tx') tx' (made.body ++ more ++ made.backs ++ made.lates) = record {
            body = made.body;
            stops = more;
            backs = made.backs;
            lates = made.lates;
            calls = made.calls;
            stopped = subst (λ (a : Ask). StopsAt a more) (sym (asked_same s job row.place row.same)) named;
            undone = made.undone;
            ended = made.ended;
            all = refl;
          } in
          moves row.place job.busy tx' (made.body ++ more ++ made.backs ++ made.lates) more so
          (λ kind.
          let before = made_times kind in
          let none : times kind made.stops ≡ 0 = ap (times kind) none_yet in
          let after = parts_times kind made.body more made.backs made.lates in
          omega (arith, before, none, after))
          used (ap (λ (n : Moment). n.journal) row.behind) (ap (λ (n : Moment). n.jobs) row.behind)

      by_running : (answer : Turn) → RunningTurn (mover s at old job) tx answer new → After
      by_running turn.Went row = by_ask (asked_at s job) row
      by_running turn.NoMemory row = wants_handled row
      by_running (turn.Busy object holder) row =
          turns row.place (job.busy + 1) tx.phase none_yet (λ last. subst (λ (x : Phase). StopsIn x last []) (sym runs) refl)
          (λ kind. ap (λ (n : Moment). n.calls kind) row.behind)
          (ap (λ (n : Moment). n.journal) row.behind) (ap (λ (n : Moment). n.jobs) row.behind)
      by_running (turn.Ended end) row = absurd row

      by_mark : (m : Option Mark) (answer : Turn) → MarkedTurn (mover s at old job) tx m answer new → After
      by_mark None answer row = by_running answer row
      by_mark (Some m) turn.Went row =
          turns job.place job.busy (Undoing (revoked m)) none_yet (revoked_stops m) (λ kind. ap (λ (n : Moment). n.calls kind) row)
          (ap (λ (n : Moment). n.journal) row) (ap (λ (n : Moment). n.jobs) row)
      by_mark (Some m) _ row = absurd row

    -- one more compensation ended
    tried : (p : Phase) (older : List Undo) (undo : Undo) (end : UndoEnd) → StopsIn p (asked_at s job) made.stops
        → HasCalled (BacksFor undo end) old new → new.journal ≡ old.journal
        → new.jobs ≡ slice_set old.jobs at
        (going job.place job.busy (record tx { phase = p; undo = record { pending = older; ended = (undo, end) ∷ tx.undo.ended } })) → After
    tried p older undo end stopped (more, named, used) =
        let tx' = record tx { phase = p; undo = record { pending = older; ended = (undo, end) ∷ tx.undo.ended } } in
        let so : HasMade s (going job.place job.busy tx') tx' (made.body ++ made.stops ++ (made.backs ++ more) ++ made.lates) = record {
          body = made.body;
          stops = made.stops;
          backs = made.backs ++ more;
          lates = made.lates;
          calls = made.calls;
          stopped = stopped;
          undone = (made.backs, more, made.undone, named, refl);
          ended = made.ended;
          all = refl;
        } in
        moves job.place job.busy tx' (made.body ++ made.stops ++ (made.backs ++ more) ++ made.lates) more so
        (λ kind.
        let before = made_times kind in
        let after = parts_times kind made.body made.stops (made.backs ++ more) made.lates in
        let own = times_append kind made.backs more in
        omega (arith, before, after, own))
        used

    -- ---- one whose block goes back
    module _ (backs : tx.phase ≡ Backing) where
      none_back : made.stops ≡ []
      none_back = subst (λ (x : Phase). StopsIn x (asked_at s job) made.stops) backs made.stopped

      block_back : (kept : SavedView) → tx.saved ≡ Some kept → EndsBack (mover s at old job) tx kept new → After
      block_back kept opened row =
          let tx' = backed tx kept in
          let phase = in_phase Backing backs in
          let so : HasMade s (answered_with job row.place tx') tx' ((made.body ++ made.backs) ++ [] ++ [] ++ made.lates) = record {
            body = made.body ++ made.backs;
            stops = [];
            backs = [];
            lates = made.lates;
            calls = backed_handled tx kept (handled_anew job.me.places) made.body made.backs opened each phase.undone made.undone made.calls;
            stopped = refl;
            undone = refl;
            ended = other_lates tx.late kept.late tx.ends made.lates phase.no_ends made.ended;
            all = refl;
          } in
          goes_on (answered_with job row.place tx') ((made.body ++ made.backs) ++ [] ++ [] ++ made.lates) [] refl so
          (same_times ((made.body ++ made.backs) ++ [] ++ [] ++ made.lates) (λ kind.
          let before = made_times kind in
          let none : times kind made.stops ≡ 0 = ap (times kind) none_back in
          let nil : times kind [] ≡ 0 = refl in
          let after = parts_times kind (made.body ++ made.backs) [] [] made.lates in
          let own = times_append kind made.body made.backs in
          omega (arith, before, none, nil, after, own)))
          (λ kind. ap (λ (n : Moment). n.calls kind) row.behind) (ap (λ (n : Moment). n.journal) row.behind) (ap (λ (n : Moment). n.jobs) row.behind)

      by_block : (kept : SavedView) (b : Bool) → tx.saved ≡ Some kept → BackingRow (mover s at old job) tx kept b new → After
      by_block kept true opened row =
          tried (phase_after (length row.older + 1) row.end) row.older row.tried row.end
          (subst (StopsIn (phase_after (length row.older + 1) row.end) (asked_at s job)) (sym none_back)
          (none_stopped (length row.older + 1) row.end (asked_at s job)))
          row.uses (ap (λ (n : Moment). n.journal) row.behind) (ap (λ (n : Moment). n.jobs) row.behind)
      by_block kept false opened row = block_back kept opened row

      by_open : (o : Option SavedView) → tx.saved ≡ o → OpenRow (mover s at old job) tx o new → After
      by_open None opened row = absurd row
      by_open (Some kept) opened row = by_block kept (nat_lt (length kept.trail) (length tx.undo.pending)) opened row

      by_backing : (answer : Turn) → BackingTurn (mover s at old job) tx answer new → After
      by_backing turn.Went row = by_open tx.saved refl row
      by_backing turn.NoMemory row = absurd row
      by_backing (turn.Busy object holder) row = absurd row
      by_backing (turn.Ended end) row = absurd row

      by_mark_back : (m : Option Mark) (answer : Turn) → MarkedBack (mover s at old job) tx m answer new → After
      by_mark_back None answer row = by_backing answer row
      by_mark_back (Some m) turn.Went row =
          turns job.place job.busy (Undoing (revoked m)) none_back (revoked_stops m) (λ kind. ap (λ (n : Moment). n.calls kind) row)
          (ap (λ (n : Moment). n.journal) row) (ap (λ (n : Moment). n.jobs) row)
      by_mark_back (Some m) _ row = absurd row

    -- ---- one that commits
    late_handled : (c : LateCall) (calls : List LateCall) → late_left tx ≡ c ∷ calls → (row : Ends at old job tx new)
        → HasCalled (LatesFor c row.end) old new → After
    late_handled c calls left row (more, named, used) =
        let tx' = record tx { ends = tx.ends ++ row.end ∷ [] } in
        let so : HasMade s (going job.place job.busy tx') tx' (made.body ++ made.stops ++ made.backs ++ (made.lates ++ more)) = record {
          body = made.body;
          stops = made.stops;
          backs = made.backs;
          lates = made.lates ++ more;
          calls = made.calls;
          stopped = made.stopped;
          undone = made.undone;
          ended = lates_more tx.late tx.ends c calls row.end made.lates more left made.ended named;
          all = refl;
        } in
        moves job.place job.busy tx' (made.body ++ made.stops ++ made.backs ++ (made.lates ++ more)) more so
        (λ kind.
        let before = made_times kind in
        let after = parts_times kind made.body made.stops made.backs (made.lates ++ more) in
        let own = times_append kind made.lates more in
        omega (arith, before, after, own))
        used row.journal row.jobs

    commit_handled : tx.phase ≡ Committing → LateTurn (mover s at old job) tx [] new → After
    commit_handled commits row =
        let phase = in_phase Committing commits in
        enters_as _ _ (ap (λ (n : Moment). n.journal) row.0) (ap (λ (n : Moment). n.jobs) row.0)
        (committed_handled s lasts old.journal old.jobs old.calls at job stands h tx made new.calls under.kept.0
        (λ kind.
        let before = made_times kind in
        let none : times kind made.stops ≡ 0 =
        ap (times kind) (subst (λ (x : Phase). StopsIn x (asked_at s job) made.stops) commits made.stopped) in
        let backs : times kind made.backs ≡ 0 = ap (times kind) (no_backs tx.undo.ended made.backs phase.none made.undone) in
        omega (arith, before, none, backs))
        (λ kind. ap (λ (n : Moment). n.calls kind) row.0))

    by_late : tx.phase ≡ Committing → (calls : List LateCall) → late_left tx ≡ calls → LateTurn (mover s at old job) tx calls new → After
    by_late commits (c ∷ calls) left row = late_handled c calls left (next_ends s at old job tx new c row) (next_uses s at old job tx new c row)
    by_late commits [] left row = commit_handled commits row

    by_committing : tx.phase ≡ Committing → (answer : Turn) → CommittingTurn (mover s at old job) tx answer new → After
    by_committing commits turn.Went row = by_late commits (late_left tx) refl row
    by_committing commits turn.NoMemory row = absurd row
    by_committing commits (turn.Busy object holder) row = absurd row
    by_committing commits (turn.Ended end) row = absurd row

    -- ---- one rolling back
    abort_handled : (c : Cause) → tx.phase ≡ Undoing c → EntersAborted (mover s at old job) tx c new → After
    abort_handled c undoes row =
        let phase = in_phase (Undoing c) undoes in
        let report : Report = record { cause = c; records = tx.undo.ended } in
        let stopped : StopsBy c (asked_at s job) made.stops =
        subst (λ (x : Phase). StopsIn x (asked_at s job) made.stops) undoes made.stopped in
        enters_as _ _ (ap (λ (n : Moment). n.journal) row.behind) (ap (λ (n : Moment). n.jobs) row.behind)
        (aborted_handled s lasts old.journal old.jobs old.calls at job stands h tx made report (behind_abort job tx c) (made.stops ++ made.backs) new.calls
        (abort_places job tx c)
        (made.stops, made.backs, stopped, made.undone, refl)
        (idle_made s (behind_abort job tx c) (behind_abort_none job tx c))
        (λ kind.
        let before = made_times kind in
        let lates : times kind made.lates ≡ 0 = ap (times kind) (no_ends_made tx.late tx.ends made.lates phase.no_ends made.ended) in
        let own = times_append kind made.stops made.backs in
        omega (arith, before, lates, own))
        (λ kind. ap (λ (n : Moment). n.calls kind) row.behind))

    by_records : (c : Cause) → tx.phase ≡ Undoing c → (pending : List Undo) → BackTurn (mover s at old job) tx c pending new → After
    by_records c undoes [] row = abort_handled c undoes row
    by_records c undoes (u ∷ pending) row =
        tried tx.phase row.older row.tried row.end made.stopped row.uses (ap (λ (n : Moment). n.journal) row.behind) (ap (λ (n : Moment). n.jobs) row.behind)

    by_undoing : (c : Cause) → tx.phase ≡ Undoing c → (answer : Turn) → UndoingTurn (mover s at old job) tx c answer new → After
    by_undoing c undoes turn.Went row = by_records c undoes tx.undo.pending row
    by_undoing c undoes turn.NoMemory row = absurd row
    by_undoing c undoes (turn.Busy object holder) row = absurd row
    by_undoing c undoes (turn.Ended end) row = absurd row

    by_phase : (p : Phase) → tx.phase ≡ p → (answer : Turn) → ActiveTurn (mover s at old job) tx p answer new → After
    by_phase Running e answer row = by_mark e (old.marks tx.number) answer row
    by_phase Committing e answer row = by_committing e answer row
    by_phase (Undoing c) e answer row = by_undoing c e answer row
    by_phase Backing e answer row = by_mark_back e (old.marks tx.number) answer row

  by_doing : (d : Doing) → job.doing ≡ d → (answer : Turn) → TurnOf (mover s at old job) d answer new → After
  by_doing Idle is answer row = by_idle (ap active_in is) is answer row
  by_doing (Active tx) is answer row = by_phase tx is tx.phase refl answer row
  by_doing Starved is answer row = by_starved (ap active_in is) answer row
  by_doing (Ended end) is answer row = absurd row

-- a turn keeps the handles, and the count of the host's calls
pub turn_keeps_handles : (s : Setting) (at : ℕ) (old new : Moment) (answer : Turn) (lasts : List Ask) → (t : IsTurn s at old answer new)
    → StoriesHold s (length old.words) old.marks old.journal old.jobs → HandlesAgree s lasts old.journal old.jobs old.calls
    → HandlesAgree s (lasts_behind (asked_at s t.job) old.journal new.journal lasts) new.journal new.jobs new.calls
turn_keeps_handles s at old new answer lasts t told h = by_doing s at old t.job new t.there told lasts h t.job.doing refl answer t.row
