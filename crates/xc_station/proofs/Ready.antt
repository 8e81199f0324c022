-- What a turn's function may rely on, between two turns.
use Rattle.std.proofs.Common.{◌≡◌, ◌≢◌, ℕ, zero, suc, ◌+◌, ◌<◌, ◌≤◌, ◌^◌, Bool, List, [], ◌∷◌, ◌++◌, length, refl, ap, sym, ◌∙◌, subst, arith}
use Rattle.std.proofs.Common.{true, false}
use Rattle.std.proofs.lemmas.List.Elements.{All-weaker, All-contains_itself}
use Rattle.std.specs.FinMap as map
use Rattle.std.specs.Prelude.{Contains, is_some, IsSome, IsTrue, Option, slice_get, if◌then◌else◌}
use Rattle.std.specs.List.{fold}
use Rattle.std.specs.declared.option.Option.TheVariants.{None, Some}
use Rattle.xc_data.specs.declared.call.Call.{Call}
use Rattle.xc_data.specs.declared.call.LateCall.{LateCall}
use Rattle.xc_deferred.specs.Does.{IsThereFor}
use Rattle.xc_data.specs.declared.entry.Entry.{Entry}
use Rattle.xc_data.specs.declared.entry.Outcome.{Outcome}
use Rattle.xc_data.specs.declared.entry.Outcome.TheVariants.{Committed, Aborted}
use Rattle.xc_data.specs.declared.entry.JobLine.{JobLine}
use Rattle.xc_compensate.specs.Records.{NextIsCovered}
use Rattle.xc_host.specs.Model.{HostModel}
use Rattle.xc_roomy.specs.Room.{Roomy}
use Rattle.xc_txmem.specs.Overlay.{AreWithin}
use Rattle.xc_text.specs.declared.script.Script.{Script}
use Rattle.xc_text.specs.Scripts.{IsScript}
use Rattle.xc_script.specs.Ask.{transactions_at}
use Rattle.xc_script.specs.Asking.{asks}
use Rattle.xc_script.specs.Blocks.{IsInner, ask_fits, block_from}
use Rattle.xc_script.specs.Position.{Position, walk_of}
use Rattle.xc_script.proofs.Laws.{all_inner, asks_inner, begins_inner}
use Rattle.xc_model.specs.declared.phase.Attempts.{Attempts}
use Rattle.xc_model.specs.declared.rules.Rules.{Rules}
use Rattle.xc_model.specs.Setting.{Setting, setting}
use Rattle.xc_model.specs.Progress.{Following, Progress, after_entry, opening_progress, progress_of, words_left}
use Rattle.xc_model.specs.Moment.{TxView, JobView, Active, Moment, active_in, actives, failures, late_left}
use Rattle.xc_model.specs.declared.phase.Phase.TheVariants.{Running}
use Rattle.xc_model.specs.Live.{asked_by, has_clients}
use Rattle.xc_model.specs.Stories.{AreAttempts, FitsWhereItRuns, StandsAfterReplies, IsDoing, IsInPhase, IsUnderway}
use Rattle.xc_model.specs.Movers.{IsActiveAt, asked_at}
use Rattle.xc_model.proofs.Laws.{most_numbered}
use Rattle.xc_turns.proofs.Laws.{given_by_now, given_once, behind_count, passed_few}
use Rattle.xc_sentinel.specs.declared.seat.Seat.{Seat}
use Rattle.xc_sentinel.specs.Seating.{seat_in}
use Rattle.xc_station.proofs.Tracked.{nobody}
use Rattle.xc_data.specs.Private.{place_of}
use Rattle.xc_data.specs.Remaining.{objects_of}
use Rattle.xc_data.specs.declared.undo.Undo.{Undo}
use Rattle.xc_maps.specs.Keys.{num_cmp}
use Rattle.xc_world.specs.Act.Names.{next_num}
use Rattle.xc_world.specs.Beside.{AreElsewhere}
use Rattle.xc_world.specs.Modes.{claims_of}
use Rattle.xc_world.specs.Run.{item_object}
use Rattle.xc_refines.proofs.Laws.{made_empty, not_taken_from, absent_now, late_there, covered_now, open_files}
use Rattle.xc_station.specs.declared.calls.Shared.{Shared}
use Rattle.xc_station.specs.declared.job.Job.{Job}
use Rattle.xc_station.specs.declared.job.Stage.{Stage}
use Rattle.xc_station.specs.declared.job.Stage.TheVariants as stage
use Rattle.xc_station.specs.Jobs.{doing_of, job_view, job_views}
use Rattle.xc_station.specs.Lent.{AreBacked, notes_in, notes_of}
use Rattle.xc_station.proofs.Backed.{covered_below, late_below, open_below}
use Rattle.xc_station.proofs.Elsewhere.{nothing_kept_of}
use Rattle.xc_station.proofs.Lent.{kept_files}
use Rattle.xc_station.specs.Moments.{AreSingle, CanRun, IsAt, marks_of, runs, seated_as}
use Rattle.xc_station.specs.Stations.{HasRooms, IsSteady, moment}
use Rattle.xc_data.proofs.Laws.{get_map}
use Rattle.xc_station.proofs.Notes.{notes_within}
use Rattle.xc_station.proofs.Reaching.{lent_for}
use Rattle.xc_station.proofs.Rivals.{none_met}
use Rattle.xc_station.proofs.Rooms.{active_counted}
use Rattle.xc_station.proofs.Stages.{IsThere, committing_stage, running_stage, undoing_stage}

-- ---- the job's story
get_beside : {A B : Type 0} (xs : List A) (ys : List B) (i : ℕ) (y : B) → length xs ≡ length ys → slice_get ys i ≡ Some y
    → (x : A) × (slice_get xs i ≡ Some x)
get_beside xs [] i y e h = cc h
get_beside [] (b ∷ ys) i y e h = absurd (omega (arith, e))
get_beside (a ∷ xs) (b ∷ ys) zero y e h = (a, refl)
get_beside (a ∷ xs) (b ∷ ys) (suc i) y e h = get_beside xs ys i y (omega (arith, e)) h

-- an active transaction with what the journal tells of its job
pub record IsTelling (s : Setting) (job : JobView) (tx : TxView) : Type 0 where
  pub following : Following
  pub attempts : AreAttempts following job.attempts
  pub underway : IsUnderway s following job.place (asked_at s job) tx

module _ (s : Setting) (faults : ℕ) (now : Moment) (steady : IsSteady s faults now) (at : ℕ) (job : JobView) (tx : TxView)
    (stands : slice_get now.jobs at ≡ Some job) (does : job.doing ≡ Active tx) where
  -- it has one
  pub tells_story : IsTelling s job tx
  tells_story =
      let told = steady.kept.told in
      let beside = get_beside (progress_of s.script now.journal).jobs now.jobs at job told.count stands in
      let tells = told.jobs_told at beside.0 job beside.1 stands in
      record {
        following = beside.0;
        attempts = tells.attempts;
        underway = subst (IsDoing s (length now.journal + length (actives now.jobs)) beside.0 job) does tells.doing;
      }

-- ---- words are as many as the script's
count_left : (xs : List ℕ) (calls : List Call) (o : Outcome) → length (words_left xs calls o) ≡ length xs
count_left xs calls (Committed late) = behind_count xs calls
count_left xs calls (Aborted report) = refl

count_told : (script : Script) (p : Progress) (journal : List Entry) → length (fold (after_entry script) p journal).words ≡ length p.words
count_told script p [] = refl
count_told script p (e ∷ journal) = count_told script (after_entry script p e) journal ∙ count_left p.words e.calls e.outcome

-- each entry has a number, and so has the transaction that begins next
pub few_begun : (s : Setting) (faults : ℕ) (now : Moment) → IsSteady s faults now → length now.journal + length (actives now.jobs) ≤ 4294967295
few_begun s faults now steady =
    let few = steady.kept.told.few in let most = most_numbered s.script in omega (arith, few, most)

-- so they are few
pub few_words : (s : Setting) (faults : ℕ) (now : Moment) → IsSteady s faults now → length now.words ≤ 4096
few_words s faults now steady =
    let same = steady.kept.spoken.count in
    let told = count_told s.script (opening_progress s.script) now.journal in
    let few = steady.set.read.few_words in
    omega (arith, same, told, few)

-- ---- numbers that fit
failed_so : (f : Following) (attempts : Option Attempts) → AreAttempts f attempts → failures attempts ≡ length f.failed
failed_so f None are = ap length (sym are.1)
failed_so f (Some a) are = sym are.1

module _ (s : Setting) (faults : ℕ) (now : Moment) (steady : IsSteady s faults now) (at : ℕ) (job : JobView) (tx : TxView)
    (stands : slice_get now.jobs at ≡ Some job) (does : job.doing ≡ Active tx) where
  -- how many transactions its job has passed
  pub few_next : job.place.next < 2 ^ 32
  few_next =
      let told = steady.kept.told in
      let beside = get_beside (progress_of s.script now.journal).jobs now.jobs at job told.count stands in
      let tells = told.jobs_told at beside.0 job beside.1 stands in
      let underway = subst (IsDoing s (length now.journal + length (actives now.jobs)) beside.0 job) does tells.doing in
      let passed = passed_few s told.lasts now.journal told.entries at beside.0 beside.1 in
      let few = told.few in
      let most = most_numbered s.script in
      let same = underway.standing.next in
      omega (arith, passed, few, most, same)

  -- the attempts that ended in a conflict
  pub few_failures : failures job.attempts < s.rules.attempts
  few_failures =
      let t = tells_story s faults now steady at job tx stands does in
      let less = t.underway.attempts in
      let same = failed_so t.following job.attempts t.attempts in
      omega (arith, less, same)

-- ---- what is asked
-- it fits the block that is open
fits_there : (s : Setting) (f : Following) (place : Position) (tx : TxView) → IsScript s.script → StandsAfterReplies s f place tx
    → ask_fits (is_some place.saved) (asks (walk_of s.script place)) ≡ true
fits_there s f place tx read ahead =
    let walk = walk_of s.script place in
    let inner : IsInner (record { walk = walk; saved = place.saved }) =
    subst IsInner (sym ahead) (all_inner (block_from s.script f.job) tx.replies (begins_inner s.script f.job read)) in
    asks_inner (is_some place.saved) walk.variables walk.stored walk.refused walk.left inner

-- so does what a client has handed in
fits_as_asked : (s : Setting) (f : Following) (job : JobView) (tx : TxView) (live : Bool) → has_clients s.script ≡ live → IsScript s.script
    → tx.phase ≡ Running → IsUnderway s f job.place (asked_at s job) tx → ask_fits (is_some tx.saved) (asked_at s job) ≡ true
fits_as_asked s f job tx true clients read runs underway =
    subst (λ p. FitsWhereItRuns p tx.saved (asked_at s job)) runs (underway.fits clients)
fits_as_asked s f job tx false scripted read runs underway =
    ap (λ b. ask_fits (is_some tx.saved) (asked_by b s.script job.handed job.place)) scripted
    ∙ subst (λ b. ask_fits b (asks (walk_of s.script job.place)) ≡ true) underway.together
    (fits_there s f job.place tx read (underway.ahead scripted))

-- ---- seats
unseated : (o : Option Seat) → seated_as o ≡ None → o ≡ None
unseated None is = refl
unseated (Some seat) is = cc is

-- ---- what functions ask
module _ {H : Type 0} (model : HostModel H) (shared : Shared H) (journal : List Entry) (jobs : List Job) (at : ℕ) (was : Job)
    (script : Script) (rules : Rules) (faults active spare : ℕ) (lines : Roomy JobLine)
    (steady : IsSteady (setting script rules model.tells) faults (moment model shared journal jobs))
    (rooms : HasRooms shared active spare (moment model shared journal jobs) lines) where
  single : AreSingle (job_views jobs)
  single =
      given_once (setting script rules model.tells) (length shared.words) (marks_of shared.sentinels.seats) journal (job_views jobs) steady.kept.told

  -- a running job may go on
  pub may_run : (IsTrue model.tells → AreBacked (model.contents shared.host) shared.buffers.kept (job_views jobs)) → IsThere jobs at stage.Running was
      → CanRun script model shared (job_view was)
  may_run backed is =
      let s = setting script rules model.tells in
      let now = moment model shared journal jobs in
      let there = get_map job_view jobs at was is.there in
      let runs = running_stage (doing_of was) is.stage in
      let t = tells_story s faults now steady at (job_view was) runs.tx there runs.doing in
      let active : IsActiveAt now.jobs at runs.tx = (job_view was, there, ap active_in runs.doing) in
      let spoken = steady.kept.spoken.each at runs.tx active in
      let block : t.following.job.block ≡ was.place.block = sym t.underway.standing.block in
      let next : t.following.job.next ≡ was.place.next = sym t.underway.standing.next in
      let phase = subst (IsInPhase s was.place (asked_at s (job_view was)) runs.tx) runs.phase t.underway.phase in
      record {
        tx = runs.tx;
        doing = runs.doing;
        left = subst IsSome (λ i. if script.clients then Some [] else slice_get (transactions_at script (block i)) (next i)) t.underway.left;
        fits = fits_as_asked s t.following (job_view was) runs.tx (has_clients script) refl steady.set.read runs.phase t.underway;
        together = t.underway.together;
        may = record {
          running = runs.phase;
          within = subst (λ n. AreWithin n runs.tx.writes) (sym steady.kept.spoken.count) spoken.within;
          stored = t.underway.stored;
          sided = t.underway.sided;
          none = phase.none;
        };
        needs = λ tells.
            λ call free.
            lent_for s now at runs.tx (model.contents shared.host) shared.buffers.kept refl (steady.flying tells) active runs.phase
            ((backed tells).kept) call
            (none_met now.jobs at runs.tx shared.sentinels.claims rooms.claims single steady.kept.apart active
            (claims_of call runs.tx.me (length shared.words)) free);
        noted =
            let within = notes_within now.jobs at (job_view was) there in
            let mine : notes_of (job_view was) ≡ length runs.tx.taken = ap notes_in (ap active_in runs.doing) in
            let all = rooms.noted in
            omega (arith, within, mine, all);
        holds = λ o. (rooms.claims o).held at runs.tx active;
        ready = λ tells.
            let flying = steady.flying tells in
            record {
              files = λ h. open_below (model.contents shared.host) shared.buffers.kept (place_of runs.tx.me.places h)
                  (open_files s now flying at (job_view was) runs.tx there (ap active_in runs.doing) runs.phase h);
              new = ap (λ (files : map.FinMap num_cmp (List ℕ)). is_some (map.get files (next_num runs.tx.me runs.tx.number)))
                  (sym (kept_files (model.contents shared.host) shared.buffers.kept))
                  ∙ absent_now s now flying at (job_view was) runs.tx there (ap active_in runs.doing) runs.phase runs.tx.me.made (omega arith);
            };
      }

  -- so it stands at this moment
  pub stands_now : (s : Stage) → IsThere jobs at s was → IsAt model shared (moment model shared journal jobs) at (job_view was)
  stands_now s is =
      record {
        words = refl;
        contents = refl;
        faults = refl;
        calls = refl;
        kept = refl;
        there = get_map job_view jobs at was is.there;
        marks = refl;
        table = rooms.claims;
        seats = rooms.seats;
        apart = steady.kept.apart;
        single = single;
      }

  -- the newest record without an end: nothing is kept of what it speaks of, and nobody has taken from there
  module _ (backed : IsTrue model.tells → AreBacked (model.contents shared.host) shared.buffers.kept (job_views jobs))
      (is : IsThere jobs at stage.Undoing was) (older : List Undo) (u : Undo)
      (pending : (undoing_stage (doing_of was) is.stage).tx.undo.pending ≡ older ++ u ∷ []) where
    pub undo_elsewhere : IsTrue model.tells → AreElsewhere (objects_of u) shared.buffers.kept
    undo_elsewhere tells =
        let s = setting script rules model.tells in
        let back = undoing_stage (doing_of was) is.stage in
        nothing_kept_of (model.contents shared.host) shared.buffers.kept ((backed tells).kept) u
        (made_empty s (moment model shared journal jobs) (steady.flying tells) at (job_view was) back.tx back.cause older u
        (get_map job_view jobs at was is.there) (ap active_in back.doing) back.phase pending)

    pub took_elsewhere : IsTrue model.tells → (j : ℕ) (other : TxView) → IsActiveAt (job_views jobs) j other → AreElsewhere (objects_of u) other.taken
    took_elsewhere tells j other active =
        let s = setting script rules model.tells in
        let back = undoing_stage (doing_of was) is.stage in
        All-weaker (Contains other.taken) (λ item. Contains (objects_of u) (item_object item) → ⊥)
        (λ item took. not_taken_from s (moment model shared journal jobs) (steady.flying tells) at (job_view was) back.tx back.cause older u
        (get_map job_view jobs at was is.there) (ap active_in back.doing) back.phase pending j active.0 other item active.1 active.2 took)
        other.taken (All-contains_itself other.taken)

  -- a record without an end may be tried
  pub may_undo : (IsTrue model.tells → AreBacked (model.contents shared.host) shared.buffers.kept (job_views jobs)) → IsThere jobs at stage.Undoing was
      → (tx : TxView) × ((job_view was).doing ≡ Active tx) × (tx.undo.pending ≢ [])
      × (IsTrue model.tells → NextIsCovered (model.contents shared.host) tx.undo)
  may_undo backed is =
      let s = setting script rules model.tells in
      let now = moment model shared journal jobs in
      let there = get_map job_view jobs at was is.there in
      let back = undoing_stage (doing_of was) is.stage in (
        back.tx,
        back.doing,
        λ none. let lacks : back.newest ∷ back.older ≡ [] = sym back.pending ∙ none in cc lacks,
        λ tells older u pending way.
            covered_below (model.contents shared.host) shared.buffers.kept u (undo_elsewhere backed is older u pending tells)
            (covered_now s now (steady.flying tells) at (job_view was) back.tx back.cause older u there (ap active_in back.doing) back.phase pending
            way),
      )

  -- the next late call of a committing one finds its object
  pub may_end_late : (IsTrue model.tells → AreBacked (model.contents shared.host) shared.buffers.kept (job_views jobs))
      → IsThere jobs at stage.Committing was → (tx : TxView) × ((job_view was).doing ≡ Active tx) × (0 < length (late_left tx))
      × (IsTrue model.tells → (call : LateCall) (calls : List LateCall) → late_left tx ≡ call ∷ calls → IsThereFor (model.contents shared.host) call)
  may_end_late backed is =
      let s = setting script rules model.tells in
      let now = moment model shared journal jobs in
      let there = get_map job_view jobs at was is.there in
      let mine = committing_stage (doing_of was) is.stage in (
        mine.tx,
        mine.doing,
        omega (arith, ap length mine.left),
        λ tells call calls left.
            late_below (model.contents shared.host) shared.buffers.kept ((backed tells).kept) call
            (late_there s now (steady.flying tells) at (job_view was) mine.tx call calls there (ap active_in mine.doing) mine.phase left),
      )

  -- the next transaction has no seat yet
  pub next_unseated : seat_in shared.sentinels.seats (length journal + active + 1) ≡ None
  next_unseated =
      let counted = rooms.count in
      unseated (seat_in shared.sentinels.seats (length journal + active + 1))
      (nobody (λ n. seated_as (seat_in shared.sentinels.seats n)) (λ (t : TxView). Some (t.rank, runs t.phase)) (job_views jobs) rooms.seats
      (length journal + active + 1)
      (λ j t a. let few = (given_by_now (setting script rules model.tells) (length shared.words) (marks_of shared.sentinels.seats) journal (job_views jobs)
      steady.kept.told j t a).1 in omega (arith, few, counted)))

  -- numbers that fit, of a job with an active transaction
  pub fits_next : (s : Stage) (tx : TxView) → IsThere jobs at s was → doing_of was ≡ Active tx → was.place.next < 2 ^ 32
  fits_next s tx is does = few_next (setting script rules model.tells) faults (moment model shared journal jobs) steady at (job_view was) tx
      (get_map job_view jobs at was is.there) does

  -- and attempts
  pub fits_failures : (s : Stage) (tx : TxView) → IsThere jobs at s was → doing_of was ≡ Active tx → rules.attempts < 2 ^ 32
      → failures was.attempts + 1 < 2 ^ 32
  fits_failures s tx is does fits =
      let few = few_failures (setting script rules model.tells) faults (moment model shared journal jobs) steady at (job_view was) tx
      (get_map job_view jobs at was is.there) does in omega (arith, few, fits)

  -- each active one has its room
  pub active_has_room : (s : Stage) (tx : TxView) → IsThere jobs at s was → doing_of was ≡ Active tx → (1 ≤ active) × (1 ≤ spare)
  active_has_room s tx is does = active_counted shared active spare (moment model shared journal jobs) lines at (job_view was) tx
      (get_map job_view jobs at was is.there) (ap active_in does) rooms
