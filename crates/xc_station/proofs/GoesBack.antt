-- A job whose transaction's block goes back takes its turn: what it needs, and what the station keeps.
use Rattle.std.proofs.Common.{◌≡◌, ◌≢◌, inl, inr, Option, ℕ, ◌+◌, List, [], ◌∷◌, ◌++◌, length, refl, ap, sym, ◌∙◌, subst, arith, IsTrue}
use Rattle.std.specs.Prelude.{All, Contains, slice_get, slice_set, is_some, IsSome}
use Rattle.std.specs.declared.option.Option.TheVariants.{None, Some}
use mathlib.Core.Logic.{dite}
use native.Mathlib.Decide.{ℕ_discrete}
use Rattle.std.proofs.lemmas.List.Elements.{All-contains, All-contains_itself, All-weaker}
use Rattle.xc_data.specs.Remaining.{objects_of}
use Rattle.xc_data.specs.declared.call.LateCall.{LateCall}
use Rattle.xc_data.specs.declared.entry.Entry.{Entry}
use Rattle.xc_data.specs.declared.entry.JobLine.{JobLine}
use Rattle.xc_data.specs.declared.entry.KeptItem.{KeptItem}
use Rattle.xc_data.specs.declared.entry.Mark.{Mark}
use Rattle.xc_data.specs.declared.entry.Turn.{Turn}
use Rattle.xc_data.specs.declared.object.Object.TheVariants as object
use Rattle.xc_data.specs.declared.undo.Undo.{Undo}
use Rattle.xc_data.specs.Step.{Step}
use Rattle.xc_data.proofs.Laws.{get_map, get_set_same, get_set_other, map_set, ones}
use Rattle.xc_host.specs.Contents.{Contents, contents_of, world_of}
use Rattle.xc_host.specs.Model.{HostModel}
use Rattle.xc_roomy.specs.Room.{Roomy}
use Rattle.xc_text.specs.declared.script.Script.{Script}
use Rattle.xc_world.specs.Beside.{AreElsewhere}
use Rattle.xc_world.specs.Effects.{undone_to}
use Rattle.xc_world.specs.Run.{item_object}
use Rattle.xc_model.specs.declared.phase.Phase.{Phase}
use Rattle.xc_model.specs.declared.phase.Phase.TheVariants as phase
use Rattle.xc_model.specs.declared.rules.Rules.{Rules}
use Rattle.xc_model.specs.Moment.{Active, Doing, Ended, Idle, JobView, Moment, SavedView, Starved, TxView, active_in, active_of, late_left, revoked, with_job}
use Rattle.xc_model.specs.Movers.{IsActiveAt, asked_at, mover, with_tx}
use Rattle.xc_model.specs.Progress.{Following}
use Rattle.xc_model.specs.Rows.{IsTurn}
use Rattle.xc_model.specs.Setting.{Setting, setting}
use Rattle.xc_model.specs.Stories.{IsAboveSave, IsBacking, IsInPhase}
use Rattle.xc_refines.proofs.Laws.{made_empty, not_taken_from, covered_now, row_cuts_back}
use Rattle.xc_refines.specs.InFlight.{AreInFlight}
use Rattle.xc_station.specs.Backs.{AllBackSafely, BacksSafely, CanGoBack, CanStepBack, IsBackRow}
use Rattle.xc_station.specs.Jobs.{doing_of, doing_view, job_view, job_views, phase_stage, back_stage, late_stage, stage_of, started_in}
use Rattle.xc_station.specs.Lent.{AreBacked, IsBacked, Lent, notes_in, notes_of}
use Rattle.xc_station.specs.Moments.{Front, front_of, moved, runs}
use Rattle.xc_station.specs.Returning.{PutsBack, Returns, TriesNewest}
use Rattle.xc_station.specs.Stations.{HasRooms, IsSteady, moment}
use Rattle.xc_station.specs.declared.calls.Shared.{Shared}
use Rattle.xc_station.specs.declared.job.Activity.{Activity}
use Rattle.xc_station.specs.declared.job.Activity.TheVariants as activity
use Rattle.xc_station.specs.declared.job.Job.{Job}
use Rattle.xc_station.specs.declared.job.Stage.TheVariants as stage
use Rattle.xc_station.specs.declared.tx.Tx.{Tx}
use Rattle.xc_station.proofs.Backed.{backed_undone, covered_below}
use Rattle.xc_station.proofs.Closed.{its_active}
use Rattle.xc_station.proofs.Elsewhere.{nothing_kept_of}
use Rattle.xc_station.proofs.Giving.{given_all}
use Rattle.xc_station.proofs.Notes.{backed_jobs, notes_within}
use Rattle.xc_host.proofs.Laws.{data_keeps_itself}
use Rattle.xc_station.proofs.Ready.{tells_story}
use Rattle.xc_station.proofs.Rooms.{rooms_set}
use Rattle.xc_station.proofs.Stages.{HasPhase as InPhase, IsThere}
use Rattle.xc_station.proofs.TurnRows.{moment_set, phase_turned}
use Rattle.xc_station.proofs.Waiting.{none_without}

-- ---- its stage
late_no : (late : List LateCall) → late_stage late ≡ stage.Backing → ⊥
late_no [] e = cc e
late_no (c ∷ cs) e = cc e

back_no : (pending : List Undo) → back_stage pending ≡ stage.Backing → ⊥
back_no [] e = cc e
back_no (u ∷ us) e = cc e

backing_phase : (tx : TxView) (p : Phase) → phase_stage tx p ≡ stage.Backing → p ≡ phase.Backing
backing_phase tx phase.Running e = cc e
backing_phase tx phase.Backing e = refl
backing_phase tx phase.Committing e = absurd (late_no (late_left tx) e)
backing_phase tx (phase.Undoing c) e = absurd (back_no tx.undo.pending e)

-- its block goes back
pub backing_stage : (d : Doing) → stage_of d ≡ stage.Backing → InPhase d phase.Backing
backing_stage Idle e = cc e
backing_stage (Active tx) e = record { tx = tx; doing = refl; phase = backing_phase tx tx.phase e }
backing_stage Starved e = cc e
backing_stage (Ended end) e = cc e

-- ---- all jobs may go back
-- with another job in one place
pub safely_set : (tries : ℕ) (jobs : List Job) (at : ℕ) (was job : Job) → slice_get jobs at ≡ Some was → BacksSafely tries job
    → AllBackSafely tries jobs → AllBackSafely tries (slice_set jobs at job)
safely_set tries jobs at was job stands safely all j other there = dite (ℕ_discrete j at)
    (λ (q : j ≡ at).
    let put = get_set_same jobs at was job stands in
    let here : slice_get (slice_set jobs at job) at ≡ Some other = subst (λ k. slice_get (slice_set jobs at job) k ≡ Some other) q there in
    let one : job ≡ other = cc (put, here) in
    subst (BacksSafely tries) one safely)
    (λ (ne : j ≢ at). all j other (sym (get_set_other jobs at j job ne) ∙ there))

-- a job with an active transaction does it
active_there : (tx : Tx) (a : Activity) (t : TxView) → doing_view tx a ≡ Active t → a ≡ activity.Active
active_there tx activity.Active t is = refl
active_there tx activity.Idle t is = cc is
active_there tx activity.Starved t is = cc is
active_there tx (activity.Ended end) t is = cc is

-- so one may whose block goes back
pub may_go_back : (tries : ℕ) (jobs : List Job) (at : ℕ) (was : Job) → AllBackSafely tries jobs → IsThere jobs at stage.Backing was
    → CanGoBack tries was.tx
may_go_back tries jobs at was all is =
    let mine = backing_stage (doing_of was) is.stage in
    all at was is.there (active_there was.tx was.activity mine.tx mine.doing)
    (ap (λ (t : TxView). runs t.phase) (its_active was mine.tx mine.doing) ∙ ap runs mine.phase)

-- a block is open where records are those above a save
open_in : {A : Type 0} (place : Option A) (o : Option SavedView) (pending : List Undo) → is_some place ≡ is_some o → IsAboveSave o pending → IsSome place
open_in place None pending together above = absurd above
open_in (Some values) (Some kept) pending together above = refl
open_in None (Some kept) pending together above = cc together

-- ---- what needs its next turn
some_mark : Mark
some_mark = record { object = object.Jobs; by = 0; at = 0 }

module _ {H : Type 0} (model : HostModel H) (shared : Shared H) (journal : List Entry) (jobs : List Job) (at : ℕ) (was : Job)
    (script : Script) (rules : Rules) (faults active spare : ℕ) (lines : Roomy JobLine)
    (steady : IsSteady (setting script rules model.tells) faults (moment model shared journal jobs))
    (rooms : HasRooms shared active spare (moment model shared journal jobs) lines) (is : IsThere jobs at stage.Backing was) where
  abbrev s : Setting
  s = setting script rules model.tells

  abbrev now : Moment
  now = moment model shared journal jobs

  there : slice_get (job_views jobs) at ≡ Some (job_view was)
  there = get_map job_view jobs at was is.there

  pub mine : InPhase (doing_of was) phase.Backing
  mine = backing_stage (doing_of was) is.stage

  -- its story
  pub goes_back : (f : Following) × IsBacking s was.place (asked_at s (job_view was)) mine.tx × (is_some was.place.saved ≡ is_some mine.tx.saved)
  goes_back =
      let t = tells_story s faults now steady at (job_view was) mine.tx there mine.doing in
      (t.following, subst (IsInPhase s was.place (asked_at s (job_view was)) mine.tx) mine.phase t.underway.phase, t.underway.together)

  -- it has started no job
  pub none_backing : started_in script (job_view was) (doing_of was) ≡ []
  none_backing = none_without script (job_view was) mine.tx mine.doing goes_back.1.no_ends

  -- were it marked, it would undo from here on
  abbrev cut : TxView
  cut = record mine.tx { phase = phase.Undoing (revoked some_mark) }

  abbrev behind : Moment
  behind = with_job now at (with_tx (job_view was) was.place cut)

  cut_there : slice_get behind.jobs at ≡ Some (with_tx (job_view was) was.place cut)
  cut_there = get_set_same (job_views jobs) at (job_view was) (with_tx (job_view was) was.place cut) there

  cut_flies : IsTrue model.tells → AreInFlight s behind
  cut_flies tells = row_cuts_back s now at (job_view was) there steady.kept.told (steady.flying tells) mine.tx mine.doing behind some_mark mine.phase refl

  module _ (older : List Undo) (u : Undo) (pending : mine.tx.undo.pending ≡ older ++ u ∷ []) where
    -- nothing is kept of what its newest record speaks of
    pub back_elsewhere : (IsTrue model.tells → AreBacked (model.contents shared.host) shared.buffers.kept (job_views jobs)) → IsTrue model.tells
        → AreElsewhere (objects_of u) shared.buffers.kept
    back_elsewhere backed tells =
        nothing_kept_of (model.contents shared.host) shared.buffers.kept ((backed tells).kept) u
        (made_empty s behind (cut_flies tells) at (with_tx (job_view was) was.place cut) cut (revoked some_mark) older u cut_there refl refl pending)

    -- nobody has taken from there
    pub back_untaken : IsTrue model.tells → (j : ℕ) (other : TxView) → IsActiveAt (job_views jobs) j other → AreElsewhere (objects_of u) other.taken
    back_untaken tells j other act = dite (ℕ_discrete j at)
        (λ (q : j ≡ at).
        let here : slice_get (job_views jobs) at ≡ Some act.0 = subst (λ k. slice_get (job_views jobs) k ≡ Some act.0) q act.1 in
        let one : act.0 ≡ job_view was = (let both = there in cc (here, both)) in
        let its : Some mine.tx ≡ Some other = sym (ap active_in mine.doing) ∙ ap active_of (sym one) ∙ act.2 in
        let same : mine.tx ≡ other = cc its in
        subst (λ (t : TxView). AreElsewhere (objects_of u) t.taken) same (away at (with_tx (job_view was) was.place cut) cut cut_there refl))
        (λ (ne : j ≢ at).
        away j act.0 other (get_set_other (job_views jobs) at j (with_tx (job_view was) was.place cut) ne ∙ act.1) act.2)
      where
        away : (k : ℕ) (its : JobView) (tx : TxView) → slice_get behind.jobs k ≡ Some its → active_of its ≡ Some tx → AreElsewhere (objects_of u) tx.taken
        away k its tx there_too active_too =
            All-weaker (Contains tx.taken) (λ item. Contains (objects_of u) (item_object item) → ⊥)
            (λ item took. not_taken_from s behind (cut_flies tells) at (with_tx (job_view was) was.place cut) cut (revoked some_mark) older u
            cut_there refl refl pending k its tx item there_too active_too took) tx.taken (All-contains_itself tx.taken)

  -- it may take its turn
  pub may_step_back : (IsTrue model.tells → AreBacked (model.contents shared.host) shared.buffers.kept (job_views jobs))
      → CanStepBack script model shared rules.undo_tries (job_view was)
  may_step_back backed =
      let story = goes_back.1 in
      record {
        tx = mine.tx;
        doing = mine.doing;
        backing = mine.phase;
        asked = story.asked;
        settled = story.settled;
        kept = open_in was.place.saved mine.tx.saved mine.tx.undo.pending goes_back.2 story.within;
        within = story.within;
        legal = story.legal;
        undone = story.undone;
        covered = λ tells older u pending way.
            covered_below (model.contents shared.host) shared.buffers.kept u (back_elsewhere older u pending backed tells)
            (covered_now s behind (cut_flies tells) at (with_tx (job_view was) was.place cut) cut (revoked some_mark) older u cut_there refl refl
            pending way);
        away = λ tells older u pending. back_elsewhere older u pending backed tells;
        noted =
            let within = notes_within now.jobs at (job_view was) there in
            let own : notes_of (job_view was) ≡ length mine.tx.taken = ap notes_in (ap active_in mine.doing) in
            let all = rooms.noted in
            omega (arith, within, own, all);
        no_ends = story.no_ends;
      }

-- ---- after its turn
module _ {H : Type 0} (model : HostModel H) (shared : Shared H) (journal : List Entry) (jobs : List Job) (at : ℕ) (was job : Job)
    (stands : slice_get jobs at ≡ Some was) (s : Setting) (shared' : Shared H) (answer : Turn)
    (row : IsBackRow (mover s at (moment model shared journal jobs) (job_view was))
    (moved model shared' (job_view job) (moment model shared journal jobs) at) answer shared'.sentinels) where
  -- the table of turns has it
  pub backing_turned : IsThere jobs at stage.Backing was → shared'.started ≡ shared.started
      → IsTurn s at (moment model shared journal jobs) answer (moment model shared' journal (slice_set jobs at job))
  backing_turned is started =
      let old = moment model shared journal jobs in
      let new : moved model shared' (job_view job) old at ≡ moment model shared' journal (slice_set jobs at job) =
      ap (λ blocks. record (moved model shared' (job_view job) old at) { started = blocks }) (sym (ap (λ (r : Roomy (List ℕ)). r.items) started))
      ∙ sym (moment_set model shared journal jobs at was shared' journal job) in
      let own = backing_stage (doing_of was) is.stage in
      let one : own.tx ≡ row.tx = (let a = own.doing in let b = row.doing in cc (a, b)) in
      subst (λ n. IsTurn s at old answer n) new
      (phase_turned s at old (moved model shared' (job_view job) old at) (job_view was) row.tx phase.Backing answer
      (get_map job_view jobs at was stands) row.doing
      (ap (λ (t : TxView). t.phase) (sym one) ∙ own.phase) row.row)

  module _ (tx tx' : TxView) (did : doing_of was ≡ Active tx) (does : doing_of job ≡ Active tx') where
    -- what the station keeps beside
    pub rooms_backing : (active spare : ℕ) (lines : Roomy JobLine) → HasRooms shared active spare (moment model shared journal jobs) lines
        → shared'.buffers.noted + length tx.taken ≡ shared.buffers.noted + length tx'.taken
        → HasRooms shared' active spare (moment model shared' journal (slice_set jobs at job)) lines
    rooms_backing active spare lines rooms notes =
        let before : notes_of (job_view was) ≡ length tx.taken = ap (λ d. notes_in (active_in d)) did in
        let after : notes_of (job_view job) ≡ length tx'.taken = ap (λ d. notes_in (active_in d)) does in
        rooms_set shared shared' active active spare spare (moment model shared journal jobs)
        (moment model shared' journal (slice_set jobs at job)) lines at
        (job_view was) (job_view job) (get_map job_view jobs at was stands) (map_set job_view jobs at job) row.table row.seats
        (omega (arith, before, after, notes))
        (let a : ones (active_of (job_view was)) ≡ 1 = ap (λ d. ones (active_in d)) did in
        let b : ones (active_of (job_view job)) ≡ 1 = ap (λ d. ones (active_in d)) does in omega (arith, a, b))
        rooms.room rooms

-- what is kept, and what transactions have taken, is of what the host has
module _ {H : Type 0} (model : HostModel H) (shared shared' : Shared H) (jobs : List Job) (at : ℕ) (was job : Job) (tx tx' : TxView)
    (stands : slice_get jobs at ≡ Some was) (does : doing_of was ≡ Active tx) (does' : doing_of job ≡ Active tx')
    (are : AreBacked (model.contents shared.host) shared.buffers.kept (job_views jobs)) where
  abbrev c : Contents
  c = model.contents shared.host

  abbrev turn : Step (Front H)
  turn = record { old = front_of shared; new = front_of shared' }

  abbrev txs : Step TxView
  txs = record { old = tx; new = tx' }

  all_taken : All (IsBacked c) tx.taken
  all_taken = are.taken at tx (job_view was, get_map job_view jobs at was stands, ap active_in does)

  its_taken : (t : TxView) → active_of (job_view job) ≡ Some t → tx' ≡ t
  its_taken t active = let both : Some tx' ≡ Some t = ap active_in (sym does') ∙ active in cc both

  taken_backed : ((item : KeptItem) → Contains tx'.taken item → Contains tx.taken item) → All (IsBacked c) tx'.taken
  taken_backed among =
      All-weaker (Contains tx'.taken) (IsBacked c) (λ item at'. All-contains (IsBacked c) tx.taken item all_taken (among item at')) tx'.taken
      (All-contains_itself tx'.taken)

  -- so it is with other kept items, over the same host
  then_backed : (kept : List KeptItem) → ((item : KeptItem) → Contains tx'.taken item → Contains tx.taken item) → All (IsBacked c) kept
      → AreBacked c kept (job_views (slice_set jobs at job))
  then_backed kept among backed =
      backed_jobs c c shared.buffers.kept kept jobs at was job stands (data_keeps_itself c) backed
      (λ t active. subst (λ (x : TxView). All (IsBacked c) x.taken) (its_taken t active) (taken_backed among)) are

  -- so it is after the turn
  pub backed_back : IsTrue model.tells → Returns model turn txs
      → ((older : List Undo) (u : Undo) → tx.undo.pending ≡ older ++ u ∷ [] → AreElsewhere (objects_of u) shared.buffers.kept)
      → ((older : List Undo) (u : Undo) → tx.undo.pending ≡ older ++ u ∷ [] → (j : ℕ) (other : TxView) → IsActiveAt (job_views jobs) j other
      → AreElsewhere (objects_of u) other.taken)
      → AreBacked (model.contents shared'.host) shared'.buffers.kept (job_views (slice_set jobs at job))
  backed_back tells r away untaken = elim r.by_turn [
    | inl t ↦ tried t
    | inr p ↦ put p
  ]
    where
      tried : TriesNewest model turn txs → AreBacked (model.contents shared'.host) shared'.buffers.kept (job_views (slice_set jobs at job))
      tried t =
          subst (λ d. AreBacked d shared'.buffers.kept (job_views (slice_set jobs at job))) (sym (t.effect tells))
          (subst (λ (l : Lent). AreBacked (contents_of (undone_to (world_of c) t.tried t.end)) l.kept (job_views (slice_set jobs at job))) (sym t.lent)
          (backed_undone c shared.buffers.kept jobs at was job t.tried t.end stands (away t.older t.tried t.newest) (untaken t.older t.tried t.newest)
          (λ x active. (
            tx,
            (job_view was, get_map job_view jobs at was stands, ap active_in does),
            sym t.taken ∙ ap (λ (y : TxView). y.taken) (its_taken x active),
          )) are))

      put : PutsBack turn txs → AreBacked (model.contents shared'.host) shared'.buffers.kept (job_views (slice_set jobs at job))
      put p =
          subst (λ h. AreBacked (model.contents h) shared'.buffers.kept (job_views (slice_set jobs at job))) (sym p.host)
          (then_backed shared'.buffers.kept r.taken
          (given_all (IsBacked c) tx.taken shared.buffers.kept shared'.buffers.kept p.among all_taken are.kept))
