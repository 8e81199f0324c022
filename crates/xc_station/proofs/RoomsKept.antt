-- What a station keeps beside its moment, after each row.
use Rattle.std.proofs.Common.{◌≡◌, ◌≢◌, inl, inr, ℕ, ◌+◌, ◌-◌, ◌<◌, ◌≤◌, Bool, true, List, length, refl, ap, sym, ◌∙◌, subst, arith, []}
use Rattle.std.specs.Prelude.{Option, slice_get, slice_set}
use Rattle.std.specs.declared.option.Option.TheVariants.{None, Some}
use Rattle.xc_data.specs.declared.call.Call.{Call}
use Rattle.xc_data.specs.declared.call.Call.TheVariants as call
use Rattle.xc_data.specs.declared.claim.Claim.{Claim}
use Rattle.xc_data.specs.declared.entry.Cause.{Cause}
use Rattle.xc_data.specs.declared.entry.Cause.TheVariants as cause
use Rattle.xc_data.specs.declared.entry.Entry.{Entry}
use Rattle.xc_data.specs.declared.entry.JobLine.{JobLine}
use Rattle.xc_data.specs.declared.entry.Mark.{Mark}
use Rattle.xc_data.specs.declared.entry.Turn.{Turn}
use Rattle.xc_data.specs.declared.entry.Turn.TheVariants as turn
use Rattle.xc_host.specs.Model.{HostModel}
use Rattle.xc_roomy.specs.Room.{Roomy}
use Rattle.xc_script.specs.declared.ask.Ask.{Ask}
use Rattle.xc_script.specs.declared.ask.Ask.TheVariants as ask
use Rattle.xc_sentinel.specs.declared.sentinels.Sentinels.{Sentinels}
use Rattle.xc_sentinel.specs.Seating.{KeepsSeats, SetsSeat, seat_in}
use Rattle.xc_locks.specs.Table.{Table, mode_in, held_mode}
use Rattle.xc_model.specs.Setting.{Setting}
use Rattle.xc_model.specs.Moment.{TxView, JobView, Active, Ended, Moment, active_in, active_of, begun_count, rank_of, asked_to_wait, with_job}
use Rattle.xc_model.specs.RunningRows.{AskedTurn, CalledTurn, MarkedTurn, RunningTurn}
use Rattle.xc_model.specs.IdleRows.{IdleTurn, beginning_job, new_tx}
use Rattle.xc_model.specs.Movers.{IsActiveAt, asked_at, mover}
use Rattle.xc_model.specs.Entering.{behind_abort}
use Rattle.xc_model.specs.Stories.{StoriesHold}
use Rattle.xc_turns.proofs.Laws.{given_once, given_by_now}
use Rattle.xc_station.specs.declared.calls.Shared.{Shared}
use Rattle.xc_station.specs.declared.job.Job.{Job}
use Rattle.xc_station.specs.Beginning.{IsSeatBehind}
use Rattle.xc_station.specs.Jobs.{doing_of, job_view, job_views}
use Rattle.xc_station.specs.Lent.{Lent, notes_in, notes_of}
use Rattle.xc_station.specs.Moments.{Frees, IsRunningRow, marks_of, moved, runs, seated_as}
use Rattle.xc_station.specs.Stations.{HasRooms, moment}
use Rattle.xc_station.proofs.Notes.{no_notes}
use Rattle.xc_data.proofs.Laws.{ones, get_map, get_set_same, map_set}
use Rattle.xc_station.proofs.Rooms.{rooms_set}
use Rattle.xc_station.proofs.Seated.{seat_there, seat_elsewhere}
use Rattle.xc_station.proofs.Tracked.{nobody, tracked_begun, tracked_ended, tracked_on, tracked_still}

-- ---- a running transaction goes on
-- the job that a row leaves in the place: its transaction has the same number and rank
pub record KeepsNumber (old new : Moment) (at : ℕ) (job : JobView) (tx : TxView) : Type 0 where
  pub behind : JobView
  pub tx' : TxView
  pub doing : behind.doing ≡ Active tx'
  pub number : tx'.number ≡ tx.number
  pub rank : tx'.rank ≡ tx.rank
  pub jobs : new.jobs ≡ slice_set old.jobs at behind

called_on : (s : Setting) (at : ℕ) (old : Moment) (job : JobView) (tx : TxView) (c : Call) (new : Moment) → CalledTurn (mover s at old job) tx c new
    → KeepsNumber old new at job tx
called_on s at old job tx call.Back new row =
    record { behind = _; tx' = _; doing = refl; number = refl; rank = refl; jobs = ap (λ (n : Moment). n.jobs) row.behind }
called_on s at old job tx c new (inl row) =
    record { behind = _; tx' = _; doing = refl; number = refl; rank = refl; jobs = ap (λ (n : Moment). n.jobs) row.behind }
called_on s at old job tx c new (inr row) =
    record { behind = _; tx' = _; doing = refl; number = refl; rank = refl; jobs = ap (λ (n : Moment). n.jobs) row.behind }

asked_on : (s : Setting) (at : ℕ) (old : Moment) (job : JobView) (tx : TxView) (a : Ask) (new : Moment) → AskedTurn (mover s at old job) tx a new
    → KeepsNumber old new at job tx
asked_on s at old job tx (ask.Call c) new row = called_on s at old job tx c new row
asked_on s at old job tx ask.Commit new row =
    record { behind = _; tx' = _; doing = refl; number = refl; rank = refl; jobs = ap (λ (n : Moment). n.jobs) row.behind }
asked_on s at old job tx ask.Abort new row =
    record { behind = _; tx' = _; doing = refl; number = refl; rank = refl; jobs = ap (λ (n : Moment). n.jobs) row.behind }
asked_on s at old job tx ask.End new row = absurd row

-- a running transaction's turn keeps its number and its rank
pub number_kept : (s : Setting) (at : ℕ) (old : Moment) (job : JobView) (tx : TxView) (answer : Turn) (new : Moment)
    → RunningTurn (mover s at old job) tx answer new
    → KeepsNumber old new at job tx
number_kept s at old job tx turn.Went new row = asked_on s at old job tx (asked_at s job) new row
number_kept s at old job tx turn.NoMemory new row =
    record { behind = _; tx' = _; doing = refl; number = refl; rank = refl; jobs = ap (λ (n : Moment). n.jobs) row.behind }
number_kept s at old job tx (turn.Busy object holder) new row =
    record { behind = _; tx' = _; doing = refl; number = refl; rank = refl; jobs = ap (λ (n : Moment). n.jobs) row.behind }
number_kept s at old job tx (turn.Ended end) new row = absurd row

marked_on : (s : Setting) (at : ℕ) (old : Moment) (job : JobView) (tx : TxView) (mark : Option Mark) (answer : Turn) (new : Moment)
    → MarkedTurn (mover s at old job) tx mark answer new → KeepsNumber old new at job tx
marked_on s at old job tx None answer new row = number_kept s at old job tx answer new row
marked_on s at old job tx (Some m) turn.Went new row =
    record { behind = _; tx' = _; doing = refl; number = refl; rank = refl; jobs = ap (λ (n : Moment). n.jobs) row }
marked_on s at old job tx (Some m) (turn.Busy object holder) new row = absurd row
marked_on s at old job tx (Some m) turn.NoMemory new row = absurd row
marked_on s at old job tx (Some m) (turn.Ended end) new row = absurd row

-- ---- after an abort nothing is active
pub back_none : (job : JobView) (tx : TxView) (c : Cause) → active_of (behind_abort job tx c) ≡ None
back_none job tx cause.Asked = refl
back_none job tx cause.NoMemory = refl
back_none job tx (cause.Conflict o holder at) = refl
back_none job tx (cause.Revoked o by at) = refl
back_none job tx (cause.Stuck failed) = refl

-- ---- at the moments of a station
module _ {H : Type 0} (model : HostModel H) (shared : Shared H) (journal : List Entry) (jobs : List Job) (at : ℕ) (was job : Job)
    (active spare : ℕ) (lines : Roomy JobLine) (stands : slice_get jobs at ≡ Some was)
    (rooms : HasRooms shared active spare (moment model shared journal jobs) lines) where
  there : slice_get (job_views jobs) at ≡ Some (job_view was)
  there = get_map job_view jobs at was stands

  -- neither has an active transaction
  pub rooms_still : (sentinels' : Sentinels) (journal' : List Entry) (spare' : ℕ) → sentinels'.claims ≡ shared.sentinels.claims
      → KeepsSeats shared.sentinels.seats sentinels'.seats → active_of (job_view was) ≡ None → active_of (job_view job) ≡ None → spare ≤ spare'
      → HasRooms (record shared { sentinels = sentinels' }) active spare' (moment model (record shared { sentinels = sentinels' }) journal'
      (slice_set jobs at job)) lines
  rooms_still sentinels' journal' spare' same kept none none' more =
      rooms_set shared (record shared { sentinels = sentinels' }) active active spare spare' (moment model shared journal jobs)
      (moment model (record shared { sentinels = sentinels' }) journal' (slice_set jobs at job)) lines at
      (job_view was) (job_view job) there (map_set job_view jobs at job)
      (λ o. tracked_still (λ n. held_mode shared.sentinels.claims n o) (λ (t : TxView). mode_in t.held o) (job_views jobs) (rooms.claims o)
      (λ n. held_mode sentinels'.claims n o) at (job_view was) (job_view job) there (λ n. ap (λ (t : Table). held_mode t n o) same) none none')
      (tracked_still (λ n. seated_as (seat_in shared.sentinels.seats n)) (λ (t : TxView). Some (t.rank, runs t.phase)) (job_views jobs) rooms.seats
      (λ n. seated_as (seat_in sentinels'.seats n)) at (job_view was) (job_view job) there (λ n. ap seated_as (kept n)) none none')
      (ap (λ n. shared.buffers.noted + n) (no_notes (job_view was) none ∙ sym (no_notes (job_view job) none')))
      (let a : ones (active_of (job_view was)) ≡ 0 = ap ones none in let b : ones (active_of (job_view job)) ≡ 0 = ap ones none' in omega (arith, a, b))
      (let room = rooms.room in omega (arith, room, more)) rooms

  -- an idle one's next has begun
  pub rooms_begun : (s : Setting) (sentinels' : Sentinels) (journal' : List Entry) (spare' : ℕ)
      → StoriesHold s (length shared.words) (marks_of shared.sentinels.seats) journal (job_views jobs)
      → sentinels'.claims ≡ shared.sentinels.claims
      → SetsSeat shared.sentinels.seats sentinels'.seats (length journal + active + 1)
      (Some (record { rank = rank_of was.attempts (length journal + active + 1); running = true; mark = None }))
      → active_of (job_view was) ≡ None → job_view job ≡ beginning_job (moment model shared journal jobs) (job_view was) → active + 1 ≤ spare'
      → HasRooms (record shared { sentinels = sentinels' }) (active + 1) spare' (moment model (record shared { sentinels = sentinels' }) journal'
      (slice_set jobs at job)) lines
  rooms_begun s sentinels' journal' spare' told same sets none begins room =
      let old = moment model shared journal jobs in
      let number = begun_count old + 1 in
      let counted : length journal + active + 1 ≡ number = ap (λ n. length journal + n + 1) (sym rooms.count) in
      let tx : TxView = new_tx number (rank_of was.attempts number) (length journal) (job_view was).me in
      let is : active_of (job_view job) ≡ Some tx = ap active_of begins in
      let above : (j : ℕ) (t : TxView) → IsActiveAt (job_views jobs) j t → t.number < number =
      λ j t a. let few = (given_by_now s (length shared.words) (marks_of shared.sentinels.seats) journal (job_views jobs) told j t a).1 in omega (arith, few) in
      let sat : SetsSeat shared.sentinels.seats sentinels'.seats number (Some (record { rank = rank_of was.attempts number; running = true; mark = None })) =
      subst (λ n. SetsSeat shared.sentinels.seats sentinels'.seats n (Some (record { rank = rank_of was.attempts n; running = true; mark = None })))
      counted sets in
      rooms_set shared (record shared { sentinels = sentinels' }) active (active + 1) spare spare' old
      (moment model (record shared { sentinels = sentinels' }) journal' (slice_set jobs at job)) lines at
      (job_view was) (job_view job) there (map_set job_view jobs at job)
      (λ o. tracked_begun (λ n. held_mode shared.sentinels.claims n o) (λ (t : TxView). mode_in t.held o) (job_views jobs) (rooms.claims o)
      (λ n. held_mode sentinels'.claims n o) at (job_view was) (job_view job) there tx none is
      (ap (λ (t : Table). held_mode t number o) same
      ∙ nobody (λ n. held_mode shared.sentinels.claims n o) (λ (t : TxView). mode_in t.held o) (job_views jobs) (rooms.claims o) number above)
      (λ n ne. ap (λ (t : Table). held_mode t n o) same) above)
      (tracked_begun (λ n. seated_as (seat_in shared.sentinels.seats n)) (λ (t : TxView). Some (t.rank, runs t.phase)) (job_views jobs) rooms.seats
      (λ n. seated_as (seat_in sentinels'.seats n)) at (job_view was) (job_view job) there tx none is
      (ap seated_as (seat_there shared.sentinels.seats sentinels'.seats number _ sat))
      (λ n ne. ap seated_as (seat_elsewhere shared.sentinels.seats sentinels'.seats number _ sat n ne)) above)
      (ap (λ n. shared.buffers.noted + n) (no_notes (job_view was) none ∙ sym (ap notes_in is)))
      (let a : ones (active_of (job_view was)) ≡ 0 = ap ones none in let b : ones (active_of (job_view job)) ≡ 1 = ap ones is in omega (arith, a, b))
      room rooms

  -- a running one goes on
  pub rooms_running : (s : Setting) (shared' : Shared H) (answer : Turn)
      → IsRunningRow (mover s at (moment model shared journal jobs) (job_view was))
      (moved model shared' (job_view job) (moment model shared journal jobs) at) answer
      shared'.sentinels
      → shared'.buffers.noted + notes_of (job_view was) ≡ shared.buffers.noted + notes_of (job_view job)
      → HasRooms shared' active spare (moment model shared' journal (slice_set jobs at job)) lines
  rooms_running s shared' answer row notes =
      let old = moment model shared journal jobs in
      let on = marked_on s at old (job_view was) row.tx (old.marks row.tx.number) answer (moved model shared' (job_view job) old at) row.row in
      let here = get_set_same (job_views jobs) at (job_view was) (job_view job) there in
      let also = get_set_same (job_views jobs) at (job_view was) on.behind there in
      let both = ap (λ js. slice_get js at) on.jobs in
      let one : job_view job ≡ on.behind = cc (here, also, both) in
      rooms_set shared shared' active active spare spare old (moment model shared' journal (slice_set jobs at job)) lines at
      (job_view was) (job_view job) there (map_set job_view jobs at job) row.table row.seats notes
      (let a : ones (active_of (job_view was)) ≡ 1 = ap (λ d. ones (active_in d)) row.doing in
      let b : ones (active_of (job_view job)) ≡ 1 = ap (λ j. ones (active_of j)) one ∙ ap (λ d. ones (active_in d)) on.doing in omega (arith, a, b))
      rooms.room rooms

  -- a committing or an undoing one goes on
  pub rooms_going : (s : Setting) (shared' : Shared H) (tx tx' : TxView)
      → StoriesHold s (length shared.words) (marks_of shared.sentinels.seats) journal (job_views jobs)
      → shared'.sentinels ≡ shared.sentinels → doing_of was ≡ Active tx → doing_of job ≡ Active tx'
      → tx'.number ≡ tx.number → tx'.held ≡ tx.held → ◌≡◌ {A = ℕ × Bool} (tx'.rank, runs tx'.phase) (tx.rank, runs tx.phase)
      → shared'.buffers ≡ shared.buffers → tx'.taken ≡ tx.taken
      → HasRooms shared' active spare (moment model shared' journal (slice_set jobs at job)) lines
  rooms_going s shared' tx tx' told same does does' number held seated lent taken =
      let single = given_once s (length shared.words) (marks_of shared.sentinels.seats) journal (job_views jobs) told in
      let mine : IsActiveAt (job_views jobs) at tx = (job_view was, there, ap active_in does) in
      rooms_set shared shared' active active spare spare (moment model shared journal jobs)
      (moment model shared' journal (slice_set jobs at job)) lines at
      (job_view was) (job_view job) there (map_set job_view jobs at job)
      (λ o. tracked_on (λ n. held_mode shared.sentinels.claims n o) (λ (t : TxView). mode_in t.held o) (job_views jobs) (rooms.claims o)
      (λ n. held_mode shared'.sentinels.claims n o) at (job_view was) (job_view job) there single tx (ap active_in does)
      (λ n ne. ap (λ (t : Sentinels). held_mode t.claims n o) same) tx' (ap active_in does') number
      (ap (λ (t : Sentinels). held_mode t.claims tx.number o) same ∙ (rooms.claims o).held at tx mine ∙ ap (λ (h : List Claim). mode_in h o) (sym held)))
      (tracked_on (λ n. seated_as (seat_in shared.sentinels.seats n)) (λ (t : TxView). Some (t.rank, runs t.phase)) (job_views jobs) rooms.seats
      (λ n. seated_as (seat_in shared'.sentinels.seats n)) at (job_view was) (job_view job) there single tx (ap active_in does)
      (λ n ne. ap (λ (t : Sentinels). seated_as (seat_in t.seats n)) same) tx' (ap active_in does') number
      (ap (λ (t : Sentinels). seated_as (seat_in t.seats tx.number)) same ∙ rooms.seats.held at tx mine ∙ ap Some (sym seated)))
      (ap (λ (b : Lent). b.noted + notes_of (job_view was)) lent
      ∙ ap (λ n. shared.buffers.noted + n) (ap (λ d. notes_in (active_in d)) does ∙ ap length (sym taken) ∙ sym (ap (λ d. notes_in (active_in d)) does')))
      (let a : ones (active_of (job_view was)) ≡ 1 = ap (λ d. ones (active_in d)) does in
      let b : ones (active_of (job_view job)) ≡ 1 = ap (λ d. ones (active_in d)) does' in omega (arith, a, b))
      rooms.room rooms

  -- one has entered
  pub rooms_entered : (s : Setting) (shared' : Shared H) (journal' : List Entry) (spare' : ℕ) (tx : TxView)
      → StoriesHold s (length shared.words) (marks_of shared.sentinels.seats) journal (job_views jobs)
      → doing_of was ≡ Active tx → active_of (job_view job) ≡ None → Frees shared.sentinels shared'.sentinels tx.number → 1 ≤ active → spare' + 1 ≡ spare
      → shared'.buffers.noted + notes_of (job_view was) ≡ shared.buffers.noted
      → HasRooms shared' (active - 1) spare' (moment model shared' journal' (slice_set jobs at job)) lines
  rooms_entered s shared' journal' spare' tx told does none freed some less notes =
      let room = rooms.room in
      let single = given_once s (length shared.words) (marks_of shared.sentinels.seats) journal (job_views jobs) told in
      rooms_set shared shared' active (active - 1) spare spare' (moment model shared journal jobs)
      (moment model shared' journal' (slice_set jobs at job)) lines at
      (job_view was) (job_view job) there (map_set job_view jobs at job)
      (λ o. tracked_ended (λ n. held_mode shared.sentinels.claims n o) (λ (t : TxView). mode_in t.held o) (job_views jobs) (rooms.claims o)
      (λ n. held_mode shared'.sentinels.claims n o) at (job_view was) (job_view job) there single tx (ap active_in does)
      (λ n ne. freed.others n o ne) none (freed.released o))
      (tracked_ended (λ n. seated_as (seat_in shared.sentinels.seats n)) (λ (t : TxView). Some (t.rank, runs t.phase)) (job_views jobs) rooms.seats
      (λ n. seated_as (seat_in shared'.sentinels.seats n)) at (job_view was) (job_view job) there single tx (ap active_in does)
      (λ n ne. ap seated_as (seat_elsewhere shared.sentinels.seats shared'.sentinels.seats tx.number None freed.seats n ne)) none
      (ap seated_as (seat_there shared.sentinels.seats shared'.sentinels.seats tx.number None freed.seats)))
      (let lacks = no_notes (job_view job) none in omega (arith, notes, lacks))
      (let a : ones (active_of (job_view was)) ≡ 1 = ap (λ d. ones (active_in d)) does in
      let b : ones (active_of (job_view job)) ≡ 0 = ap ones none in omega (arith, a, b, some))
      (omega (arith, room, some, less)) rooms

  -- an idle one's turn sets what its row says
  idle_set : (marks marks' : ℕ → Option Mark) (job' : JobView)
      → record (with_job (moment model shared journal jobs) at (job_view job)) { marks = marks }
      ≡ record (with_job (moment model shared journal jobs) at job') { marks = marks' } → job_view job ≡ job'
  idle_set marks marks' job' e =
      let here = get_set_same (job_views jobs) at (job_view was) (job_view job) there in
      let also = get_set_same (job_views jobs) at (job_view was) job' there in
      let both : Some (job_view job) ≡ Some job' = sym here ∙ (ap (λ (now : Moment). slice_get now.jobs at) e ∙ also) in
      cc both

  -- or leaves it as it was
  idle_same : (marks : ℕ → Option Mark)
      → record (with_job (moment model shared journal jobs) at (job_view job)) { marks = marks } ≡ moment model shared journal jobs
      → job_view job ≡ job_view was
  idle_same marks e =
      let both : Some (job_view job) ≡ Some (job_view was) =
      sym (get_set_same (job_views jobs) at (job_view was) (job_view job) there) ∙ (ap (λ (now : Moment). slice_get now.jobs at) e ∙ there) in
      cc both

  module _ (s : Setting) (sentinels' : Sentinels) (journal' : List Entry) (spare' : ℕ) (answer : Turn) (none : active_of (job_view was) ≡ None)
      (row : IdleTurn (mover s at (moment model shared journal jobs) (job_view was)) answer
      (record (with_job (moment model shared journal jobs) at (job_view job)) { marks = marks_of sentinels'.seats }))
      (same : sentinels'.claims ≡ shared.sentinels.claims)
      (sits : IsSeatBehind (length journal + active + 1) (rank_of was.attempts (length journal + active + 1)) shared.sentinels.seats sentinels'.seats answer)
    where
      -- an idle one's next has begun, by its row
      pub rooms_idle_went : StoriesHold s (length shared.words) (marks_of shared.sentinels.seats) journal (job_views jobs)
          → answer ≡ turn.Went → active + 1 ≤ spare'
          → HasRooms (record shared { sentinels = sentinels' }) (active + 1) spare' (moment model (record shared { sentinels = sentinels' }) journal'
          (slice_set jobs at job)) lines
      rooms_idle_went told went room =
          let old = moment model shared journal jobs in
          let new = record (with_job old at (job_view job)) { marks = marks_of sentinels'.seats } in
          let begun = subst (λ a. IdleTurn (mover s at old (job_view was)) a new) went row in
          let number = length journal + active + 1 in
          let sat = subst (IsSeatBehind number (rank_of was.attempts number) shared.sentinels.seats sentinels'.seats) went sits in
          rooms_begun s sentinels' journal' spare' told same sat none
          (idle_set (marks_of sentinels'.seats) _ (beginning_job old (job_view was)) begun.1) room

      -- it has taken nothing yet
      pub idle_untaken : (tx : TxView) → active_of (job_view job) ≡ Some tx → tx.taken ≡ []
      idle_untaken tx is = by_answer answer row
        where
          none_there : (job' : JobView) → job_view job ≡ job' → active_of job' ≡ None → tx.taken ≡ []
          none_there job' same lacks = let no : None ≡ Some tx = sym lacks ∙ (ap active_of (sym same) ∙ is) in cc no

          by_answer : (a : Turn) → IdleTurn (mover s at (moment model shared journal jobs) (job_view was)) a
              (record (with_job (moment model shared journal jobs) at (job_view job)) { marks = marks_of sentinels'.seats }) → tx.taken ≡ []
          by_answer (turn.Ended end) row =
              none_there (record (job_view was) { doing = Ended end })
              (idle_set (marks_of sentinels'.seats) _ (record (job_view was) { doing = Ended end }) row.1) refl
          by_answer (turn.Busy object number) row =
              none_there (asked_to_wait (job_view was)) (idle_set (marks_of sentinels'.seats) _ (asked_to_wait (job_view was)) row.1) none
          by_answer turn.Went row =
              let old = moment model shared journal jobs in
              let same = idle_set (marks_of sentinels'.seats) _ (beginning_job old (job_view was)) row.1 in
              let fresh : TxView = new_tx (begun_count old + 1) (rank_of was.attempts (begun_count old + 1)) (length journal) (job_view was).me in
              let one : Some fresh ≡ Some tx = ap active_of (sym same) ∙ is in
              let it : fresh ≡ tx = cc one in
              ap (λ (t : TxView). t.taken) (sym it)
          by_answer turn.NoMemory row = none_there (job_view was) (idle_same (marks_of sentinels'.seats) row.2) none

      -- or it has ended, waits, or is as before
      pub rooms_idle_halted : answer ≢ turn.Went → spare ≤ spare'
          → HasRooms (record shared { sentinels = sentinels' }) active spare' (moment model (record shared { sentinels = sentinels' }) journal'
          (slice_set jobs at job)) lines
      rooms_idle_halted halted more = by_answer answer refl row sits
        where
          by_answer : (a : Turn) → answer ≡ a
              → IdleTurn (mover s at (moment model shared journal jobs) (job_view was)) a
              (record (with_job (moment model shared journal jobs) at (job_view job)) { marks = marks_of sentinels'.seats })
              → IsSeatBehind (length journal + active + 1) (rank_of was.attempts (length journal + active + 1)) shared.sentinels.seats sentinels'.seats a
              → HasRooms (record shared { sentinels = sentinels' }) active spare' (moment model (record shared { sentinels = sentinels' }) journal'
              (slice_set jobs at job)) lines
          by_answer (turn.Ended end) is row kept =
              let none' : active_of (job_view job) ≡ None =
              ap active_of (idle_set (marks_of sentinels'.seats) _ (record (job_view was) { doing = Ended end }) row.1) in
              rooms_still sentinels' journal' spare' same kept none none' more
          by_answer (turn.Busy object number) is row kept =
              let none' : active_of (job_view job) ≡ None =
              ap active_of (idle_set (marks_of sentinels'.seats) _ (asked_to_wait (job_view was)) row.1) ∙ none in
              rooms_still sentinels' journal' spare' same kept none none' more
          by_answer turn.Went is row kept = absurd (halted is)
          by_answer turn.NoMemory is row kept =
              let none' : active_of (job_view job) ≡ None = ap active_of (idle_same (marks_of sentinels'.seats) row.2) ∙ none in
              rooms_still sentinels' journal' spare' same kept none none' more
