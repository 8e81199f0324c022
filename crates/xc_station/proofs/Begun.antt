-- An idle job that ends, or whose next transaction begins.
use Rattle.std.proofs.Common.{◌≡◌, ◌+◌, ◌<◌, ℕ, Bool, List, arith, length, true, false, refl, ap, sym, ◌∙◌, subst, is_some, IsSome}
use Rattle.std.specs.Prelude.{Option, not, slice_get, slice_set, if◌then◌else◌}
use Rattle.std.specs.declared.option.Option.TheVariants.{None, Some}
use Rattle.xc_data.specs.declared.object.Object.{Object}
use Rattle.xc_sentinel.specs.declared.seat.Seat.{Seat}
use Rattle.xc_sentinel.specs.Seated.{Seats}
use Rattle.xc_sentinel.specs.Seating.{KeepsSeats, seat_in}
use Rattle.std.specs.Prelude.{Result, Ok, Err, OnOk, OnErr}
use Rattle.std.specs.Result.{is_err}
use Rattle.xc_data.specs.declared.entry.JobEnd.{JobEnd}
use Rattle.xc_data.specs.declared.entry.JobEnd.TheVariants as job_end
use Rattle.xc_data.specs.declared.entry.Mark.{Mark}
use Rattle.xc_data.specs.declared.entry.Turn.{Turn}
use Rattle.xc_data.specs.declared.entry.Turn.TheVariants as turn
use Rattle.xc_data.specs.declared.private.Private.{Private}
use Rattle.xc_text.specs.Stated.{Statement}
use Rattle.xc_text.specs.declared.script.Script.{Script}
use Rattle.xc_script.specs.declared.ask.Ask.{Ask}
use Rattle.xc_script.specs.declared.ask.Ask.TheVariants as ask
use Rattle.xc_script.specs.Position.{Position, job_of}
use Rattle.xc_script.proofs.Laws.{live_body}
use Rattle.xc_model.specs.Live.{IsScripted, has_clients, most_entries}
use Rattle.xc_model.specs.Setting.{Setting}
use Rattle.xc_model.specs.Moment.{TxView, JobView, Active, Ended, Moment, begun_count, failures, rank_of, asked_to_wait, with_job}
use Rattle.xc_model.specs.IdleRows.{IdleTurn, IsEnding, IsOver, MayBegin, WaitsForNobody, IsWaiting, NamesLast, beginning_job, new_tx}
use Rattle.xc_model.specs.Movers.{Mover, body_at, mover}
use Rattle.xc_model.proofs.Laws.{most_numbered}
use Rattle.xc_turns.proofs.Laws.{set_itself}
use Rattle.xc_station.specs.declared.begin_tx.Halt.{Halt}
use Rattle.xc_station.specs.declared.begin_tx.Halt.TheVariants.{End, Wait}
use Rattle.xc_station.specs.Beginning.{GoesWithout, IsWaitOver, IsHalted, IsSeatBehind, IsStopped, is_end_in, is_over_in}
use Rattle.xc_station.specs.Moments.{AreSeats, HasBegun, runs, seated_as}

-- what an answer without an error tells
pub where_ok : {A E P : Type 0} (r : Result A E) → is_err r ≡ false → OnOk r P → P
where_ok (Ok x) is p = p
where_ok (Err e) is p = cc

-- and what one with an error does
pub where_err : {A E P : Type 0} (r : Result A E) → is_err r ≡ true → OnErr r P → P
where_err (Ok x) is p = cc
where_err (Err e) is p = p

-- the job ends, and the marks stay
job_ends : (s : Setting) (at : ℕ) (now : Moment) (job new : JobView) (answer : Turn) (end : JobEnd) (marks : ℕ → Option Mark) → now.marks ≡ marks
    → IsEnding s now job end → new ≡ record job { doing = Ended end } → answer ≡ turn.Ended end
    → IdleTurn (mover s at now job) answer (record (with_job now at new) { marks = marks })
job_ends s at now job new answer end marks same ending is given =
    subst (λ t. IdleTurn (mover s at now job) t (record (with_job now at new) { marks = marks })) (sym given)
    (ending, λ i. record (with_job now at (is i)) { marks = sym same i })

-- or waits
pub waits_on : (s : Setting) (at : ℕ) (now : Moment) (job new : JobView) (answer : Turn) (object : Object) (number : ℕ) (marks : ℕ → Option Mark)
    → now.marks ≡ marks → IsWaiting s now job object number → new ≡ asked_to_wait job → answer ≡ turn.Busy object number
    → IdleTurn (mover s at now job) answer (record (with_job now at new) { marks = marks })
waits_on s at now job new answer object number marks same waits is given =
    subst (λ t. IdleTurn (mover s at now job) t (record (with_job now at new) { marks = marks })) (sym given)
    (waits, λ i. record (with_job now at (is i)) { marks = sym same i })

-- by what keeps it from its next transaction
pub begin_stopped : (s : Setting) (at : ℕ) (now : Moment) (job new : JobView) (halt : Halt) (answer : Turn) (marks : ℕ → Option Mark) → now.marks ≡ marks
    → IsHalted s now job halt → IsStopped job new halt answer → IdleTurn (mover s at now job) answer (record (with_job now at new) { marks = marks })
begin_stopped s at now job new (End end) answer marks same halted is = job_ends s at now job new answer end marks same halted is.0 is.1
begin_stopped s at now job new (Wait object holder) answer marks same halted is = waits_on s at now job new answer object holder marks same halted is.0 is.1

-- who stops or waits before a begin takes no seat
pub stopped_seats : (number rank : ℕ) (seats : Seats) (job new : JobView) (halt : Halt) (answer : Turn) → IsStopped job new halt answer
    → IsSeatBehind number rank seats seats answer
stopped_seats number rank seats job new (End end) answer is = subst (IsSeatBehind number rank seats seats) (sym is.1) (λ n. refl)
stopped_seats number rank seats job new (Wait object holder) answer is = subst (IsSeatBehind number rank seats seats) (sym is.1) (λ n. refl)

-- nor does it go on
pub stopped_there : (job new : JobView) (halt : Halt) (answer : Turn) → IsStopped job new halt answer → answer ≡ turn.Went → ⊥
stopped_there job new (End end) answer is went = let bad : turn.Ended end ≡ turn.Went = sym is.1 ∙ went in cc bad
stopped_there job new (Wait object holder) answer is went = let bad : turn.Busy object holder ≡ turn.Went = sym is.1 ∙ went in cc bad

-- an idle job that can't have its room takes none
pub without_seats : (number rank : ℕ) (old new : Seats) (clients : Bool) (was is : JobView) (answer : Turn) → GoesWithout clients was is answer
    → KeepsSeats old new → IsSeatBehind number rank old new answer
without_seats number rank old new true was is answer without kept = subst (IsSeatBehind number rank old new) (sym without.1) kept
without_seats number rank old new false was is answer without kept = subst (IsSeatBehind number rank old new) (sym without.1) kept

-- nor does it begin
pub without_begun : (clients : Bool) (was is : JobView) (answer : Turn) → GoesWithout clients was is answer → answer ≡ turn.Went → ⊥
without_begun true was is answer without went = let bad : turn.NoMemory ≡ turn.Went = sym without.1 ∙ went in cc bad
without_begun false was is answer without went = let bad : turn.Ended job_end.NoMemory ≡ turn.Went = sym without.1 ∙ went in cc bad

-- a script's ends; where clients ask nothing changes
pub goes_without : (s : Setting) (at : ℕ) (now : Moment) (job new : JobView) (answer : Turn) (marks : ℕ → Option Mark) → now.marks ≡ marks
    → slice_get now.jobs at ≡ Some job → MayBegin s now job → (clients : Bool) → has_clients s.script ≡ clients
    → GoesWithout clients job new answer → IdleTurn (mover s at now job) answer (record (with_job now at new) { marks = marks })
goes_without s at now job new answer marks same there ready true live is =
    let jobs = ap (slice_set now.jobs at) is.0 ∙ set_itself now.jobs at job there in
    subst (λ t. IdleTurn (mover s at now job) t (record (with_job now at new) { marks = marks })) (sym is.1)
    (live, ready, λ i. record now { jobs = jobs i; marks = sym same i })
goes_without s at now job new answer marks same there ready false own is =
    job_ends s at now job new answer job_end.NoMemory marks same (own, ready.left) is.0 is.1

-- so many transactions have begun
pub all_begun : (now : Moment) (entered entries active : ℕ) → HasBegun now entries active → entered ≡ entries → begun_count now ≡ entered + active
all_begun now entered entries active k len = λ i. (k.entered ∙ sym len) i + k.active i

-- where not too many wait to be handed out, and a number is left, there is room in the journal
pub room_left : (script : Script) (begun waiting count : ℕ) → count ≡ begun → (IsScripted script → waiting ≡ begun)
    → (waiting < 10000) × (begun < 4294967295) → count < most_entries script
room_left script begun waiting count same whole room = by_kind (has_clients script) refl where
  by_kind : (b : Bool) → has_clients script ≡ b → count < (if b then 4294967295 else 10000)
  by_kind true is = let low = room.1 in omega (arith, same, low)
  by_kind false is = let low = room.0 in let all = whole is in omega (arith, same, low, all)

-- who begins has a number for its transaction
pub number_left : (m : Mover) (answer : Turn) (new : Moment) → answer ≡ turn.Went → IdleTurn m answer new → begun_count m.old < 4294967295
number_left m answer new went row =
    let begins = subst (λ t. IdleTurn m t new) went row in
    let room = begins.0.room in
    let most = most_numbered m.setting.script in
    omega (arith, room, most)

-- its next transaction begins
pub job_begins : (now : Moment) (job : JobView) (me : Private) (place : Position) (tx : TxView) (entered entries active rank : ℕ) → me ≡ job.me
    → HasBegun now entries active → entered ≡ entries
    → place ≡ record job.place { begun = job.place.variables } → rank ≡ rank_of job.attempts (entered + active + 1)
    → tx ≡ new_tx (entered + active + 1) rank entered job.me
    → record job { me = me; place = place; handed = None; busy = 0; doing = Active tx } ≡ beginning_job now job
job_begins now job me place tx entered entries active rank kept k len placed ranked begun =
    let number : entered + active + 1 ≡ begun_count now + 1 = ap (λ n. n + 1) (sym (all_begun now entered entries active k len)) in
    let rank' : rank ≡ rank_of job.attempts (begun_count now + 1) = ranked ∙ ap (rank_of job.attempts) number in
    let began = len ∙ sym k.entered in
    let tx' : tx ≡ new_tx (begun_count now + 1) (rank_of job.attempts (begun_count now + 1)) (length now.journal) job.me =
    begun ∙ (λ i. new_tx (number i) (rank' i) (began i) job.me) in
    λ i. record job { me = kept i; place = placed i; handed = None; busy = 0; doing = Active (tx' i) }

-- ---- a job that may begin
module _ (s : Setting) (now : Moment) (job : JobView) (seats : Seats) (sat : AreSeats seats now.jobs) (left : IsSome (body_at s job.place))
    (attempts : failures job.attempts < s.rules.attempts) where
  seated : (o : Option Seat) (rank : ℕ) (running : Bool) → seated_as o ≡ Some (rank, running) → is_some o ≡ true
  seated None rank running is = cc is
  seated (Some seat) rank running is = refl

  is_seated : (o : Option Seat) → is_some o ≡ true → (seat : Seat) × (seated_as o ≡ Some (seat.rank, seat.running))
  is_seated None is = cc is
  is_seated (Some seat) is = (seat, refl)

  -- it waits for the active transaction that ended its last attempt
  pub waits_for_last : (object : Object) (number : ℕ) → NamesLast job.attempts object number → is_some (seat_in seats number) ≡ true
      → job.busy < s.rules.patience
      → IsWaiting s now job object number
  waits_for_last object number named active patient =
      let seat = is_seated (seat_in seats number) active in
      record {
        left = left;
        attempts = attempts;
        named = named;
        active = sat.known number (seat.0.rank, seat.0.running) seat.1;
        patient = patient;
      }

  -- it waits for nobody
  pub free : IsWaitOver job.attempts s.rules.patience job.busy seats → WaitsForNobody s now job
  free done object number w =
      let a = w.active in
      done object number w.named w.patient (ap (λ n. is_some (seat_in seats n)) (sym a.3)
      ∙ seated (seat_in seats a.1.number) a.1.rank (runs a.1.phase) (sat.held a.0 a.1 a.2))

-- ---- whether a job is over
end_is : (o : Option Ask) → is_end_in o ≡ true → o ≡ Some ask.End
end_is (Some ask.End) is = refl
end_is (Some ask.Commit) is = cc is
end_is (Some ask.Abort) is = cc is
end_is (Some (ask.Call call)) is = cc is
end_is None is = cc is

none_is : {A : Type 0} (o : Option A) → not (is_some o) ≡ true → o ≡ None
none_is None is = refl
none_is (Some x) is = cc is

some_is : {A : Type 0} (o : Option A) → not (is_some o) ≡ false → IsSome o
some_is None is = cc is
some_is (Some x) is = refl

-- where the code says so it is
pub over_so : (b : Bool) (s : Setting) (job : JobView) → is_over_in b s job ≡ true → IsOver b s job
over_so true s job is = end_is job.handed is
over_so false s job is = none_is (body_at s job.place) is

-- and else it isn't
pub not_over : (b : Bool) (s : Setting) (job : JobView) → is_over_in b s job ≡ false → IsOver b s job → ⊥
not_over true s job is over = let no : true ≡ false = ap is_end_in (sym over) ∙ is in cc no
not_over false s job is over = let no : true ≡ false = ap (λ (o : Option (List Statement)). not (is_some o)) (sym over) ∙ is in cc no

-- then a transaction is left
pub left_so : (s : Setting) (job : JobView) → is_over_in (has_clients s.script) s job ≡ false → IsSome (body_at s job.place)
left_so s job is = go (has_clients s.script) refl is
  where
    go : (b : Bool) → has_clients s.script ≡ b → is_over_in b s job ≡ false → IsSome (body_at s job.place)
    go true live is = subst IsSome (sym (live_body s.script (job_of job.place) live)) refl
    go false own is = some_is (body_at s job.place) is

-- what is said to be there is there
pub is_some_there : {A : Type 0} (o : Option A) → true ≡ is_some o → IsSome o
is_some_there None is = cc is
is_some_there (Some x) is = refl
