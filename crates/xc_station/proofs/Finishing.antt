-- A transaction that commits or undoes comes to its entry, in as many turns as it has things to do.
use Rattle.std.proofs.Common.{◌≡◌, ◌≢◌, ◌⊎◌, inl, inr, ℕ, zero, suc, ◌+◌, ◌-◌, ◌<◌, ◌≤◌, Bool, true, false, List, [], ◌∷◌, ◌++◌, length}
use Rattle.std.proofs.Common.{refl, ap, sym, ◌∙◌, subst, arith, length-append, length-set}
use Rattle.std.specs.Prelude.{Option, ◌==◌, drop, slice_get, slice_set, replicate, unwrap_or, if◌then◌else◌}
use Rattle.std.proofs.lemmas.List.{length-drop}
use Rattle.std.specs.Option.{option_and_then}
use Rattle.std.specs.declared.option.Option.TheVariants.{None, Some}
use Rattle.xc_data.specs.declared.call.LateCall.{LateCall}
use Rattle.xc_data.specs.declared.entry.Cause.{Cause}
use Rattle.xc_data.specs.declared.entry.Turn.{Turn}
use Rattle.xc_data.specs.declared.entry.Turn.TheVariants as turn
use Rattle.xc_data.specs.declared.undo.Undo.{Undo}
use Rattle.xc_data.proofs.Laws.{get_set_same, get_set_other}
use Rattle.xc_host.specs.Model.{HostModel}
use Rattle.xc_model.specs.declared.phase.Phase.{Phase}
use Rattle.xc_model.specs.declared.phase.Phase.TheVariants.{Running, Committing, Undoing, Backing}
use Rattle.xc_model.specs.Setting.{Setting}
use Rattle.xc_model.specs.Moment.{TxView, JobView, Doing, Idle, Active, Starved, Ended, Moment, late_left}
use Rattle.xc_model.specs.Movers.{mover, with_tx}
use Rattle.xc_model.specs.Rows.{IsTurn, TurnOf, ActiveTurn}
use Rattle.xc_model.specs.CommittingRows.{CommittingTurn, LateTurn}
use Rattle.xc_model.specs.UndoingRows.{UndoingTurn, BackTurn}
use Rattle.xc_turns.proofs.Laws.{left_some, next_ends, get_inside}
use Rattle.std.proofs.lemmas.Bool.{eqb-false, ne_eqb}
use Rattle.xc_station.specs.Finishing.{AddsEntry, IsEntryOf, OthersStay, job_left_at, left_in, left_of, phase_at, phase_in, told_at}
use Rattle.xc_station.specs.declared.job.Job.{Job}
use Rattle.xc_station.specs.Jobs.{goes_on, job_views, stage_of}
use Rattle.xc_station.proofs.Runs.{live_there, phase_goes}
use Rattle.xc_station.specs.Stations.{IsStepOf, KeepsOpening, StationView, TakeTurns, live_at, lives, now_of, setting_of}

-- ---- one turn of such a transaction, by what a job does
-- after a turn: the entry is there if nothing was left, and otherwise one thing less is left
abbrev pub ComesNearer : ℕ → Phase → Moment → Moment → ℕ → Type 0
ComesNearer at phase old new zero = AddsEntry (at + 1) phase old.journal new.journal
ComesNearer at phase old new (suc n) =
    (new.journal ≡ old.journal)
    × (job : JobView) × (slice_get new.jobs at ≡ Some job) × (left_of job.doing ≡ Some n) × (phase_in job.doing ≡ Some phase)

module _ (s : Setting) (at : ℕ) (old new : Moment) (job : JobView) (there : slice_get old.jobs at ≡ Some job) (tx : TxView) where
  back_nearer : (c : Cause) (pending : List Undo) → pending ≡ tx.undo.pending → tx.phase ≡ Undoing c
      → BackTurn (mover s at old job) tx c pending new → ComesNearer at (Undoing c) old new (length pending)
  back_nearer c [] is undoes row = (_, ap (λ (n : Moment). n.journal) row.behind, record { job = refl; outcome = refl })
  back_nearer c (u ∷ pending) is undoes row =
      let jobs = ap (λ (n : Moment). n.jobs) row.behind in
      let count : length row.older ≡ length pending = omega (arith, ap length (is ∙ row.newest), length-append row.older (row.tried ∷ [])) in
      let next : TxView = record tx { undo = record { pending = row.older; ended = (row.tried, row.end) ∷ tx.undo.ended } } in (
        ap (λ (n : Moment). n.journal) row.behind,
        with_tx job job.place next,
        ap (λ js. slice_get js at) jobs ∙ get_set_same old.jobs at job (with_tx job job.place next) there,
        ap (left_in next) undoes ∙ ap Some count,
        ap Some undoes,
      )

  undoing_nearer : (c : Cause) (answer : Turn) → tx.phase ≡ Undoing c → UndoingTurn (mover s at old job) tx c answer new
      → ComesNearer at (Undoing c) old new (length tx.undo.pending)
  undoing_nearer c turn.Went undoes row = back_nearer c tx.undo.pending refl undoes row
  undoing_nearer c (turn.Ended end) undoes row = absurd row
  undoing_nearer c (turn.Busy object holder) undoes row = absurd row
  undoing_nearer c turn.NoMemory undoes row = absurd row

  late_nearer : (calls : List LateCall) → calls ≡ late_left tx → tx.phase ≡ Committing
      → LateTurn (mover s at old job) tx calls new → ComesNearer at Committing old new (length calls)
  late_nearer [] is commits row = (_, ap (λ (n : Moment). n.journal) row.0, record { job = refl; outcome = tt })
  late_nearer (call ∷ calls) is commits row =
      let ends = next_ends s at old job tx new call row in
      let some = left_some tx.late tx.ends call calls (sym is) in
      let jobs = ends.jobs in
      let next : TxView = record tx { ends = tx.ends ++ ends.end ∷ [] } in (
        ends.journal,
        with_tx job job.place next,
        ap (λ js. slice_get js at) jobs ∙ get_set_same old.jobs at job (with_tx job job.place next) there,
        ap (left_in next) commits ∙ ap Some (one_fewer tx.late tx.ends ends.end call calls (sym is)),
        ap Some commits,
      )
    where
      one_fewer : {A B : Type 0} (late : List A) (ends : List B) (end : B) (c : A) (cs : List A) → drop (length ends) late ≡ c ∷ cs
          → length (drop (length (ends ++ end ∷ [])) late) ≡ length cs
      one_fewer late ends end c cs e =
          omega (arith, length-drop (length ends) late, length-drop (length (ends ++ end ∷ [])) late, length-append ends (end ∷ []), ap length e)

  committing_nearer : (answer : Turn) → tx.phase ≡ Committing → CommittingTurn (mover s at old job) tx answer new
      → ComesNearer at Committing old new (length (late_left tx))
  committing_nearer turn.Went commits row = late_nearer (late_left tx) refl commits row
  committing_nearer (turn.Ended end) commits row = absurd row
  committing_nearer (turn.Busy object holder) commits row = absurd row
  committing_nearer turn.NoMemory commits row = absurd row

  active_nearer : (phase : Phase) (answer : Turn) (left : ℕ) → tx.phase ≡ phase → ActiveTurn (mover s at old job) tx phase answer new
      → left_in tx phase ≡ Some left → ComesNearer at phase old new left
  active_nearer Running answer left is row none = cc none
  active_nearer Backing answer left is row none = cc none
  active_nearer Committing answer left is row some =
      let same : length (late_left tx) ≡ left = cc some in subst (ComesNearer at Committing old new) same (committing_nearer answer is row)
  active_nearer (Undoing c) answer left is row some =
      let same : length tx.undo.pending ≡ left = cc some in subst (ComesNearer at (Undoing c) old new) same (undoing_nearer c answer is row)

doing_nearer : (s : Setting) (at : ℕ) (old new : Moment) (job : JobView) (d : Doing) (answer : Turn) (phase : Phase) (left : ℕ)
    → slice_get old.jobs at ≡ Some job → TurnOf (mover s at old job) d answer new → left_of d ≡ Some left → phase_in d ≡ Some phase
    → ComesNearer at phase old new left
doing_nearer s at old new job (Active tx) answer phase left there row some is =
    let same : tx.phase ≡ phase = cc is in
    subst (λ p. ComesNearer at p old new left) same (active_nearer s at old new job there tx tx.phase answer left refl row some)
doing_nearer s at old new job Idle answer phase left there row none is = cc none
doing_nearer s at old new job Starved answer phase left there row none is = cc none
doing_nearer s at old new job (Ended end) answer phase left there row none is = cc none

-- so it is after a turn
pub turn_nearer : (s : Setting) (at : ℕ) (old new : Moment) (answer : Turn) (phase : Phase) (left : ℕ) (job : JobView)
    → IsTurn s at old answer new → slice_get old.jobs at ≡ Some job → left_of job.doing ≡ Some left → phase_in job.doing ≡ Some phase
    → ComesNearer at phase old new left
turn_nearer s at old new answer phase left job t there some is =
    let same : t.job ≡ job = cc (t.there, there) in
    doing_nearer s at old new t.job t.job.doing answer phase left t.there t.row (ap (λ (j : JobView). left_of j.doing) same ∙ some)
    (ap (λ (j : JobView). phase_in j.doing) same ∙ is)

-- ---- the job of this number
positive : (n : ℕ) → n ≢ 0 → 1 ≤ n
positive zero some = absurd (some refl)
positive (suc n) some = omega arith

not_zero : (n : ℕ) → 1 ≤ n → (n == 0) ≡ false
not_zero n some = ne_eqb n 0 (λ none. omega (arith, none, some))

-- what is told of a job is told of one that is there
pub there_of : {A : Type 0} (f : Doing → Option A) (jobs : List JobView) (number : ℕ) (a : A) → told_at f jobs number ≡ Some a
    → (1 ≤ number) × (job : JobView) × (slice_get jobs (number - 1) ≡ Some job) × (f job.doing ≡ Some a)
there_of f jobs number a e = by_test (number == 0) refl e
  where
    at_place : (o : Option JobView) → option_and_then (λ (job : JobView). f job.doing) o ≡ Some a
        → (job : JobView) × (o ≡ Some job) × (f job.doing ≡ Some a)
    at_place None e = cc e
    at_place (Some job) e = (job, refl, e)

    by_test : (b : Bool) → (number == 0) ≡ b
        → (if b then None else option_and_then (λ (job : JobView). f job.doing) (slice_get jobs (number - 1))) ≡ Some a
        → (1 ≤ number) × (job : JobView) × (slice_get jobs (number - 1) ≡ Some job) × (f job.doing ≡ Some a)
    by_test true e is = cc is
    by_test false e is =
        let some = eqb-false number 0 e in
        let found = at_place (slice_get jobs (number - 1)) is in
        (positive number some, found.0, found.1, found.2)

-- and is told of it
pub told_there : {A : Type 0} (f : Doing → Option A) (jobs : List JobView) (number : ℕ) (a : A) (job : JobView) → 1 ≤ number
    → slice_get jobs (number - 1) ≡ Some job → f job.doing ≡ Some a → told_at f jobs number ≡ Some a
told_there f jobs number a job some there is =
    ap (λ (b : Bool). if b then None else option_and_then (λ (j : JobView). f j.doing) (slice_get jobs (number - 1))) (not_zero number some)
    ∙ ap (option_and_then (λ (j : JobView). f j.doing)) there ∙ is

-- an undoing transaction has so many turns
pub undo_left : (jobs : List JobView) (number : ℕ) (c : Cause) → phase_at jobs number ≡ Some (Undoing c)
    → (phase : Phase) × (left : ℕ) × (job_left_at jobs number ≡ Some left) × (phase_at jobs number ≡ Some phase)
undo_left jobs number c is =
    let found = there_of phase_in jobs number (Undoing c) is in
    let left = of_doing found.1.doing found.3 in
    (Undoing c, left.0, told_there left_of jobs number left.0 found.1 found.0 found.2 left.1, is)
  where
    of_doing : (d : Doing) → phase_in d ≡ Some (Undoing c) → (left : ℕ) × (left_of d ≡ Some left)
    of_doing (Active tx) e = let same : tx.phase ≡ Undoing c = cc e in (length tx.undo.pending, ap (left_in tx) same)
    of_doing Idle e = cc e
    of_doing Starved e = cc e
    of_doing (Ended end) e = cc e

-- and so has a committing one
pub commit_left : (jobs : List JobView) (number : ℕ) → phase_at jobs number ≡ Some Committing
    → (phase : Phase) × (left : ℕ) × (job_left_at jobs number ≡ Some left) × (phase_at jobs number ≡ Some phase)
commit_left jobs number is =
    let found = there_of phase_in jobs number Committing is in
    let left = of_doing found.1.doing found.3 in
    (Committing, left.0, told_there left_of jobs number left.0 found.1 found.0 found.2 left.1, is)
  where
    of_doing : (d : Doing) → phase_in d ≡ Some Committing → (left : ℕ) × (left_of d ≡ Some left)
    of_doing (Active tx) e = let same : tx.phase ≡ Committing = cc e in (length (late_left tx), ap (left_in tx) same)
    of_doing Idle e = cc e
    of_doing Starved e = cc e
    of_doing (Ended end) e = cc e

-- ---- turns of the job alone
module _ {H : Type 0} (model : HostModel H) (job : ℕ) where
  -- before the entry: so much is left, and turns for it lead to the end
  pub record IsBefore (phase : Phase) (left : ℕ) (old now : StationView H) : Type 0 where
    pub more : ℕ
    pub is_left : job_left_at (job_views now.jobs) job ≡ Some more
    pub is_phase : phase_at (job_views now.jobs) job ≡ Some phase
    pub same : now.journal ≡ old.journal
    pub rest : (end : StationView H) → TakeTurns model (replicate (more + 1) job) now end
        → TakeTurns model (replicate (left + 1) job) old end

  -- or the entry is there
  abbrev pub IsOnWay : Phase → ℕ → StationView H → StationView H → Type 0
  IsOnWay phase left old now =
      IsBefore phase left old now
      ⊎ (AddsEntry job phase old.journal now.journal × TakeTurns model (replicate (left + 1) job) old now)

-- it begins so
pub on_way : {H : Type 0} (model : HostModel H) (job : ℕ) (phase : Phase) (left : ℕ) (old : StationView H)
    → job_left_at (job_views old.jobs) job ≡ Some left → phase_at (job_views old.jobs) job ≡ Some phase → IsOnWay model job phase left old old
on_way model job phase left old is does =
    inl (record { more = left; is_left = is; is_phase = does; same = refl; rest = λ end turns. turns })

-- ---- a turn more
ending_lives : (d : Doing) (left : ℕ) → left_of d ≡ Some left → goes_on (stage_of d) ≡ true
ending_lives (Active tx) left is = phase_goes tx tx.phase
ending_lives Idle left is = cc is
ending_lives Starved left is = cc is
ending_lives (Ended end) left is = cc is

live_numbered : (jobs : List Job) (number : ℕ) → 1 ≤ number → lives (slice_get jobs (number - 1)) ≡ true → live_at jobs number ≡ true
live_numbered jobs number some live =
    ap (λ (b : Bool). if b then false else lives (slice_get jobs (number - 1))) (not_zero number some) ∙ live

no_longer : {A : Type 0} (xs ys : List A) (y : A) → xs ≡ ys ++ y ∷ [] → length xs ≡ length ys → ⊥
no_longer xs ys y is same = omega (arith, ap length is, length-append ys (y ∷ []), same)

-- before its entry is there it lives
pub lives_on_way : {H : Type 0} (model : HostModel H) (job : ℕ) (phase : Phase) (left : ℕ) (old now : StationView H)
    → IsOnWay model job phase left old now
    → length now.journal ≡ length old.journal → live_at now.jobs job ≡ true
lives_on_way model job phase left old now (inl before) count =
    let found = there_of left_of (job_views now.jobs) job before.more before.is_left in
    live_numbered now.jobs job found.0
    (live_there now.jobs (job - 1) found.1 found.2 (ending_lives found.1.doing before.more found.3))
lives_on_way model job phase left old now (inr ((e, grown, is), turns)) count = absurd (no_longer now.journal old.journal e grown count)

-- how many turns it has before it, itself included: none once the entry is there
abbrev pub way_left : ℕ → Option ℕ → ℕ
way_left zero left = 0
way_left (suc n) left = suc (unwrap_or left 0)

-- once the journal is longer, the entry is there
pub arrived : {H : Type 0} (model : HostModel H) (job : ℕ) (phase : Phase) (left : ℕ) (old now : StationView H)
    → IsOnWay model job phase left old now → length now.journal ≢ length old.journal
    → AddsEntry job phase old.journal now.journal × TakeTurns model (replicate (left + 1) job) old now
arrived model job phase left old now (inl before) longer = absurd (longer (ap length before.same))
arrived model job phase left old now (inr there) longer = there

-- the others stay
pub others_further : (number : ℕ) (old mid new : List JobView) (behind : JobView) (more : List JobView)
    → new ≡ slice_set mid (number - 1) behind ++ more → length old ≤ length mid → OthersStay number old mid → OthersStay number old new
others_further number old mid new behind more jobs grown stay other away low =
    ap (λ js. slice_get js other) jobs
    ∙ get_inside (slice_set mid (number - 1) behind) more other (omega (arith, low, grown, length-set mid (number - 1) behind))
    ∙ get_set_other mid (number - 1) other behind away ∙ stay other away low

-- and there are as many jobs, or more
pub grown_further : (number : ℕ) (mid new : List JobView) (behind : JobView) (more : List JobView) → new ≡ slice_set mid (number - 1) behind ++ more
    → length mid ≤ length new
grown_further number mid new behind more jobs =
    omega (arith, ap length jobs, length-append (slice_set mid (number - 1) behind) more, length-set mid (number - 1) behind)

module _ {H : Type 0} (model : HostModel H) (job : ℕ) (phase : Phase) (left : ℕ) (old mid new : StationView H) (answer : Turn)
    (live : live_at mid.jobs job ≡ true)
    (kept : KeepsOpening mid new) (row : IsTurn (setting_of model mid) (job - 1) (now_of model mid) answer (now_of model new)) where
  step : IsStepOf model job (record { old = mid; new = new }) (live_at mid.jobs job)
  step = subst (IsStepOf model job (record { old = mid; new = new })) (sym live) (answer, (row, kept))

  one_more : (n : ℕ) (end : StationView H) → TakeTurns model (replicate n job) new end → TakeTurns model (replicate (n + 1) job) mid end
  one_more n end turns =
      let count : suc n ≡ n + 1 = omega arith in
      subst (λ k. TakeTurns model (replicate k job) mid end) count (new, step, turns)

  by_left : (more : ℕ) → 1 ≤ job → mid.journal ≡ old.journal
      → ((end : StationView H) → TakeTurns model (replicate (more + 1) job) mid end → TakeTurns model (replicate (left + 1) job) old end)
      → ComesNearer (job - 1) phase (now_of model mid) (now_of model new) more → IsOnWay model job phase left old new
  by_left zero some same rest (e, grown, is) =
      let number : (job - 1) + 1 ≡ job = omega (arith, some) in
      inr (
        (e, grown ∙ ap (λ es. es ++ e ∷ []) same, subst (λ n. IsEntryOf n phase e) number is),
        rest new (one_more 0 new refl),
      )
  by_left (suc n) some same rest (still, after, there, fewer, does) =
      let count : n + 1 ≡ suc n = omega arith in
      inl (record {
        more = n;
        is_left = told_there left_of (job_views new.jobs) job n after some there fewer;
        is_phase = told_there phase_in (job_views new.jobs) job phase after some there does;
        same = still ∙ same;
        rest = λ end turns. rest end (one_more (suc n) end (subst (λ k. TakeTurns model (replicate k job) new end) count turns));
      })

  -- it is on its way still, or at its entry
  pub way_further : IsOnWay model job phase left old mid → length mid.journal ≡ length old.journal → IsOnWay model job phase left old new
  way_further (inl before) count =
      let found = there_of left_of (job_views mid.jobs) job before.more before.is_left in
      let doing = there_of phase_in (job_views mid.jobs) job phase before.is_phase in
      let same : doing.1 ≡ found.1 = cc (doing.2, found.2) in
      by_left before.more found.0 before.same before.rest
      (turn_nearer (setting_of model mid) (job - 1) (now_of model mid) (now_of model new) answer phase before.more found.1 row found.2 found.3
      (ap (λ (j : JobView). phase_in j.doing) (sym same) ∙ doing.3))
  way_further (inr ((e, grown, is), turns)) count = absurd (no_longer mid.journal old.journal e grown count)

  -- a turn on its way leaves fewer
  pub fewer_on_way : IsOnWay model job phase left old mid → length mid.journal ≡ length old.journal
      → way_left (length old.journal + 1 - length new.journal) (job_left_at (job_views new.jobs) job)
      < way_left (length old.journal + 1 - length mid.journal) (job_left_at (job_views mid.jobs) job)
  fewer_on_way (inr ((e, grown, is), turns)) count = absurd (no_longer mid.journal old.journal e grown count)
  fewer_on_way (inl before) count =
      let found = there_of left_of (job_views mid.jobs) job before.more before.is_left in
      let doing = there_of phase_in (job_views mid.jobs) job phase before.is_phase in
      let same : doing.1 ≡ found.1 = cc (doing.2, found.2) in
      let was : length old.journal + 1 - length mid.journal ≡ 1 = omega (arith, count) in
      let had : way_left (length old.journal + 1 - length mid.journal) (job_left_at (job_views mid.jobs) job) ≡ suc before.more =
      (λ i. way_left (was i) (before.is_left i)) in
      by_more before.more found.0 had
      (turn_nearer (setting_of model mid) (job - 1) (now_of model mid) (now_of model new) answer phase before.more found.1 row found.2 found.3
      (ap (λ (j : JobView). phase_in j.doing) (sym same) ∙ doing.3))
    where
      by_more : (more : ℕ) → 1 ≤ job
          → way_left (length old.journal + 1 - length mid.journal) (job_left_at (job_views mid.jobs) job) ≡ suc more
          → ComesNearer (job - 1) phase (now_of model mid) (now_of model new) more
          → way_left (length old.journal + 1 - length new.journal) (job_left_at (job_views new.jobs) job)
          < way_left (length old.journal + 1 - length mid.journal) (job_left_at (job_views mid.jobs) job)
      by_more zero some had (e, grown, is) =
          let longer : length new.journal ≡ length mid.journal + 1 = ap length grown ∙ length-append mid.journal (e ∷ []) in
          let none : length old.journal + 1 - length new.journal ≡ 0 = omega (arith, count, longer) in
          let over : way_left (length old.journal + 1 - length new.journal) (job_left_at (job_views new.jobs) job) ≡ 0 =
          ap (λ n. way_left n (job_left_at (job_views new.jobs) job)) none in
          omega (arith, had, over)
      by_more (suc n) some had (still, after, there, fewer, does) =
          let one : length old.journal + 1 - length new.journal ≡ 1 = (let same = ap length still in omega (arith, count, same)) in
          let left' = told_there left_of (job_views new.jobs) job n after some there fewer in
          let has : way_left (length old.journal + 1 - length new.journal) (job_left_at (job_views new.jobs) job) ≡ suc n = (λ i. way_left (one i) (left' i)) in
          omega (arith, had, has)
