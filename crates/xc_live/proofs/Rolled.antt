-- Turns of a client whose transaction undoes or commits, to its entry.
use Rattle.std.proofs.Common.{◌≡◌, ℕ, zero, suc, ◌-◌, ◌<◌, List, [], ◌∷◌, ◌++◌, length, length-append, append-nil}
use Rattle.std.proofs.Common.{refl, ap, sym, ◌∙◌, subst, arith}
use Rattle.std.proofs.lemmas.List.{length-drop, set-set}
use Rattle.std.specs.Prelude.{Option, drop, map, replicate, slice_get, slice_set}
use Rattle.std.specs.declared.option.Option.TheVariants.{None, Some}
use Rattle.xc_data.specs.declared.call.LateCall.{LateCall}
use Rattle.xc_data.specs.declared.entry.Cause.{Cause}
use Rattle.xc_data.specs.declared.entry.Cause.TheVariants as cause
use Rattle.xc_data.specs.declared.entry.Mark.{Mark}
use Rattle.xc_data.specs.declared.entry.Turn.{Turn}
use Rattle.xc_data.specs.declared.entry.Turn.TheVariants as turn
use Rattle.xc_data.specs.declared.undo.Undo.{Undo}
use Rattle.xc_data.proofs.Laws.{get_set_same}
use Rattle.xc_host.specs.Model.{HostModel}
use Rattle.xc_model.specs.declared.phase.Phase.{Phase}
use Rattle.xc_model.specs.declared.phase.Phase.TheVariants.{Running, Committing, Undoing, Backing}
use Rattle.xc_model.specs.CommittingRows.{LateTurn}
use Rattle.xc_model.specs.Entering.{behind_abort, behind_commit, started_job, started_jobs}
use Rattle.xc_model.specs.Moment.{TxView, JobView, Doing, Idle, Active, Starved, Moment, late_left, unmarked}
use Rattle.xc_model.specs.Movers.{mover, with_tx}
use Rattle.xc_model.specs.Rows.{ActiveTurn, IsTurn, TurnOf}
use Rattle.xc_model.specs.Setting.{Setting}
use Rattle.xc_model.specs.UndoingRows.{BackTurn}
use Rattle.xc_turns.proofs.Laws.{next_ends}
use Rattle.xc_station.specs.Jobs.{job_views}
use Rattle.xc_station.specs.Stations.{IsStepOf, StationView, TakeTurns, live_at, now_of, setting_of}
use Rattle.xc_live.specs.Calm.{IsCalmJob}
use Rattle.xc_live.proofs.Numbered.{active_lives}

-- what a job does behind its aborted transaction
abbrev pub doing_after : Cause → Doing
doing_after cause.NoMemory = Starved
doing_after cause.Asked = Idle
doing_after (cause.Conflict object holder when) = Idle
doing_after (cause.Revoked object by when) = Idle
doing_after (cause.Stuck failed) = Idle

-- and behind one that was in this phase
abbrev pub doing_behind : Phase → Doing
doing_behind (Undoing c) = doing_after c
doing_behind Committing = Idle
doing_behind Running = Idle
doing_behind Backing = Idle

-- the transaction of this number, which was in this phase, is in the journal: its job has handed in nothing, those that joined are
-- calm, and its mark is gone
pub record IsBehindEntry (at number : ℕ) (phase : Phase) (old new : Moment) : Type 0 where
  pub after : JobView
  pub more : List JobView
  pub jobs : new.jobs ≡ slice_set old.jobs at after ++ more
  pub none : after.handed ≡ None
  pub does : after.doing ≡ doing_behind phase
  pub joined : (j : ℕ) (job : JobView) → slice_get more j ≡ Some job → IsCalmJob job
  pub marks : (n : ℕ) → new.marks n ≡ unmarked old.marks number n

abort_hands : (job : JobView) (tx : TxView) (c : Cause) → ((behind_abort job tx c).handed ≡ None) × ((behind_abort job tx c).doing ≡ doing_after c)
abort_hands job tx cause.Asked = (refl, refl)
abort_hands job tx cause.NoMemory = (refl, refl)
abort_hands job tx (cause.Conflict object holder when) = (refl, refl)
abort_hands job tx (cause.Revoked object by when) = (refl, refl)
abort_hands job tx (cause.Stuck failed) = (refl, refl)

mapped_calm : {A : Type 0} (f : A → JobView) (xs : List A) (j : ℕ) (job : JobView) → ((a : A) → IsCalmJob (f a)) → slice_get (map f xs) j ≡ Some job
    → IsCalmJob job
mapped_calm f [] j job calm e = cc e
mapped_calm f (x ∷ xs) zero job calm e = let same : f x ≡ job = cc e in subst IsCalmJob same (calm x)
mapped_calm f (x ∷ xs) (suc j) job calm e = mapped_calm f xs j job calm e

-- ---- one turn
-- it is on its way still, with one thing less to do
pub record IsOnWayBehind (at : ℕ) (was : TxView) (phase : Phase) (old new : Moment) : Type 0 where
  pub job : JobView
  pub tx : TxView
  pub jobs : new.jobs ≡ slice_set old.jobs at job
  pub does : job.doing ≡ Active tx
  pub number : tx.number ≡ was.number
  pub same : tx.phase ≡ phase
  pub marks : new.marks ≡ old.marks

-- how many turns come before that of its entry
abbrev pub before_entry : TxView → Phase → ℕ
before_entry tx (Undoing c) = length tx.undo.pending
before_entry tx Committing = length (late_left tx)
before_entry tx Running = 0
before_entry tx Backing = 0

module _ (at : ℕ) (was : TxView) (phase : Phase) where
  -- after a turn, where so many came before the one of the entry
  abbrev pub Comes : ℕ → Moment → Moment → Type 0
  Comes zero old new = IsBehindEntry at was.number phase old new
  Comes (suc n) old new = (on : IsOnWayBehind at was phase old new) × (before_entry on.tx phase ≡ n)

-- it commits or undoes
abbrev pub IsEndingPhase : Phase → Type 0
IsEndingPhase (Undoing c) = Unit {0}
IsEndingPhase Committing = Unit {0}
IsEndingPhase Running = ⊥
IsEndingPhase Backing = ⊥

module _ (s : Setting) (at : ℕ) (old new : Moment) (job : JobView) (tx : TxView) where
  back_comes : (c : Cause) (pending : List Undo) → pending ≡ tx.undo.pending → tx.phase ≡ Undoing c
      → BackTurn (mover s at old job) tx c pending new → Comes at tx (Undoing c) (length pending) old new
  back_comes c [] is undoes row =
      let left = abort_hands job tx c in
      record {
        after = behind_abort job tx c;
        more = [];
        jobs = ap (λ (n : Moment). n.jobs) row.behind ∙ sym (append-nil (slice_set old.jobs at (behind_abort job tx c)));
        none = left.0;
        does = left.1;
        joined = λ j joined got. cc got;
        marks = λ n. ap (λ (k : Moment). k.marks n) row.behind;
      }
  back_comes c (u ∷ pending) is undoes row =
      let next : TxView = record tx { undo = record { pending = row.older; ended = (row.tried, row.end) ∷ tx.undo.ended } } in
      let on : IsOnWayBehind at tx (Undoing c) old new = record {
        job = with_tx job job.place next;
        tx = next;
        jobs = ap (λ (n : Moment). n.jobs) row.behind;
        does = refl;
        number = refl;
        same = undoes;
        marks = ap (λ (n : Moment). n.marks) row.behind;
      } in (on, omega (arith, ap length (is ∙ row.newest), length-append row.older (row.tried ∷ [])))

  late_comes : (calls : List LateCall) → calls ≡ late_left tx → tx.phase ≡ Committing → LateTurn (mover s at old job) tx calls new
      → Comes at tx Committing (length calls) old new
  late_comes [] is commits row =
      record {
        after = behind_commit job tx;
        more = started_jobs s.script job tx;
        jobs = ap (λ (n : Moment). n.jobs) row.0;
        none = refl;
        does = refl;
        joined = λ j joined got. mapped_calm (started_job s.script (behind_commit job tx)) _ j joined (λ block. record { none = refl; calm = tt }) got;
        marks = λ n. ap (λ (k : Moment). k.marks n) row.0;
      }
  late_comes (call ∷ calls) is commits row =
      let ends = next_ends s at old job tx new call row in
      let next : TxView = record tx { ends = tx.ends ++ ends.end ∷ [] } in
      let on : IsOnWayBehind at tx Committing old new = record {
        job = with_tx job job.place next;
        tx = next;
        jobs = ends.jobs;
        does = refl;
        number = refl;
        same = commits;
        marks = ends.marks;
      } in (on, one_fewer tx.late tx.ends ends.end call calls (sym is))
    where
      one_fewer : {A B : Type 0} (late : List A) (ends : List B) (end : B) (c : A) (cs : List A) → drop (length ends) late ≡ c ∷ cs
          → length (drop (length (ends ++ end ∷ [])) late) ≡ length cs
      one_fewer late ends end c cs e =
          omega (arith, length-drop (length ends) late, length-drop (length (ends ++ end ∷ [])) late, length-append ends (end ∷ []), ap length e)

  phase_comes : (phase : Phase) (answer : Turn) → IsEndingPhase phase → tx.phase ≡ phase → ActiveTurn (mover s at old job) tx phase answer new
      → Comes at tx phase (before_entry tx phase) old new
  phase_comes Running answer ends is row = absurd ends
  phase_comes Backing answer ends is row = absurd ends
  phase_comes Committing turn.Went ends is row = late_comes (late_left tx) refl is row
  phase_comes Committing (turn.Busy object number) ends is row = absurd row
  phase_comes Committing turn.NoMemory ends is row = absurd row
  phase_comes Committing (turn.Ended end) ends is row = absurd row
  phase_comes (Undoing c) turn.Went ends is row = back_comes c tx.undo.pending refl is row
  phase_comes (Undoing c) (turn.Busy object number) ends is row = absurd row
  phase_comes (Undoing c) turn.NoMemory ends is row = absurd row
  phase_comes (Undoing c) (turn.Ended end) ends is row = absurd row

-- so it is after a turn of the job
turn_comes : (s : Setting) (at : ℕ) (old new : Moment) (job : JobView) (tx : TxView) (phase : Phase) (answer : Turn) → IsEndingPhase phase
    → slice_get old.jobs at ≡ Some job → job.doing ≡ Active tx → tx.phase ≡ phase → IsTurn s at old answer new
    → Comes at tx phase (before_entry tx phase) old new
turn_comes s at old new job tx phase answer ends there does is t =
    let same : t.job ≡ job = cc (t.there, there) in
    let row : TurnOf (mover s at old job) job.doing answer new =
    subst (λ (j : JobView). TurnOf (mover s at old j) j.doing answer new) same t.row in
    let active : ActiveTurn (mover s at old job) tx tx.phase answer new = subst (λ d. TurnOf (mover s at old job) d answer new) does row in
    phase_comes s at old new job tx phase answer ends is (subst (λ p. ActiveTurn (mover s at old job) tx p answer new) is active)

-- ---- all turns to the entry
-- the entry behind one turn more
behind_more : (at : ℕ) (was : TxView) (phase : Phase) (old mid new : Moment) (on : IsOnWayBehind at was phase old mid)
    → IsBehindEntry at on.tx.number phase mid new → IsBehindEntry at was.number phase old new
behind_more at was phase old mid new on e =
    record {
      after = e.after;
      more = e.more;
      jobs = e.jobs ∙ ap (λ js. js ++ e.more) (ap (λ js. slice_set js at e.after) on.jobs ∙ set-set old.jobs at on.job e.after);
      none = e.none;
      does = e.does;
      joined = e.joined;
      marks = λ n. e.marks n ∙ ap (λ (f : ℕ → Option Mark). unmarked f on.tx.number n) on.marks ∙ ap (λ k. unmarked old.marks k n) on.number;
    }

module _ {H : Type 0} (model : HostModel H) (client : ℕ) (some : 0 < client) (phase : Phase) (ends : IsEndingPhase phase) where
  first_turn : (left : ℕ) (old mid : StationView H) (job : JobView) (tx : TxView) → slice_get (job_views old.jobs) (client - 1) ≡ Some job
      → job.doing ≡ Active tx → tx.phase ≡ phase → before_entry tx phase ≡ left
      → IsStepOf model client (record { old = old; new = mid }) (live_at old.jobs client)
      → Comes (client - 1) tx phase left (now_of model old) (now_of model mid)
  first_turn left old mid job tx there does is count taken =
      let step = subst (λ b. IsStepOf model client (record { old = old; new = mid }) b) (active_lives old.jobs client job tx some there does) taken in
      subst (λ k. Comes (client - 1) tx phase k (now_of model old) (now_of model mid)) count
      (turn_comes (setting_of model old) (client - 1) (now_of model old) (now_of model mid) job tx phase step.0 ends there does is step.1.0)

  -- so many turns lead to it
  pub comes_to_entry : (left : ℕ) (old new : StationView H) (job : JobView) (tx : TxView)
      → slice_get (job_views old.jobs) (client - 1) ≡ Some job → job.doing ≡ Active tx → tx.phase ≡ phase → before_entry tx phase ≡ left
      → TakeTurns model (replicate (suc left) client) old new
      → IsBehindEntry (client - 1) tx.number phase (now_of model old) (now_of model new)
  comes_to_entry zero old new job tx there does is count turns =
      subst (λ (n : StationView H). IsBehindEntry (client - 1) tx.number phase (now_of model old) (now_of model n)) (sym turns.2)
      (first_turn zero old turns.0 job tx there does is count turns.1)
  comes_to_entry (suc n) old new job tx there does is count turns =
      let came = first_turn (suc n) old turns.0 job tx there does is count turns.1 in
      let on = came.0 in
      behind_more (client - 1) tx phase (now_of model old) (now_of model turns.0) (now_of model new) on
      (comes_to_entry n turns.0 new on.job on.tx
      (ap (λ js. slice_get js (client - 1)) on.jobs ∙ get_set_same (job_views old.jobs) (client - 1) job on.job there) on.does on.same came.1 turns.2)
