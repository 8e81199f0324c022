-- Each job whose transaction runs may go back to its open block's save.
use Rattle.std.proofs.Common.{◌≡◌, ℕ, zero, suc, true, false, List, [], ◌∷◌, ◌++◌, refl, ap, sym, subst, ◌∙◌}
use Rattle.std.specs.Prelude.{Option, map, slice_get, slice_set}
use Rattle.std.specs.declared.option.Option.TheVariants.{None, Some}
use mathlib.Core.Logic.{dite}
use native.Mathlib.Decide.{ℕ_discrete}
use Rattle.xc_data.proofs.Laws.{get_map, get_set_other, get_set_same}
use Rattle.xc_data.specs.declared.entry.Mark.{Mark}
use Rattle.xc_data.specs.declared.entry.Turn.{Turn}
use Rattle.xc_data.specs.declared.entry.Turn.TheVariants as turn
use Rattle.xc_model.specs.declared.phase.Phase.TheVariants.{Running, Backing}
use Rattle.xc_model.specs.IdleRows.{IdleTurn, beginning_job}
use Rattle.xc_model.specs.Moment.{TxView, JobView, Idle, Active, Ended, Moment, active_in, asked_to_wait, with_job}
use Rattle.xc_model.specs.Movers.{mover}
use Rattle.xc_model.specs.Setting.{Setting}
use Rattle.xc_station.specs.declared.job.Activity.{Activity}
use Rattle.xc_station.specs.declared.job.Activity.TheVariants as activity
use Rattle.xc_station.specs.declared.job.Job.{Job}
use Rattle.xc_station.specs.declared.tx.Saved.{Saved}
use Rattle.xc_station.specs.declared.tx.Tx.{Tx}
use Rattle.xc_station.specs.Backs.{AllBackSafely, BacksSafely, CanGoBack, HasSave}
use Rattle.xc_station.specs.Jobs.{doing_of, doing_view, job_view, job_views, saved_in, tx_view}
use Rattle.xc_station.specs.Moments.{runs}
use Rattle.xc_station.proofs.Closed.{its_active}

-- ---- one job
activity_of : (t : Tx) (a : Activity) (tx : TxView) → doing_view t a ≡ Active tx → a ≡ activity.Active
activity_of t activity.Active tx is = refl
activity_of t activity.Idle tx is = cc
activity_of t activity.Starved tx is = cc
activity_of t (activity.Ended end) tx is = cc

-- one whose transaction runs
pub safe_running : (tries : ℕ) (job : Job) (tx : TxView) → BacksSafely tries job → doing_of job ≡ Active tx → runs tx.phase ≡ true
    → CanGoBack tries job.tx
safe_running tries job tx safe does running =
    safe (activity_of job.tx job.activity tx does) (ap (λ (t : TxView). runs t.phase) (its_active job tx does) ∙ running)

-- one without an active transaction
pub safe_without : (tries : ℕ) (job : Job) → active_in (doing_of job) ≡ None → BacksSafely tries job
safe_without tries job none active running =
    let does : doing_of job ≡ Active (tx_view job.tx) = ap (doing_view job.tx) active in
    let lacks : Some (tx_view job.tx) ≡ None = sym (ap active_in does) ∙ none in
    cc lacks

-- one whose transaction commits or undoes
pub safe_ending : (tries : ℕ) (job : Job) (tx : TxView) → doing_of job ≡ Active tx → runs tx.phase ≡ false → BacksSafely tries job
safe_ending tries job tx does ending active running =
    let lacks : true ≡ false = sym running ∙ ap (λ (t : TxView). runs t.phase) (its_active job tx does) ∙ ending in
    cc lacks

none_saved : (t : Tx) (o : Option Saved) → saved_in t o ≡ None → HasSave t o
none_saved t None none = tt
none_saved t (Some kept) none = cc none

-- one whose transaction has just begun
safe_begun : (tries : ℕ) (job : Job) (tx : TxView) → doing_of job ≡ Active tx → tx.saved ≡ None → tx.phase ≡ Running → BacksSafely tries job
safe_begun tries job tx does none begun active running =
    let one = its_active job tx does in
    record {
      save = none_saved job.tx job.tx.saved (ap (λ (t : TxView). t.saved) one ∙ none);
      room = λ backs.
          let both : Backing ≡ Running = sym backs ∙ ap (λ (t : TxView). t.phase) one ∙ begun in
          cc both;
    }

-- ---- the turn of an idle job
module _ (s : Setting) (at : ℕ) (now : Moment) (was : JobView) (marks : ℕ → Option Mark) (tries : ℕ) (job : Job)
    (there : slice_get now.jobs at ≡ Some was) (idle : was.doing ≡ Idle) where
  seen_as : (behind : JobView) → slice_set now.jobs at (job_view job) ≡ slice_set now.jobs at behind → job_view job ≡ behind
  seen_as behind same =
      let both : Some (job_view job) ≡ Some behind =
      sym (get_set_same now.jobs at was (job_view job) there) ∙ ap (λ js. slice_get js at) same ∙ get_set_same now.jobs at was behind there in
      cc both

  -- it ends, waits, or its next transaction begins
  pub safe_idle : (answer : Turn) → IdleTurn (mover s at now was) answer (record (with_job now at (job_view job)) { marks = marks })
      → BacksSafely tries job
  safe_idle (turn.Ended end) row =
      safe_without tries job (ap (λ (j : JobView). active_in j.doing) (seen_as (record was { doing = Ended end }) (ap (λ (n : Moment). n.jobs) row.1)))
  safe_idle (turn.Busy object number) row =
      safe_without tries job
      (ap (λ (j : JobView). active_in j.doing) (seen_as (asked_to_wait was) (ap (λ (n : Moment). n.jobs) row.1)) ∙ ap active_in idle)
  safe_idle turn.Went row =
      safe_begun tries job _ (ap (λ (j : JobView). j.doing) (seen_as (beginning_job now was) (ap (λ (n : Moment). n.jobs) row.1))) refl refl
  safe_idle turn.NoMemory row =
      let both : Some (job_view job) ≡ Some was =
      sym (get_set_same now.jobs at was (job_view job) there) ∙ ap (λ (n : Moment). slice_get n.jobs at) row.2 ∙ there in
      let same : job_view job ≡ was = cc both in
      safe_without tries job (ap (λ (j : JobView). active_in j.doing) same ∙ ap active_in idle)

-- ---- all jobs
-- with another job in one place
pub backs_set : (tries : ℕ) (jobs : List Job) (at : ℕ) (was job : Job) → slice_get jobs at ≡ Some was → BacksSafely tries job
    → AllBackSafely tries jobs → AllBackSafely tries (slice_set jobs at job)
backs_set tries jobs at was job stands safe all j other there =
    dite (ℕ_discrete j at)
    (λ same.
    let here : Some job ≡ Some other = sym (get_set_same jobs at was job stands) ∙ ap (slice_get (slice_set jobs at job)) (sym same) ∙ there in
    let one : job ≡ other = cc here in
    subst (BacksSafely tries) one safe)
    (λ away. all j other (sym (get_set_other jobs at j job away) ∙ there))

-- with more jobs behind them
pub backs_joined : (tries : ℕ) (jobs more : List Job) → AllBackSafely tries jobs → AllBackSafely tries more → AllBackSafely tries (jobs ++ more)
backs_joined tries [] more all behind at job there = behind at job there
backs_joined tries (x ∷ xs) more all behind zero job there = all zero job there
backs_joined tries (x ∷ xs) more all behind (suc n) job there = backs_joined tries xs more (λ i. all (suc i)) behind n job there

-- ---- jobs that have begun no transaction
made_idle : {A : Type 0} (f : A → JobView) → ((x : A) → (f x).doing ≡ Idle) → (xs : List A) (at : ℕ) (job : JobView)
    → slice_get (map f xs) at ≡ Some job → job.doing ≡ Idle
made_idle f idle [] at job there = cc there
made_idle f idle (x ∷ xs) zero job there = let one : f x ≡ job = cc there in ap (λ (j : JobView). j.doing) (sym one) ∙ idle x
made_idle f idle (x ∷ xs) (suc n) job there = made_idle f idle xs n job there

-- as those of the opening, and those that a transaction started
pub backs_made : {A : Type 0} (tries : ℕ) (jobs : List Job) (f : A → JobView) (xs : List A) → ((x : A) → (f x).doing ≡ Idle)
    → job_views jobs ≡ map f xs → AllBackSafely tries jobs
backs_made tries jobs f xs idle same at job there =
    safe_without tries job
    (ap active_in (made_idle f idle xs at (job_view job) (sym (ap (λ js. slice_get js at) same) ∙ get_map job_view jobs at job there)))
