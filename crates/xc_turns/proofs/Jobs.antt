-- Active transactions by the place of their jobs.
use Rattle.std.proofs.Common.{◌≡◌, ◌≢◌, ℕ, zero, suc, List, [], ◌∷◌, ◌++◌, map, refl, ap, sym, ◌∙◌, subst}
use Rattle.std.specs.Prelude.{Contains, Option, slice_get, slice_set}
use Rattle.std.specs.List.{cons_option}
use Rattle.std.specs.declared.option.Option.TheVariants.{None, Some}
use mathlib.Core.Logic.{dite}
use native.Mathlib.Decide.{ℕ_discrete}
use Rattle.xc_data.specs.declared.entry.Cause.{Cause}
use Rattle.xc_data.specs.declared.entry.Cause.TheVariants as cause
use Rattle.xc_text.specs.declared.script.Script.{Script}
use Rattle.xc_model.specs.Moment.{TxView, JobView, active_of, actives}
use Rattle.xc_model.specs.Movers.{IsActiveAt}
use Rattle.xc_model.specs.Entering.{behind_abort}
use Rattle.xc_model.specs.Opened.{opened_job}
use Rattle.xc_turns.proofs.Lists.{around, contains_picked, not_both}
use Rattle.xc_data.proofs.Laws.{get_set_same, get_set_other}

-- ---- one place of the jobs is set
module _ (jobs : List JobView) (at : ℕ) (job : JobView) (stands : slice_get jobs at ≡ Some job) where
  -- the active transaction there is the job's
  pub active_was : (t : TxView) → IsActiveAt jobs at t → active_of job ≡ Some t
  active_was t a = let there = a.1 in let same : job ≡ a.0 = cc (stands, there) in ap active_of same ∙ a.2

  -- and then the other job's
  pub active_is : (job' : JobView) (t : TxView) → IsActiveAt (slice_set jobs at job') at t → active_of job' ≡ Some t
  active_is job' t a =
      let there = a.1 in
      let here = get_set_same jobs at job job' stands in
      let same : job' ≡ a.0 = cc (here, there) in ap active_of same ∙ a.2

  -- the other job's is active there
  pub active_here : (job' : JobView) (t : TxView) → active_of job' ≡ Some t → IsActiveAt (slice_set jobs at job') at t
  active_here job' t is = (job', get_set_same jobs at job job' stands, is)

-- in one place there is one
pub active_same : (jobs : List JobView) (j : ℕ) (t u : TxView) → IsActiveAt jobs j t → IsActiveAt jobs j u → t ≡ u
active_same jobs j t u a b =
    let there = a.1 in
    let here = b.1 in
    let job : a.0 ≡ b.0 = cc (there, here) in
    let both : Some t ≡ Some u = sym a.2 ∙ ap active_of job ∙ b.2 in
    cc both

-- elsewhere those that are active were so
pub active_before : (jobs : List JobView) (at j : ℕ) (job' : JobView) (t : TxView) → j ≢ at → IsActiveAt (slice_set jobs at job') j t → IsActiveAt jobs j t
active_before jobs at j job' t ne a = (a.0, sym (get_set_other jobs at j job' ne) ∙ a.1, a.2)

-- and those that were still are
pub active_after : (jobs : List JobView) (at j : ℕ) (job' : JobView) (t : TxView) → j ≢ at → IsActiveAt jobs j t → IsActiveAt (slice_set jobs at job') j t
active_after jobs at j job' t ne a = (a.0, get_set_other jobs at j job' ne ∙ a.1, a.2)

-- ---- a job has the same active transaction as before, or none as before
module _ (jobs : List JobView) (at : ℕ) (job job' : JobView) (stands : slice_get jobs at ≡ Some job) (same : active_of job' ≡ active_of job) where
  -- then all that are active were
  pub alike_before : (j : ℕ) (t : TxView) → IsActiveAt (slice_set jobs at job') j t → IsActiveAt jobs j t
  alike_before j t a = dite (ℕ_discrete j at)
      (λ (here : j ≡ at).
      let is = active_is jobs at job stands job' t (subst (λ k. IsActiveAt (slice_set jobs at job') k t) here a) in
      subst (λ k. IsActiveAt jobs k t) (sym here) (job, stands, sym same ∙ is))
      (λ (away : j ≢ at). active_before jobs at j job' t away a)

  -- and still are
  pub alike_after : (j : ℕ) (t : TxView) → IsActiveAt jobs j t → IsActiveAt (slice_set jobs at job') j t
  alike_after j t a = dite (ℕ_discrete j at)
      (λ (here : j ≡ at).
      let was = active_was jobs at job stands t (subst (λ k. IsActiveAt jobs k t) here a) in
      subst (λ k. IsActiveAt (slice_set jobs at job') k t) (sym here) (active_here jobs at job stands job' t (same ∙ was)))
      (λ (away : j ≢ at). active_after jobs at j job' t away a)

  -- they are the same ones
  pub alike_actives : actives (slice_set jobs at job') ≡ actives jobs
  alike_actives =
      let here = around active_of jobs at job stands in
      here.is job' ∙ ap (λ o. here.front ++ cons_option o here.back) same ∙ sym here.was

-- ---- all active ones
-- an active one is among them
pub active_listed : (jobs : List JobView) (j : ℕ) (t : TxView) → IsActiveAt jobs j t → Contains (actives jobs) t
active_listed jobs j t (job, there, has) = contains_picked active_of jobs j job t there has

none_first : (o : Option TxView) (rest : List TxView) → ((tx : TxView) → o ≡ Some tx → ⊥) → cons_option o rest ≡ rest
none_first None rest none = refl
none_first (Some tx) rest none = absurd (none tx refl)

-- where no job has an active one there is none
pub none_active : (jobs : List JobView) → ((j : ℕ) (tx : TxView) → IsActiveAt jobs j tx → ⊥) → actives jobs ≡ []
none_active [] none = refl
none_active (job ∷ jobs) none =
    none_first (active_of job) (actives jobs) (λ tx e. none 0 tx (job, refl, e))
    ∙ none_active jobs (λ j tx (there, at, has). none (suc j) tx (there, at, has))

-- no job of a script has one before its first turn
pub opened_rests : (script : Script) (names : List (List ℕ)) (j : ℕ) (tx : TxView) → IsActiveAt (map (opened_job script) names) j tx → ⊥
opened_rests script [] j tx (job, there, has) = cc
opened_rests script (name ∷ names) zero tx (job, there, has) =
    let same : opened_job script name ≡ job = cc in
    not_both (active_of job) tx (ap active_of (sym same)) has
opened_rests script (name ∷ names) (suc j) tx (job, there, has) = opened_rests script names j tx (job, there, has)

-- and none has one after an abort
pub behind_abort_none : (job : JobView) (tx : TxView) (c : Cause) → active_of (behind_abort job tx c) ≡ None
behind_abort_none job tx (cause.Stuck failed) = refl
behind_abort_none job tx cause.Asked = refl
behind_abort_none job tx cause.NoMemory = refl
behind_abort_none job tx (cause.Conflict object holder at) = refl
behind_abort_none job tx (cause.Revoked object by at) = refl
