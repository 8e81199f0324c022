-- What a committing transaction starts has the variables of the commit.
use Rattle.std.proofs.Common.{◌≡◌, ℕ, zero, suc, List, [], ◌∷◌, Option, None, Some, refl, ap, sym, subst, ◌∙◌}
use Rattle.xc_data.specs.declared.call.Call.{Call}
use Rattle.xc_data.specs.declared.call.LateEnd.{LateEnd}
use Rattle.xc_data.specs.Calls.{slot_of}
use Rattle.xc_script.specs.Values.{Values, Variables}
use Rattle.xc_script.specs.Ask.{handed_on, no_variables}
use Rattle.xc_script.specs.Slots.{with_slot_end, with_ends}
use Rattle.xc_text.specs.declared.script.Script.{Script}
use Rattle.std.proofs.lemmas.Option.{get_or_from_slice_get}
use Rattle.std.specs.Prelude.{get_or, slice_get, slice_set}
use Rattle.xc_station.specs.declared.job.Job.{Job}
use Rattle.xc_station.specs.Jobs.{job_view}
use Rattle.xc_station.specs.Starting.{StartsChild}
use Rattle.xc_data.proofs.Laws.{get_set_same}

end_values : (v : Variables) (slot : Option (List ℕ)) (end : LateEnd) → (with_slot_end v slot end).values ≡ v.values
end_values v None end = refl
end_values v (Some name) end = refl

-- ends of late calls change no variable
ends_values : (v : Variables) (calls : List Call) (ends : List LateEnd) → (with_ends v calls ends).values ≡ v.values
ends_values v [] ends = refl
ends_values v (c ∷ calls) [] = refl
ends_values v (c ∷ calls) (end ∷ ends) = ends_values (with_slot_end v (slot_of c) end) calls ends ∙ end_values v (slot_of c) end

-- so what a starter hands on is the same before and after them
pub handed_same : (script : Script) (v : Variables) (calls : List Call) (ends : List LateEnd)
    → handed_on script v ≡ handed_on script (with_ends v calls ends)
handed_same script v calls ends = ap (λ (values : Values). record (no_variables script) { values = values }) (sym (ends_values v calls ends))

-- ---- the job that starts it
set_same : {A : Type 0} (xs : List A) (i : ℕ) (x : A) → slice_get xs i ≡ Some x → xs ≡ slice_set xs i x
set_same [] i x got = cc got
set_same (y ∷ xs) zero x got = let one : y ≡ x = cc got in ap (λ z. z ∷ xs) one
set_same (y ∷ xs) (suc i) x got = ap (λ zs. y ∷ zs) (set_same xs i x got)

-- once more set
pub set_again : {A : Type 0} (xs : List A) (i : ℕ) (x y : A) → slice_set (slice_set xs i x) i y ≡ slice_set xs i y
set_again [] i x y = refl
set_again (z ∷ xs) zero x y = refl
set_again (z ∷ xs) (suc i) x y = ap (λ zs. z ∷ zs) (set_again xs i x y)

-- where no job was started, it has the children that it had
pub still_has : (jobs behind : List Job) (at : ℕ) (job : Job) → behind ≡ jobs → slice_get jobs at ≡ Some job
    → (next : Job) × (behind ≡ slice_set jobs at next) × (job_view next ≡ job_view job) × (next.children.items ≡ job.children.items)
still_has jobs behind at job same got = (job, same ∙ set_same jobs at job got, refl, refl)

-- what is lent of it there is the job
pub lent_job : (jobs lent : List Job) (at : ℕ) (was job : Job) → lent ≡ jobs → was ≡ get_or lent at was → slice_get jobs at ≡ Some job → was ≡ job
lent_job jobs lent at was job same value got = value ∙ ap (λ js. get_or js at was) same ∙ get_or_from_slice_get jobs at job was got

-- ---- after a start
module _ (script : Script) (jobs behind : List Job) (at : ℕ) (block : List ℕ) (end : LateEnd) (was lent : Job) (stands : slice_get jobs at ≡ Some was)
    (starts : (job : Job) → slice_get jobs at ≡ Some job → (next : Job) × (behind ≡ slice_set jobs at next) × (job_view next ≡ job_view job)
    × StartsChild script job block end next.children.items)
    (value : lent ≡ get_or behind at lent) where
  its_next : lent ≡ (starts was stands).0
  its_next =
      let gave = starts was stands in
      lent_job (slice_set jobs at gave.0) behind at lent gave.0 gave.1 value (get_set_same jobs at was gave.0 stands)

  -- the job is as before
  pub lent_seen : job_view lent ≡ job_view was
  lent_seen = ap job_view its_next ∙ (starts was stands).2

  -- and what it started waits with it
  pub lent_children : StartsChild script was block end lent.children.items
  lent_children = subst (λ (j : Job). StartsChild script was block end j.children.items) (sym its_next) (starts was stands).3

  -- no other job changed
  pub set_behind : (job : Job) → slice_set behind at job ≡ slice_set jobs at job
  set_behind job = let gave = starts was stands in ap (λ js. slice_set js at job) gave.1 ∙ set_again jobs at gave.0 job
