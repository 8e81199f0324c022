-- The started jobs after an entry.
use Rattle.std.proofs.Common.{◌≡◌, ℕ, zero, suc, ◌-◌, ◌<◌, List, [], ◌∷◌, ◌++◌, length, map, ap, sym, ◌∙◌, refl, arith}
use Rattle.std.proofs.lemmas.List.{append-nil}
use Rattle.std.specs.Prelude.{slice_get, slice_set}
use Rattle.std.specs.declared.option.Option.TheVariants.{Some}
use Rattle.xc_data.specs.declared.entry.Entry.{Entry}
use Rattle.xc_data.specs.declared.entry.Outcome.{Outcome}
use Rattle.xc_data.specs.declared.entry.Outcome.TheVariants.{Committed, Aborted}
use Rattle.xc_data.proofs.Laws.{get_set_same}
use Rattle.xc_text.specs.declared.script.Script.{Script}
use Rattle.xc_script.specs.declared.ask.Ask.{Ask}
use Rattle.xc_model.specs.Asked.{IsAskedBy, IsAskedEntry, ScriptJob, StartsJobs, after_jobs, jobs_behind, jobs_outcome, script_job_of}
use Rattle.xc_asked.specs.Walking.{children, job_entered, job_outcome}

-- something stands at each place within
pub there : {A : Type 0} (xs : List A) (at : ℕ) → at < length xs → (x : A) × (slice_get xs at ≡ Some x)
there [] at within = absurd (omega (arith, within))
there (x ∷ xs) zero within = (x, refl)
there (x ∷ xs) (suc at) within = there xs at (omega (arith, within))

-- with the jobs that it started behind the others
behind_outcome : (script : Script) (jobs : List ScriptJob) (j : ScriptJob) (e : Entry) (o : Outcome)
    → slice_set jobs (e.job - 1) (record j { job = job_outcome script j.job e o }) ++ children script (job_outcome script j.job e o) e o
    ≡ jobs_outcome script jobs j e o
behind_outcome script jobs j e (Committed late) = refl
behind_outcome script jobs j e (Aborted report) = append-nil (slice_set jobs (e.job - 1) (record j { job = job_outcome script j.job e (Aborted report) }))

module _ (script : Script) (jobs : List ScriptJob) (e : Entry) (at : ℕ) (place : at ≡ e.job - 1) (within : at < length jobs) where
  -- the job of the entry
  its : (j : ScriptJob) × (slice_get jobs at ≡ Some j)
  its = there jobs at within

  started : (j : ScriptJob) → slice_get jobs at ≡ Some j → script_job_of jobs e ≡ Some j
  started j is = sym (ap (slice_get jobs) place) ∙ is

  -- what it leads to
  pub leads_to : (mid new : List ScriptJob) → ((j : ScriptJob) → slice_get jobs at ≡ Some j → mid ≡ slice_set jobs at (job_entered script j e))
      → ((j : ScriptJob) → slice_get mid at ≡ Some j → new ≡ mid ++ children script j.job e e.outcome) → new ≡ after_jobs script jobs e
  leads_to mid new went joined =
      let j : ScriptJob = its.0 in
      let after : ScriptJob = job_entered script j e in
      let set : mid ≡ slice_set jobs at after = went j its.1 in
      let stands : slice_get mid at ≡ Some after = ap (λ (js : List ScriptJob). slice_get js at) set ∙ get_set_same jobs at j after its.1 in
      joined after stands
      ∙ ap (λ (js : List ScriptJob). js ++ children script after.job e e.outcome) (set ∙ ap (λ n. slice_set jobs n after) place)
      ∙ behind_outcome script jobs j e e.outcome
      ∙ ap (jobs_behind script jobs e) (sym (started j its.1))

  -- it is the script's
  pub is_entry : (last : Ask) → ((j : ScriptJob) → slice_get jobs at ≡ Some j → IsAskedBy script j.job last e)
      → StartsJobs script (map (λ (j : ScriptJob). j.block) jobs) e e.outcome → IsAskedEntry script jobs last e
  is_entry last asked starts = record { asking = its.0; started = started its.0 its.1; asked = asked its.0 its.1; starts = starts }
