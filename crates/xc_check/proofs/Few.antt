-- How far jobs have come: no further than there are entries.
use Rattle.std.proofs.Common.{◌≡◌, ◌∙◌, ℕ, zero, suc, ◌+◌, ◌≤◌, List, [], ◌∷◌, ◌++◌, length, map, Option, None, Some, refl, ap, sym, subst, arith}
use Rattle.std.specs.List.{fold}
use Rattle.std.specs.Prelude.{slice_get, slice_set}
use Rattle.std.proofs.lemmas.List.{length-map}
use Rattle.xc_asked.specs.Walking.{AreFew}
use Rattle.xc_data.specs.declared.entry.Cause.{Cause}
use Rattle.xc_data.specs.declared.entry.Cause.TheVariants as cause
use Rattle.xc_data.specs.declared.entry.Entry.{Entry}
use Rattle.xc_data.specs.declared.entry.Outcome.{Outcome}
use Rattle.xc_data.specs.declared.entry.Outcome.TheVariants.{Committed, Aborted}
use Rattle.xc_model.specs.Asked.{ScriptJob, after_jobs, job_abort, jobs_behind, jobs_outcome, opening_jobs, script_job_of, script_started}
use Rattle.xc_model.specs.Progress.{committed_job, started_blocks}
use Rattle.xc_model.specs.Setting.{Setting}
use Rattle.xc_script.specs.Ask.{Job, block_place, fresh_job}
use Rattle.xc_script.specs.Blocks.{kept_calls}
use Rattle.xc_shown.specs.Shown.{shown_of}
use Rattle.xc_shown.specs.declared.shown.Shown.{Shown}
use Rattle.xc_text.specs.declared.script.Script.{Script}
use Rattle.xc_check.specs.Fronts.{script_behind}
use Rattle.xc_check.specs.Judging.{IsJudged}
use Rattle.xc_check.specs.declared.judging.Judging.{Judging}

-- ---- lists of jobs
few_more : (n : ℕ) (jobs : List ScriptJob) → AreFew n jobs → AreFew (n + 1) jobs
few_more n [] few = tt
few_more n (j ∷ jobs) few = let first = few.0 in (omega (arith, first), few_more n jobs few.1)

few_there : (n : ℕ) (jobs : List ScriptJob) (at : ℕ) (j : ScriptJob) → AreFew n jobs → slice_get jobs at ≡ Some j → j.job.next ≤ n
few_there n [] at j few is = cc is
few_there n (x ∷ jobs) zero j few is = let same : x ≡ j = cc is in subst (λ (y : ScriptJob). y.job.next ≤ n) same few.0
few_there n (x ∷ jobs) (suc at) j few is = few_there n jobs at j few.1 is

few_set : (n : ℕ) (jobs : List ScriptJob) (at : ℕ) (j : ScriptJob) → AreFew n jobs → j.job.next ≤ n → AreFew n (slice_set jobs at j)
few_set n [] at j few one = tt
few_set n (x ∷ jobs) zero j few one = (one, few.1)
few_set n (x ∷ jobs) (suc at) j few one = (few.0, few_set n jobs at j few.1 one)

few_with : (n : ℕ) (jobs more : List ScriptJob) → AreFew n jobs → AreFew n more → AreFew n (jobs ++ more)
few_with n [] more few rest = rest
few_with n (j ∷ jobs) more few rest = (few.0, few_with n jobs more few.1 rest)

few_started : (n : ℕ) (script : Script) (starter : Job) (blocks : List (List ℕ)) → AreFew n (map (script_started script starter) blocks)
few_started n script starter [] = tt
few_started n script starter (b ∷ blocks) = (omega arith, few_started n script starter blocks)

few_opened : (script : Script) (names : List (List ℕ))
    → AreFew 0 (map (λ (name : List ℕ). record { block = name; job = fresh_job script (block_place script name) }) names)
few_opened script [] = tt
few_opened script (name ∷ names) = (omega arith, few_opened script names)

-- ---- behind an entry
few_abort : (n : ℕ) (job : Job) (why : Cause) → job.next ≤ n → (job_abort job why).next ≤ n + 1
few_abort n job cause.Asked few = omega (arith, few)
few_abort n job (cause.Stuck failed) few = omega (arith, few)
few_abort n job cause.NoMemory few = omega (arith, few)
few_abort n job (cause.Conflict object holder at) few = omega (arith, few)
few_abort n job (cause.Revoked object by at) few = omega (arith, few)

few_outcome : (n : ℕ) (script : Script) (jobs : List ScriptJob) (j : ScriptJob) (e : Entry) (o : Outcome) → AreFew n jobs → j.job.next ≤ n
    → AreFew (n + 1) (jobs_outcome script jobs j e o)
few_outcome n script jobs j e (Committed late) few one =
    let behind = committed_job script j.job e.calls e.replies late in
    few_with (n + 1) _ _ (few_set (n + 1) jobs _ (record j { job = behind }) (few_more n jobs few) (omega (arith, one)))
    (few_started (n + 1) script behind (started_blocks (kept_calls e.calls e.replies) late))
few_outcome n script jobs j e (Aborted report) few one =
    few_set (n + 1) jobs _ (record j { job = job_abort j.job report.cause }) (few_more n jobs few) (few_abort n j.job report.cause one)

few_after : (n : ℕ) (script : Script) (jobs : List ScriptJob) (e : Entry) → AreFew n jobs → AreFew (n + 1) (after_jobs script jobs e)
few_after n script jobs e few = go (script_job_of jobs e) refl
  where
    go : (o : Option ScriptJob) → script_job_of jobs e ≡ o → AreFew (n + 1) (jobs_behind script jobs e o)
    go None is = few_more n jobs few
    go (Some j) is = few_outcome n script jobs j e e.outcome few (few_there n jobs _ j few is)

few_led : (n : ℕ) (script : Script) (front : List Entry) (jobs : List ScriptJob) → AreFew n jobs
    → AreFew (n + length front) (fold (after_jobs script) jobs front)
few_led n script [] jobs few = subst (λ k. AreFew k jobs) (omega arith) few
few_led n script (e ∷ front) jobs few =
    subst (λ k. AreFew k (fold (after_jobs script) (after_jobs script jobs e) front)) (omega arith)
    (few_led (n + 1) script front (after_jobs script jobs e) (few_after n script jobs e few))

-- where a front led
few_behind : (script : Script) (front : List Entry) → AreFew (length front) (script_behind script front)
few_behind script front =
    let none : 0 + length front ≡ length front = omega arith in
    subst (λ n. AreFew n (script_behind script front)) none (few_led 0 script front (opening_jobs script) (few_opened script script.outline.jobs))

-- the jobs of a judging have come no further than there are entries
pub jobs_are_few : (s : Setting) (count : ℕ) (before : List Shown) (j : Judging) → IsJudged s count before j → AreFew (length before) j.jobs
jobs_are_few s count before j judged =
    subst (λ (jobs : List ScriptJob). AreFew (length before) jobs) (sym judged.asked)
    (subst (λ n. AreFew n (script_behind s.script judged.front)) (sym (length-map judged.front shown_of) ∙ ap length judged.shows)
    (few_behind s.script judged.front))
