-- Where a journal leads in a script's run: what the plain machine tells of it, and what the script does.
use Rattle.std.proofs.Common.{◌≡◌, ℕ, ◌+◌, ◌-◌, List, [], ◌∷◌, ◌++◌, map, refl, ap, sym, ◌∙◌}
use Rattle.std.specs.Prelude.{Option, option_map, slice_set}
use Rattle.std.specs.declared.option.Option.TheVariants.{None, Some}
use Rattle.std.proofs.lemmas.List.{map-append}
use Rattle.std.proofs.lemmas.Option.{slice_get-map}
use Rattle.xc_data.proofs.Laws.{map_set}
use Rattle.xc_data.specs.declared.entry.Cause.{Cause}
use Rattle.xc_data.specs.declared.entry.Cause.TheVariants as cause
use Rattle.xc_data.specs.declared.entry.Entry.{Entry}
use Rattle.xc_data.specs.declared.entry.Outcome.{Outcome}
use Rattle.xc_data.specs.declared.entry.Outcome.TheVariants.{Committed, Aborted}
use Rattle.xc_text.specs.declared.script.Script.{Script}
use Rattle.xc_script.specs.Ask.{fresh_job, block_place}
use Rattle.xc_script.specs.Blocks.{kept_calls}
use Rattle.xc_model.specs.Asked.{ScriptJob, after_jobs, job_abort, jobs_behind, jobs_outcome, opening_jobs, script_job_of}
use Rattle.xc_model.specs.Course.{Course, Standing, after_course, course_outcome, course_standing, opening_course, standing_abort, standing_of}
use Rattle.xc_model.specs.Progress.{Following, Progress, after_entry, after_following, after_outcome, committed_job, following_abort, following_of}
use Rattle.xc_model.specs.Progress.{opening_progress, started_blocks, started_following, untried, words_left}

-- ---- lists
-- an image of an image
pub map_twice : {A B C : Type 0} → (f : B → C) (g : A → B) (xs : List A) → map f (map g xs) ≡ map (λ x. f (g x)) xs
map_twice f g [] = refl
map_twice f g (x ∷ xs) = ap (λ zs. f (g x) ∷ zs) (map_twice f g xs)

-- an image of a list of which one is changed, with more after it
image : {A B C : Type 0} → (f : B → C) (xs : List B) (i : ℕ) (y : B) (g : A → B) (zs : List A)
    → map f (slice_set xs i y ++ map g zs) ≡ slice_set (map f xs) i (f y) ++ map (λ z. f (g z)) zs
image f xs i y g zs =
    map-append f (slice_set xs i y) (map g zs) ∙ ap (λ us. us ++ map f (map g zs)) (map_set f xs i y)
    ∙ ap (λ us. slice_set (map f xs) i (f y) ++ us) (map_twice f g zs)

-- ---- the two parts
-- what the machine tells of a job
abbrev pub standing_in : Following → Standing
standing_in f = record { block = f.block; first = f.first; failed = f.failed; starved = f.starved; since = f.since }

-- what the script does
abbrev pub script_job_in : Following → ScriptJob
script_job_in f = record { block = f.block; job = f.job }

-- where a journal led the machine
abbrev pub course_in : Progress → Course
course_in p = record { state = p.state; jobs = map standing_in p.jobs; entered = p.entered; words = p.words }

-- where it led the script
abbrev pub jobs_in : Progress → List ScriptJob
jobs_in p = map script_job_in p.jobs

-- the job of an entry, as the machine tells it
pub standing_there : (p : Progress) (e : Entry) → standing_of (course_in p) e ≡ option_map standing_in (following_of p e)
standing_there p e = slice_get-map standing_in p.jobs (e.job - 1)

-- the same, as the script does
pub script_job_there : (p : Progress) (e : Entry) → script_job_of (jobs_in p) e ≡ option_map script_job_in (following_of p e)
script_job_there p e = slice_get-map script_job_in p.jobs (e.job - 1)

-- ---- after one entry more: the machine's part
abort_standing : (entered : ℕ) (f : Following) (e : Entry) (c : Cause)
    → standing_in (following_abort entered f e c) ≡ standing_abort entered (standing_in f) e c
abort_standing entered f e cause.Asked = refl
abort_standing entered f e cause.NoMemory = refl
abort_standing entered f e (cause.Stuck failed) = refl
abort_standing entered f e (cause.Conflict object holder at) = refl
abort_standing entered f e (cause.Revoked object by at) = refl

outcome_course : (script : Script) (p : Progress) (f : Following) (e : Entry) (o : Outcome)
    → course_in (after_outcome script p f e o) ≡ course_outcome (course_in p) (standing_in f) e o
outcome_course script p f e (Committed late) =
    let job = committed_job script f.job e.calls e.replies late in
    let blocks = started_blocks (kept_calls e.calls e.replies) late in
    let same = image standing_in p.jobs (e.job - 1) (untried f.block job (p.entered + 1)) (started_following script job (p.entered + 1)) blocks in
    ap (λ (js : List Standing). record (course_in (after_outcome script p f e (Committed late))) { jobs = js }) same
outcome_course script p f e (Aborted report) =
    let g = following_abort p.entered f e report.cause in
    let same = map_set standing_in p.jobs (e.job - 1) g ∙ ap (slice_set (map standing_in p.jobs) (e.job - 1)) (abort_standing p.entered f e report.cause) in
    ap (λ (js : List Standing). record (course_in (after_outcome script p f e (Aborted report))) { jobs = js }) same

following_course : (script : Script) (p : Progress) (e : Entry) (m : Option Following)
    → course_in (after_following script p e m) ≡ course_standing (course_in p) e (option_map standing_in m)
following_course script p e None = refl
following_course script p e (Some f) = outcome_course script p f e e.outcome

-- the machine's part goes by itself
pub course_more : (script : Script) (p : Progress) (e : Entry) → course_in (after_entry script p e) ≡ after_course (course_in p) e
course_more script p e =
    ap (λ (c : Course). record c { entered = p.entered + 1; words = words_left p.words e.calls e.outcome })
    (following_course script p e (following_of p e) ∙ ap (course_standing (course_in p) e) (sym (standing_there p e)))

-- ---- the script's part
abort_job : (entered : ℕ) (f : Following) (e : Entry) (c : Cause)
    → script_job_in (following_abort entered f e c) ≡ record (script_job_in f) { job = job_abort f.job c }
abort_job entered f e cause.Asked = refl
abort_job entered f e cause.NoMemory = refl
abort_job entered f e (cause.Stuck failed) = refl
abort_job entered f e (cause.Conflict object holder at) = refl
abort_job entered f e (cause.Revoked object by at) = refl

outcome_jobs : (script : Script) (p : Progress) (f : Following) (e : Entry) (o : Outcome)
    → jobs_in (after_outcome script p f e o) ≡ jobs_outcome script (jobs_in p) (script_job_in f) e o
outcome_jobs script p f e (Committed late) =
    let job = committed_job script f.job e.calls e.replies late in
    let blocks = started_blocks (kept_calls e.calls e.replies) late in
    image script_job_in p.jobs (e.job - 1) (untried f.block job (p.entered + 1)) (started_following script job (p.entered + 1)) blocks
outcome_jobs script p f e (Aborted report) =
    let g = following_abort p.entered f e report.cause in
    map_set script_job_in p.jobs (e.job - 1) g ∙ ap (slice_set (jobs_in p) (e.job - 1)) (abort_job p.entered f e report.cause)

following_jobs : (script : Script) (p : Progress) (e : Entry) (m : Option Following)
    → jobs_in (after_following script p e m) ≡ jobs_behind script (jobs_in p) e (option_map script_job_in m)
following_jobs script p e None = refl
following_jobs script p e (Some f) = outcome_jobs script p f e e.outcome

-- the script's part goes by itself
pub jobs_more : (script : Script) (p : Progress) (e : Entry) → jobs_in (after_entry script p e) ≡ after_jobs script (jobs_in p) e
jobs_more script p e =
    following_jobs script p e (following_of p e) ∙ ap (jobs_behind script (jobs_in p) e) (sym (script_job_there p e))

-- ---- the opening
abbrev fresh_following : Script → List ℕ → Following
fresh_following script name = untried name (fresh_job script (block_place script name)) 0

-- the machine's part of it
pub course_opened : (script : Script) → course_in (opening_progress script) ≡ opening_course script.outline
course_opened script =
    let p = opening_progress script in
    ap (λ (js : List Standing). record (course_in p) { jobs = js }) (map_twice standing_in (fresh_following script) script.outline.jobs)

-- the script's part of it
pub jobs_opened : (script : Script) → jobs_in (opening_progress script) ≡ opening_jobs script
jobs_opened script = map_twice script_job_in (fresh_following script) script.outline.jobs
