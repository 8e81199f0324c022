-- What an entry leads to is what its text shows.
use Rattle.std.proofs.Common.{◌≡◌, ℕ, ◌+◌, ◌-◌, List, map, Option, None, Some, refl, sym, ap, subst, ◌∙◌}
use Rattle.std.specs.Prelude.{slice_set}
use Rattle.xc_data.specs.declared.entry.Cause.{Cause}
use Rattle.xc_data.specs.declared.entry.Cause.TheVariants.{Asked, Stuck, NoMemory}
use Rattle.xc_data.specs.declared.entry.Entry.{Entry}
use Rattle.xc_data.specs.declared.entry.Outcome.{Outcome}
use Rattle.xc_data.specs.declared.entry.Outcome.TheVariants.{Committed, Aborted}
use Rattle.xc_data.specs.declared.call.Call.{Call}
use Rattle.xc_lines.specs.declared.shown.EffectShown.{EffectShown}
use Rattle.xc_model.specs.Asked.{ScriptJob, StartsJobs, IsAskedEntry, jobs_outcome, script_job_of, jobs_behind, after_jobs}
use Rattle.xc_model.specs.Course.{Course, Standing as Job, course_commit, course_outcome, course_standing, standing_abort, standing_of, after_course}
use Rattle.xc_model.specs.EntryEnds.{cause_in}
use Rattle.xc_model.specs.Machine.{machine_part}
use Rattle.xc_model.specs.Progress.{words_left}
use Rattle.xc_script.specs.declared.ask.Ask.{Ask}
use Rattle.xc_shown.specs.Shown.{records_of, bare_outcome, bare, effects_shown, shown_of}
use Rattle.xc_shown.specs.declared.shown.Shown.{Shown}
use Rattle.xc_text.specs.declared.script.Script.{Script}
use Rattle.xc_world.specs.World.{State}
use Rattle.xc_alike.proofs.Standings.{with_all_standing, remains_shown}

-- entries that are shown alike are the same but for their records
bare_alike : (e f : Entry) → shown_of e ≡ shown_of f → bare e ≡ bare f
bare_alike e f alike = ap (λ (shown : Shown). shown.entry) alike

-- what doesn't depend on the records
by_bare : {A : Type 0} (of : Entry → A) → ((e : Entry) → of e ≡ of (bare e)) → (e f : Entry) → shown_of e ≡ shown_of f → of e ≡ of f
by_bare of without e f alike = without e ∙ ap of (bare_alike e f alike) ∙ sym (without f)

-- ---- the course
-- what an outcome leads to, by the effects that are shown
abbrev course_shown : Course → Job → Entry → List EffectShown → Outcome → Course
course_shown c f e effects (Committed late) = course_commit c f e late
course_shown c f e effects (Aborted report) =
    record {
      state = record c.state { world = with_all_standing c.state.world effects };
      jobs = slice_set c.jobs (e.job - 1) (standing_abort c.entered f e report.cause);
      entered = c.entered;
      words = c.words;
    }

-- the same where the job is started
abbrev course_where : Course → Entry → List EffectShown → Option Job → Course
course_where c e effects None = c
course_where c e effects (Some f) = course_shown c f e effects e.outcome

-- after what is shown
abbrev course_after : Course → Shown → Course
course_after c shown =
    record (course_where c shown.entry shown.effects (standing_of c shown.entry)) {
      entered = c.entered + 1;
      words = words_left c.words shown.entry.calls shown.entry.outcome;
    }

-- an abort's job stands as its cause has it
cause_bare : (c : Course) (f : Job) (e : Entry) (cause : Cause) (o : Outcome)
    → standing_abort c.entered f e cause ≡ standing_abort c.entered f (record e { outcome = o }) cause
cause_bare c f e Asked o = refl
cause_bare c f e (Stuck failed) o = refl
cause_bare c f e NoMemory o = refl
cause_bare c f e other o = refl

-- an outcome leads where its effects that are shown do
outcome_led : (c : Course) (f : Job) (e : Entry) (o : Outcome)
    → course_outcome c f e o ≡ course_shown c f (record e { outcome = bare_outcome o }) (effects_shown (records_of o)) (bare_outcome o)
outcome_led c f e (Committed late) = refl
outcome_led c f e (Aborted report) =
    let world = remains_shown report.records c.state.world in
    let standing = cause_bare c f e report.cause (bare_outcome (Aborted report)) in
    (λ i. record {
      state = record c.state { world = world i };
      jobs = slice_set c.jobs (e.job - 1) (standing i);
      entered = c.entered;
      words = c.words;
    })

-- the same where the job is started
where_led : (c : Course) (e : Entry) (f : Option Job)
    → course_standing c e f ≡ course_where c (bare e) (effects_shown (records_of e.outcome)) f
where_led c e None = refl
where_led c e (Some f) = outcome_led c f e e.outcome

-- the words don't depend on the records
words_bare : (words : List ℕ) (calls : List Call) (o : Outcome) → words_left words calls o ≡ words_left words calls (bare_outcome o)
words_bare words calls (Committed late) = refl
words_bare words calls (Aborted report) = refl

-- an entry leads where what is shown does
course_led : (c : Course) (e : Entry) → after_course c e ≡ course_after c (shown_of e)
course_led c e =
    let behind = where_led c e (standing_of c e) in
    let words = words_bare c.words e.calls e.outcome in
    (λ i. record (behind i) { entered = c.entered + 1; words = words i })

-- shown alike, they lead alike
pub course_alike : (e f : Entry) → shown_of e ≡ shown_of f → (c : Course) → after_course c e ≡ after_course c f
course_alike e f alike c = course_led c e ∙ ap (course_after c) alike ∙ sym (course_led c f)

-- ---- what it is judged by
-- the cause doesn't depend on the records
cause_in_bare : (o : Outcome) → cause_in o ≡ cause_in (bare_outcome o)
cause_in_bare (Committed late) = refl
cause_in_bare (Aborted report) = refl

-- nor does what an entry is judged by
part_bare : (state : State) (last : Ask) (e : Entry) → machine_part state last e ≡ machine_part state last (bare e)
part_bare state last e = ap (λ cause. record (machine_part state last e) { cause = cause }) (cause_in_bare e.outcome)

-- shown alike, they are judged alike
pub part_alike : (e f : Entry) → shown_of e ≡ shown_of f → (state : State) (last : Ask) → machine_part state last e ≡ machine_part state last f
part_alike e f alike state last = by_bare (machine_part state last) (part_bare state last) e f alike

-- ---- the script's jobs
-- the jobs behind an outcome don't depend on the records
jobs_by_outcome : (script : Script) (jobs : List ScriptJob) (j : ScriptJob) (e : Entry) (o : Outcome)
    → jobs_outcome script jobs j e o ≡ jobs_outcome script jobs j (bare e) (bare_outcome o)
jobs_by_outcome script jobs j e (Committed late) = refl
jobs_by_outcome script jobs j e (Aborted report) = refl

-- the same where the job is started
jobs_by_job : (script : Script) (jobs : List ScriptJob) (e : Entry) (j : Option ScriptJob)
    → jobs_behind script jobs e j ≡ jobs_behind script jobs (bare e) j
jobs_by_job script jobs e None = refl
jobs_by_job script jobs e (Some j) = jobs_by_outcome script jobs j e e.outcome

-- shown alike, they lead to the same jobs
pub jobs_alike : (e f : Entry) → shown_of e ≡ shown_of f → (script : Script) (jobs : List ScriptJob)
    → after_jobs script jobs e ≡ after_jobs script jobs f
jobs_alike e f alike script jobs = by_bare (after_jobs script jobs) (λ g. jobs_by_job script jobs g (script_job_of jobs g)) e f alike

-- ---- what the script asked
-- without its records an outcome starts the same jobs
starts_bare : (script : Script) (blocks : List (List ℕ)) (e : Entry) (o : Outcome) → StartsJobs script blocks e o
    → StartsJobs script blocks (bare e) (bare_outcome o)
starts_bare script blocks e (Committed late) starts = starts
starts_bare script blocks e (Aborted report) starts = tt

-- and with them too
starts_whole : (script : Script) (blocks : List (List ℕ)) (e : Entry) (o : Outcome) → StartsJobs script blocks (bare e) (bare_outcome o)
    → StartsJobs script blocks e o
starts_whole script blocks e (Committed late) starts = starts
starts_whole script blocks e (Aborted report) starts = tt

-- without its records an entry is asked as it was
asked_bare : (script : Script) (jobs : List ScriptJob) (last : Ask) (e : Entry) → IsAskedEntry script jobs last e → IsAskedEntry script jobs last (bare e)
asked_bare script jobs last e h =
    record {
      asking = h.asking;
      started = h.started;
      asked = record { left = h.asked.left; scripted = λ own. let block = h.asked.scripted own in record { calls = block.calls; after = block.after } };
      starts = starts_bare script (map (λ (j : ScriptJob). j.block) jobs) e e.outcome h.starts;
    }

-- and with them too
asked_whole : (script : Script) (jobs : List ScriptJob) (last : Ask) (e : Entry) → IsAskedEntry script jobs last (bare e) → IsAskedEntry script jobs last e
asked_whole script jobs last e h =
    record {
      asking = h.asking;
      started = h.started;
      asked = record { left = h.asked.left; scripted = λ own. let block = h.asked.scripted own in record { calls = block.calls; after = block.after } };
      starts = starts_whole script (map (λ (j : ScriptJob). j.block) jobs) e e.outcome h.starts;
    }

-- shown alike, they are asked alike
pub asked_alike : (e f : Entry) → shown_of e ≡ shown_of f → (script : Script) (jobs : List ScriptJob) (last : Ask) → IsAskedEntry script jobs last e
    → IsAskedEntry script jobs last f
asked_alike e f alike script jobs last h =
    asked_whole script jobs last f (subst (IsAskedEntry script jobs last) (bare_alike e f alike) (asked_bare script jobs last e h))
