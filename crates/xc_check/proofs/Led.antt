-- Where a front of a journal led: the plain machine and the script at once.
use Rattle.std.proofs.Common.{◌≡◌, ◌∙◌, ℕ, suc, List, [], ◌∷◌, length, refl, ap, sym}
use Rattle.std.specs.List.{fold}
use Rattle.xc_data.specs.declared.entry.Entry.{Entry}
use Rattle.xc_grounds.specs.Numbered.{entry_begins, part_begins}
use Rattle.xc_model.specs.Asked.{ScriptJob, after_jobs, opening_jobs}
use Rattle.xc_model.specs.Course.{Course, after_course, opening_course}
use Rattle.xc_model.specs.Machine.{machine_parts}
use Rattle.xc_model.specs.Progress.{Progress, after_entry, opening_progress, progress_of}
use Rattle.xc_model.specs.Stories.{entry_begin}
use Rattle.xc_text.specs.declared.script.Script.{Script}
use Rattle.xc_turns.proofs.Laws.{course_in, course_more, course_opened, jobs_in, jobs_more, jobs_opened}
use Rattle.xc_check.specs.Fronts.{course_behind, parts_of, script_behind, told_from}

-- ---- from any state on
course_led : (script : Script) (p : Progress) (front : List Entry)
    → fold after_course (course_in p) front ≡ course_in (fold (after_entry script) p front)
course_led script p [] = refl
course_led script p (e ∷ front) =
    ap (λ (c : Course). fold after_course c front) (sym (course_more script p e)) ∙ course_led script (after_entry script p e) front

jobs_led : (script : Script) (p : Progress) (front : List Entry)
    → fold (after_jobs script) (jobs_in p) front ≡ jobs_in (fold (after_entry script) p front)
jobs_led script p [] = refl
jobs_led script p (e ∷ front) =
    ap (λ (jobs : List ScriptJob). fold (after_jobs script) jobs front) (sym (jobs_more script p e)) ∙ jobs_led script (after_entry script p e) front

-- ---- from the opening on
-- the machine's part
pub course_is : (script : Script) (front : List Entry) → course_behind script front ≡ course_in (progress_of script front)
course_is script front =
    ap (λ (c : Course). fold after_course c front) (sym (course_opened script)) ∙ course_led script (opening_progress script) front

-- the script's part
pub jobs_are : (script : Script) (front : List Entry) → script_behind script front ≡ jobs_in (progress_of script front)
jobs_are script front =
    ap (λ (jobs : List ScriptJob). fold (after_jobs script) jobs front) (sym (jobs_opened script)) ∙ jobs_led script (opening_progress script) front

-- ---- what conflicts are judged by
begins_from : (script : Script) (c : Course) (jobs : List ScriptJob) (front : List Entry)
    → part_begins (machine_parts c (told_from script jobs front) front) ≡ entry_begins front
begins_from script c jobs [] = refl
begins_from script c jobs (e ∷ front) =
    ap (λ (bs : List (ℕ × ℕ)). entry_begin e ∷ bs) (begins_from script (after_course c e) (after_jobs script jobs e) front)

count_from : (script : Script) (c : Course) (jobs : List ScriptJob) (front : List Entry)
    → length (machine_parts c (told_from script jobs front) front) ≡ length front
count_from script c jobs [] = refl
count_from script c jobs (e ∷ front) = ap suc (count_from script (after_course c e) (after_jobs script jobs e) front)

-- they have the entries' numbers and begins
pub parts_begin : (script : Script) (front : List Entry) → part_begins (parts_of script front) ≡ entry_begins front
parts_begin script front = begins_from script (opening_course script.outline) (opening_jobs script) front

-- and are as many
pub parts_count : (script : Script) (front : List Entry) → length (parts_of script front) ≡ length front
parts_count script front = count_from script (opening_course script.outline) (opening_jobs script) front
