-- A front of a journal, and where it led.
use Rattle.std.specs.Prelude.{ℕ, ◌&&◌, not, Bool, List, [], ◌∷◌, length, map}
use Rattle.std.specs.List.{fold}
use Rattle.xc_data.specs.declared.entry.Entry.{Entry}
use Rattle.xc_asked.specs.Walking.{last_told}
use Rattle.xc_grounds.specs.Numbered.{AreNumbered, entry_begins}
use Rattle.xc_model.specs.Asked.{AreAskedBy, ScriptJob, after_jobs, opening_jobs, script_job_of}
use Rattle.xc_model.specs.Course.{Course, after_course, opening_course}
use Rattle.xc_model.specs.Grounds.{Part}
use Rattle.xc_model.specs.Live.{has_clients}
use Rattle.xc_model.specs.Machine.{AreMachineTrue, machine_parts}
use Rattle.xc_model.specs.Stories.{entry_begin}
use Rattle.xc_model.specs.Setting.{Setting}
use Rattle.xc_model.specs.Progress.{progress_of}
use Rattle.xc_model.specs.Truth.{terms_of}
use Rattle.xc_print.specs.Totals.{totals_of}
use Rattle.xc_script.specs.declared.ask.Ask.{Ask}
use Rattle.xc_shown.specs.declared.shown.Shown.{Shown}
use Rattle.xc_tail.specs.Tails.{Led}
use Rattle.xc_text.specs.declared.script.Script.{Script}

-- the numbers of entries that are shown so, and where they began
abbrev pub begins_shown : List Shown → List (ℕ × ℕ)
begins_shown entries = map (λ (shown : Shown). entry_begin shown.entry) entries

-- where it led the plain machine
abbrev pub course_behind : Script → List Entry → Course
course_behind script front = fold after_course (opening_course script.outline) front

-- where it led the script
abbrev pub script_behind : Script → List Entry → List ScriptJob
script_behind script front = fold (after_jobs script) (opening_jobs script) front

-- what was asked last of an entry that stands behind it; of clients as far as a text tells it
abbrev pub last_behind : Script → List Entry → Entry → Ask
last_behind script front e = last_told script (script_job_of (script_behind script front) e) e

-- the same of each entry, from these jobs on
abbrev pub told_from : Script → List ScriptJob → List Entry → List Ask
told_from script jobs [] = []
told_from script jobs (e ∷ front) = last_told script (script_job_of jobs e) e ∷ told_from script (after_jobs script jobs e) front

-- the same of a front
abbrev pub lasts_told : Script → List Entry → List Ask
lasts_told script front = told_from script (opening_jobs script) front

-- what its conflicts and revocations are judged by
abbrev pub parts_of : Script → List Entry → List Part
parts_of script front = machine_parts (opening_course script.outline) (lasts_told script front) front

-- whether it is known which call met a holder: over a host that tells, where no client asked
abbrev pub are_calls_known : Setting → Bool
are_calls_known s = s.tells && not (has_clients s.script)

-- its entries are true, but for conflicts and revocations, as the first of so many
pub record IsTrueFront (s : Setting) (count : ℕ) (front : List Entry) : Type 0 where
  pub numbered : AreNumbered count (entry_begins front)
  pub machine : AreMachineTrue (terms_of s) (opening_course s.script.outline) (lasts_told s.script front) front
  pub asked : AreAskedBy s.script (opening_jobs s.script) (lasts_told s.script front) front

-- where a journal led, as the lines behind its entries say
abbrev pub journal_led : Script → List Entry → Led
journal_led script journal =
    record {
      entries = length journal;
      jobs = (progress_of script journal).jobs;
      world = (progress_of script journal).state.world;
      totals = totals_of journal;
    }
