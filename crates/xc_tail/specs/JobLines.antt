-- The lines of the jobs, by what the code is told of them.
use Rattle.std.specs.Prelude.{◌≡◌, ℕ, ◌+◌, ◌==◌, ◌&&◌, ◌||◌, Bool, false, not, nat_eq, nat_le, nat_lt, if◌then◌else◌}
use Rattle.std.specs.Prelude.{List, [], ◌∷◌, ◌++◌, Option}
use Rattle.std.specs.declared.option.Option.TheVariants.{None, Some}
use Rattle.std.specs.Cmp.Lexicographic.{pointwise}
use Rattle.xc_data.specs.declared.entry.JobLine.{JobLine}
use Rattle.xc_lines.specs.declared.shown.JobShown.{JobShown}
use Rattle.xc_lines.specs.declared.shown.JobShown.TheVariants as ended
use Rattle.xc_model.specs.Ending.{AreEnds}
use Rattle.xc_model.specs.Progress.{Following}
use Rattle.xc_model.specs.Setting.{Setting}
use Rattle.xc_model.specs.declared.rules.Rules.{Rules}
use Rattle.xc_sheet.specs.Ends.{lines_of_jobs}
use Rattle.xc_sheet.specs.declared.lines.Line.{Line}
use Rattle.xc_sheet.specs.declared.lines.Line.TheVariants as line
use Rattle.xc_tail.specs.declared.job_left.JobLeft.{JobLeft}

-- whether a job goes on after its last entry, where its client asks it or memory wasn't wanting
abbrev pub goes_on : JobLeft → Bool
goes_on j = j.is_client || not j.is_starved

-- whether a job may have ended so, behind so many entries
abbrev pub ends_so : Rules → ℕ → JobLeft → JobShown → Bool
ends_so rules entries j ended.Done = goes_on j && (j.is_client || not j.is_left)
ends_so rules entries j ended.GaveUp = goes_on j && j.is_left && nat_le rules.attempts j.failed
ends_so rules entries j ended.JournalFull = goes_on j && j.is_left && nat_lt j.failed rules.attempts && nat_le 10000 entries
ends_so rules entries j ended.NoMemory = not j.is_client && j.is_left

-- whether a line is that of a job of this number
abbrev pub is_job_line : Rules → ℕ → ℕ → JobLeft → Line → Bool
is_job_line rules entries number j (line.Job shown block end) =
    shown == number && pointwise nat_eq block j.block && ends_so rules entries j end
-- any other line is not of a job
is_job_line rules entries number j _ = false

-- the lines behind those of all jobs, the first of which has this number; none where these don't come first
abbrev pub behind_jobs : Rules → ℕ → ℕ → List JobLeft → List Line → Option (List Line)
behind_jobs rules entries number [] lines = Some lines
behind_jobs rules entries number (j ∷ jobs) [] = None
behind_jobs rules entries number (j ∷ jobs) (l ∷ lines) =
    if is_job_line rules entries number j l then behind_jobs rules entries (number + 1) jobs lines else None

-- where started jobs stand, and the number of the first
pub record Numbered : Type 0 where
  pub number : ℕ
  pub jobs : List Following

-- these, the first of which has this number
abbrev pub numbered_jobs : ℕ → List Following → Numbered
numbered_jobs number jobs = record { number = number; jobs = jobs }

-- lines that begin with those of the ends of these jobs
abbrev pub HasJobLines : Setting → ℕ → Numbered → List Line → List Line → Type 0
HasJobLines s entries from lines rest =
    (ends : List JobLine) × AreEnds s entries from.jobs ends × (lines ≡ lines_of_jobs from.number ends ++ rest)
