-- What is true of a station between two turns, over every host.
use Rattle.std.specs.Prelude.{◌≡◌, ℕ, ◌≤◌, List, [], ◌∷◌, length}
use Rattle.xc_data.specs.declared.entry.JobLine.{JobLine}
use Rattle.xc_text.specs.Scripts.{IsScript}
use Rattle.xc_model.specs.Setting.{Setting}
use Rattle.xc_model.specs.Progress.{opening_progress, progress_of}
use Rattle.xc_model.specs.Ending.{HaveAttemptsLeft}
use Rattle.xc_model.specs.Moment.{JobView, Doing, Ended, Moment}
use Rattle.xc_model.specs.Patience.{NoneIsRevoked}
use Rattle.xc_model.specs.Stories.{StoriesHold}
use Rattle.xc_model.specs.Words.{WordsAgree}
use Rattle.xc_model.specs.Holding.{AreApart}
use Rattle.xc_model.specs.Counted.{AreCounted}
use Rattle.xc_model.specs.Started.{AreStarted}
use Rattle.xc_model.specs.Handling.{HandlesAgree}

-- the rules allow an attempt and a try, and the script was read
pub record IsSet (s : Setting) : Type 0 where
  pub read : IsScript s.script
  pub attempts : 1 ≤ s.rules.attempts
  pub tries : 1 ≤ s.rules.undo_tries

-- the stories, the attempts that were left, the patience, the words, what is held, the count of the host's faults, which was
-- `faults` at the start, the started jobs, and the handles with the calls of the host
pub record IsConsistent (s : Setting) (faults : ℕ) (now : Moment) : Type 0 where
  pub told : StoriesHold s (length now.words) now.marks now.journal now.jobs
  pub attempts : HaveAttemptsLeft s (opening_progress s.script) now.journal
  pub patience : s.rules.patience ≡ 0 → NoneIsRevoked now
  pub spoken : WordsAgree (progress_of s.script now.journal).words now.words now.jobs
  pub apart : AreApart now.jobs
  pub counted : AreCounted faults now
  pub started : AreStarted s.script now
  pub handled : HandlesAgree s told.lasts now.journal now.jobs now.calls

-- ---- jobs that have ended

-- an ended job's line has its block's name and its end
abbrev pub IsLineOf : JobLine → JobView → Doing → Type 0
IsLineOf line job (Ended end) = (line.block ≡ job.block) × (line.end ≡ end)
IsLineOf line job _ = ⊥

-- each job has ended, and has its line
abbrev pub AreLinesOf : List JobView → List JobLine → Type 0
AreLinesOf [] lines = lines ≡ []
AreLinesOf (job ∷ jobs) [] = ⊥
AreLinesOf (job ∷ jobs) (line ∷ lines) = IsLineOf line job job.doing × AreLinesOf jobs lines
