-- Which line may stand behind which.
use Rattle.std.specs.Prelude.{ℕ, ◌+◌, ◌-◌, ◌^◌, ◌==◌, ◌&&◌, is_none, List, [], ◌∷◌, ◌++◌, nat_lt, Option, Some, None, if◌then◌else◌}
use Rattle.xc_sheet.specs.declared.lines.Line.{Line}
use Rattle.xc_sheet.specs.declared.lines.Line.TheVariants as line
use Rattle.xc_sheet.specs.declared.places.LinePlace.{LinePlace}
use Rattle.xc_sheet.specs.declared.places.LinePlace.TheVariants as place
use Rattle.xc_sheet.specs.Lines.{line_text}

-- behind the words, and the kept data
abbrev pub closing : Line → Option LinePlace
closing (line.Kept item) = Some place.Kept
closing (line.Total committed aborted faults remains) = Some place.Ended
closing (line.Head head) = None
closing (line.Call call reply) = None
closing (line.Late number end) = None
closing (line.Undo number kind end) = None
closing (line.Remains effect) = None
closing (line.Held claims) = None
closing (line.Job number block end) = None
closing (line.Word at value) = None

-- a word, or what stands behind the words
abbrev pub words_from : Line → Option LinePlace
words_from (line.Word at value) = Some place.Words
words_from other = closing other

-- a job, or what stands behind the jobs
abbrev pub jobs_from : Line → Option LinePlace
jobs_from (line.Job number block end) = Some place.Jobs
jobs_from other = words_from other

-- behind an entry
abbrev pub entry_from : Line → Option LinePlace
entry_from (line.Head head) = Some (if is_none head.cause then place.Commits else place.Aborts)
entry_from other = jobs_from other

-- behind an entry's last line but for the held objects
abbrev pub held_from : Line → Option LinePlace
held_from (line.Held claims) = Some place.Between
held_from other = entry_from other

-- the end of the late call of this number
abbrev pub lates_from : ℕ → Line → Option LinePlace
lates_from next (line.Late number end) = if number == next && nat_lt number (2 ^ 32) then Some (place.Lates (next + 1)) else None
lates_from next other = held_from other

-- an effect that stands
abbrev pub effect_line_from : Line → Option LinePlace
effect_line_from (line.Remains effect) = Some place.Remaining
effect_line_from other = held_from other

-- the compensation of this number
abbrev pub undos_from : ℕ → Line → Option LinePlace
undos_from left (line.Undo number kind end) = if number == left then Some (place.Undos (left - 1)) else None
undos_from left (line.Head head) = None
undos_from left (line.Call call reply) = None
undos_from left (line.Late number end) = None
undos_from left (line.Remains effect) = None
undos_from left (line.Held claims) = None
undos_from left (line.Job number block end) = None
undos_from left (line.Word at value) = None
undos_from left (line.Kept item) = None
undos_from left (line.Total committed aborted faults remains) = None

-- behind compensations, with so many to come
abbrev pub undone_from : ℕ → Line → Option LinePlace
undone_from left other = if left == 0 then effect_line_from other else undos_from left other

-- behind the calls of a commit
abbrev pub commit_from : Line → Option LinePlace
commit_from (line.Call call reply) = Some place.Commits
commit_from other = lates_from 1 other

-- behind the calls of an abort, whose newest compensation comes first
abbrev pub abort_from : Line → Option LinePlace
abort_from (line.Call call reply) = Some place.Aborts
abort_from (line.Undo number kind end) = if number == 0 then None else Some (place.Undos (number - 1))
abort_from other = held_from other

-- the place behind a line, none where it may not stand
abbrev pub behind_line : LinePlace → Line → Option LinePlace
behind_line place.Between l = entry_from l
behind_line place.Commits l = commit_from l
behind_line place.Aborts l = abort_from l
behind_line (place.Lates next) l = lates_from next l
behind_line (place.Undos left) l = undone_from left l
behind_line place.Remaining l = effect_line_from l
behind_line place.Jobs l = jobs_from l
behind_line place.Words l = words_from l
behind_line place.Kept l = closing l
behind_line place.Ended l = None

-- the place behind lines
unfoldable pub behind_lines : Option LinePlace → List Line → Option LinePlace
behind_lines None lines = None
behind_lines (Some p) [] = Some p
behind_lines (Some p) (l ∷ lines) = behind_lines (behind_line p l) lines

-- the text of lines
unfoldable pub lines_text : List Line → List ℕ
lines_text [] = []
lines_text (l ∷ lines) = line_text l ++ lines_text lines
