-- The lines of an end: its entries, jobs, words and kept data, and the totals.
use Rattle.std.specs.Prelude.{ℕ, ◌+◌, ◌==◌, List, [], ◌∷◌, ◌++◌, take, drop, Option, if◌then◌else◌}
use Rattle.std.specs.declared.option.Option.TheVariants.{None, Some}
use Rattle.xc_data.specs.Remaining.{remains_from}
use Rattle.xc_data.specs.declared.call.Call.{Call}
use Rattle.xc_data.specs.declared.call.LateEnd.{LateEnd}
use Rattle.xc_data.specs.declared.call.Reply.{Reply}
use Rattle.xc_data.specs.declared.claim.Claim.{Claim}
use Rattle.xc_data.specs.declared.entry.Cause.{Cause}
use Rattle.xc_data.specs.declared.entry.Entry.{Entry}
use Rattle.xc_data.specs.declared.entry.JobEnd.{JobEnd}
use Rattle.xc_data.specs.declared.entry.JobEnd.TheVariants as job_end
use Rattle.xc_data.specs.declared.entry.JobLine.{JobLine}
use Rattle.xc_data.specs.declared.entry.KeptItem.{KeptItem}
use Rattle.xc_data.specs.declared.entry.Outcome.{Outcome}
use Rattle.xc_data.specs.declared.entry.Outcome.TheVariants.{Committed, Aborted}
use Rattle.xc_data.specs.declared.undo.Undo.{Undo}
use Rattle.xc_data.specs.declared.undo.Undo.TheVariants as undoing
use Rattle.xc_data.specs.declared.undo.UndoEnd.{UndoEnd}
use Rattle.xc_print.specs.Kept.{joined}
use Rattle.xc_print.specs.Totals.{totals_of}
use Rattle.xc_print.specs.declared.totals.Totals.{Totals}
use Rattle.xc_lines.specs.declared.heads.Head.{Head}
use Rattle.xc_lines.specs.declared.shown.JobShown.{JobShown}
use Rattle.xc_lines.specs.declared.shown.JobShown.TheVariants as ended
use Rattle.xc_lines.specs.declared.shown.EffectShown.{EffectShown}
use Rattle.xc_lines.specs.declared.shown.EffectShown.TheVariants as standing
use Rattle.xc_lines.specs.declared.shown.UndoKind.{UndoKind}
use Rattle.xc_lines.specs.declared.shown.UndoKind.TheVariants as kind
use Rattle.xc_sheet.specs.declared.lines.Line.{Line}
use Rattle.xc_sheet.specs.declared.lines.Line.TheVariants as line

-- ---- what lines show
-- the kind of a record
abbrev pub kind_shown : Undo → UndoKind
kind_shown (undoing.Overwrite file at before after n) = kind.Bytes
kind_shown (undoing.Append file from after n) = kind.Tail
kind_shown (undoing.Create name num) = kind.Made
kind_shown (undoing.Rename from to) = kind.Moved
kind_shown (undoing.NewPipe num) = kind.Pipe
kind_shown (undoing.NewPair num) = kind.Pair

-- the effect of a record, from this place of its covered bytes on
abbrev pub effect_shown : Undo → ℕ → EffectShown
effect_shown (undoing.Overwrite file at before after n) k = standing.Bytes file (at + k) (drop k (take n after))
effect_shown (undoing.Append file from after n) k = standing.Tail file from (take n after)
effect_shown (undoing.Create name num) k = standing.Made name num
effect_shown (undoing.Rename from to) k = standing.Moved from to
effect_shown (undoing.NewPipe num) k = standing.Pipe num
effect_shown (undoing.NewPair num) k = standing.Pair num

-- how a job ended
abbrev pub job_end_shown : JobEnd → JobShown
job_end_shown job_end.Done = ended.Done
job_end_shown (job_end.GaveUp cause) = ended.GaveUp
job_end_shown job_end.JournalFull = ended.JournalFull
job_end_shown job_end.NoMemory = ended.NoMemory

-- why an entry isn't a commit
abbrev pub cause_shown : Outcome → Option Cause
cause_shown (Committed late) = None
cause_shown (Aborted report) = Some report.cause

-- the first line of an entry
abbrev pub head_shown : Entry → Head
head_shown e = record { tx = e.tx; job = e.job; rank = e.rank; began = e.began; cause = cause_shown e.outcome }

-- ---- the lines of an entry
-- those of its calls
abbrev pub lines_of_calls : List Call → List Reply → List Line
lines_of_calls (call ∷ calls) (reply ∷ replies) = line.Call call reply ∷ lines_of_calls calls replies
lines_of_calls _ _ = []

-- those of the ends of late calls, the first of which has this number
abbrev pub lines_of_lates : ℕ → List LateEnd → List Line
lines_of_lates number [] = []
lines_of_lates number (end ∷ ends) = line.Late number end ∷ lines_of_lates (number + 1) ends

-- those of compensations from the newest to the oldest, which has this number
abbrev pub lines_of_undos : ℕ → List (Undo × UndoEnd) → List Line
lines_of_undos number [] = []
lines_of_undos number ((undo, end) ∷ records) = lines_of_undos (number + 1) records ++ line.Undo number (kind_shown undo) end ∷ []

-- that of an effect which stands from a place on, none where it doesn't stand
abbrev pub line_of_effect : Undo → Option ℕ → List Line
line_of_effect undo None = []
line_of_effect undo (Some k) = line.Remains (effect_shown undo k) ∷ []

-- those of the effects that stand
abbrev pub lines_of_effects : List (Undo × UndoEnd) → List Line
lines_of_effects [] = []
lines_of_effects ((undo, end) ∷ records) = line_of_effect undo (remains_from undo end) ++ lines_of_effects records

-- those of an outcome
abbrev pub lines_of_outcome : Outcome → List Line
lines_of_outcome (Committed late) = lines_of_lates 1 late
lines_of_outcome (Aborted report) = lines_of_undos 1 report.records ++ lines_of_effects report.records

-- that of the held objects, none where none is held
abbrev pub line_of_held : List Claim → List Line
line_of_held [] = []
line_of_held (claim ∷ claims) = line.Held (claim ∷ claims) ∷ []

-- those of an entry
abbrev pub lines_of_entry : Entry → List Line
lines_of_entry e = line.Head (head_shown e) ∷ (lines_of_calls e.calls e.replies ++ (lines_of_outcome e.outcome ++ line_of_held e.held))

-- ---- the lines of an end
-- those of the entries
abbrev pub lines_of_entries : List Entry → List Line
lines_of_entries [] = []
lines_of_entries (e ∷ entries) = lines_of_entry e ++ lines_of_entries entries

-- those of the jobs, the first of which has this number
abbrev pub lines_of_jobs : ℕ → List JobLine → List Line
lines_of_jobs number [] = []
lines_of_jobs number (job ∷ jobs) = line.Job number job.block (job_end_shown job.end) ∷ lines_of_jobs (number + 1) jobs

-- that of a word, none where it is 0
abbrev pub line_of_word : ℕ → ℕ → List Line
line_of_word at value = if value == 0 then [] else line.Word at value ∷ []

-- those of the words from a place on
abbrev pub lines_of_words : ℕ → List ℕ → List Line
lines_of_words at [] = []
lines_of_words at (value ∷ values) = line_of_word at value ++ lines_of_words (at + 1) values

-- those of kept data
abbrev pub lines_of_kept : List KeptItem → List Line
lines_of_kept [] = []
lines_of_kept (item ∷ items) = line.Kept item ∷ lines_of_kept items

-- the last line
abbrev pub line_of_totals : Totals → Line
line_of_totals t = line.Total t.committed t.aborted t.faults t.remains

-- all lines
abbrev pub end_lines : List Entry → List JobLine → List ℕ → List KeptItem → List Line
end_lines journal jobs words kept = lines_of_entries journal ++ (lines_of_jobs 1 jobs ++ (lines_of_words 0 words
    ++ (lines_of_kept (joined kept) ++ line_of_totals (totals_of journal) ∷ [])))
