-- What the text of an entry shows of it.
use Rattle.std.specs.Prelude.{◌≡◌, ℕ, ◌+◌, Bool, true, false, List, [], ◌∷◌, ◌++◌, length, map, Option}
use Rattle.std.specs.declared.option.Option.TheVariants.{None, Some}
use Rattle.xc_data.specs.Remaining.{remains_from}
use Rattle.xc_data.specs.declared.entry.Entry.{Entry}
use Rattle.xc_data.specs.declared.entry.JobLine.{JobLine}
use Rattle.xc_data.specs.declared.entry.KeptItem.{KeptItem}
use Rattle.xc_data.specs.declared.entry.Outcome.{Outcome}
use Rattle.xc_data.specs.declared.entry.Outcome.TheVariants.{Committed, Aborted}
use Rattle.xc_data.specs.declared.undo.Undo.{Undo}
use Rattle.xc_data.specs.declared.undo.UndoEnd.{UndoEnd}
use Rattle.xc_print.specs.Kept.{joined}
use Rattle.xc_print.specs.Totals.{totals_of}
use Rattle.xc_lines.specs.declared.shown.EffectShown.{EffectShown}
use Rattle.xc_lines.specs.declared.shown.UndoKind.{UndoKind}
use Rattle.xc_sheet.specs.Ends.{kind_shown, effect_shown, head_shown}
use Rattle.xc_sheet.specs.Ends.{lines_of_calls, lines_of_lates, line_of_held, lines_of_jobs, lines_of_words, lines_of_kept, line_of_totals}
use Rattle.xc_sheet.specs.declared.lines.Line.{Line}
use Rattle.xc_sheet.specs.declared.lines.Line.TheVariants as line
use Rattle.xc_shown.specs.declared.shown.Shown.{Shown}

-- ---- of an entry
-- the records of an outcome
abbrev pub records_of : Outcome → List (Undo × UndoEnd)
records_of (Committed late) = []
records_of (Aborted report) = report.records

-- an outcome without them
abbrev pub bare_outcome : Outcome → Outcome
bare_outcome (Committed late) = Committed late
bare_outcome (Aborted report) = Aborted (record report { records = [] })

-- an entry without them
abbrev pub bare : Entry → Entry
bare e = record e { outcome = bare_outcome e.outcome }

-- a record, as its line shows it
abbrev pub record_shown : Undo × UndoEnd → UndoKind × UndoEnd
record_shown (undo, end) = (kind_shown undo, end)

-- its effect from a place on, none where it doesn't stand
abbrev pub effect_from : Undo → Option ℕ → List EffectShown
effect_from undo None = []
effect_from undo (Some k) = effect_shown undo k ∷ []

-- the effects that stand
abbrev pub effects_shown : List (Undo × UndoEnd) → List EffectShown
effects_shown [] = []
effects_shown ((undo, end) ∷ records) = effect_from undo (remains_from undo end) ++ effects_shown records

-- an entry, as its text shows it
abbrev pub shown_of : Entry → Shown
shown_of e =
    record {
      entry = bare e;
      records = map record_shown (records_of e.outcome);
      effects = effects_shown (records_of e.outcome);
    }

-- each call of an entry has its reply
abbrev pub IsReplied : Entry → Type 0
IsReplied e = length e.calls ≡ length e.replies

-- of a commit neither records nor effects are shown
abbrev pub IsPlain : Outcome → Shown → Type 0
IsPlain (Committed late) shown = (shown.records ≡ []) × (shown.effects ≡ [])
IsPlain (Aborted report) shown = Unit {0}

-- the text of an entry shows this
abbrev pub Shows : Shown → Entry → Type 0
Shows shown e = shown_of e ≡ shown

-- ---- the lines
-- those of records from the newest to the oldest, which has this number
abbrev pub lines_of_records : ℕ → List (UndoKind × UndoEnd) → List Line
lines_of_records number [] = []
lines_of_records number ((kind, end) ∷ records) = lines_of_records (number + 1) records ++ line.Undo number kind end ∷ []

-- those of effects
abbrev pub lines_of_standing : List EffectShown → List Line
lines_of_standing [] = []
lines_of_standing (effect ∷ effects) = line.Remains effect ∷ lines_of_standing effects

-- those of an outcome, with these records and effects
abbrev pub lines_of_outcome_shown : Outcome → Shown → List Line
lines_of_outcome_shown (Committed late) shown = lines_of_lates 1 late
lines_of_outcome_shown (Aborted report) shown = lines_of_records 1 shown.records ++ lines_of_standing shown.effects

-- those of an entry
abbrev pub lines_of_shown : Shown → List Line
lines_of_shown shown =
    line.Head (head_shown shown.entry) ∷ (lines_of_calls shown.entry.calls shown.entry.replies
    ++ (lines_of_outcome_shown shown.entry.outcome shown ++ line_of_held shown.entry.held))

-- those of entries
abbrev pub shown_lines : List Shown → List Line
shown_lines [] = []
shown_lines (shown ∷ more) = lines_of_shown shown ++ shown_lines more

-- those behind the entries
abbrev pub tail_lines : List Entry → List JobLine → List ℕ → List KeptItem → List Line
tail_lines journal jobs words kept =
    lines_of_jobs 1 jobs ++ (lines_of_words 0 words ++ (lines_of_kept (joined kept) ++ line_of_totals (totals_of journal) ∷ []))

-- whether a line is one of an entry
abbrev pub is_of_entry : Line → Bool
is_of_entry (line.Head head) = true
is_of_entry (line.Call call reply) = true
is_of_entry (line.Late number end) = true
is_of_entry (line.Undo number kind end) = true
is_of_entry (line.Remains effect) = true
is_of_entry (line.Held claims) = true
is_of_entry (line.Job number block end) = false
is_of_entry (line.Word at value) = false
is_of_entry (line.Kept item) = false
is_of_entry (line.Total committed aborted faults remains) = false
