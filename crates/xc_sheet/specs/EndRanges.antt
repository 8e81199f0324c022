-- Ends within the ranges of their types.
use Rattle.std.specs.Prelude.{ℕ, ◌^◌, ◌<◌, ◌≤◌, List, length}
use Rattle.std.specs.List.{AllByRecursion}
use Rattle.xc_data.specs.declared.entry.Entry.{Entry}
use Rattle.xc_data.specs.declared.entry.JobLine.{JobLine}
use Rattle.xc_data.specs.declared.entry.KeptItem.{KeptItem}
use Rattle.xc_data.specs.declared.entry.Outcome.{Outcome}
use Rattle.xc_data.specs.declared.entry.Outcome.TheVariants.{Committed, Aborted}
use Rattle.xc_data.specs.declared.undo.Undo.{Undo}
use Rattle.xc_data.specs.declared.undo.Undo.TheVariants as undoing
use Rattle.xc_data.specs.declared.undo.UndoEnd.{UndoEnd}
use Rattle.xc_print.specs.Totals.{totals_of}
use Rattle.xc_print.specs.declared.totals.Totals.{Totals}
use Rattle.xc_lines.specs.Ranges.{IsName, IsIdent, AreBytes, IsNumInRange, IsHeadInRange, IsCallInRange, IsReplyInRange, IsLateEndInRange}
use Rattle.xc_lines.specs.Ranges.{IsUndoEndInRange, IsItemInRange, AreClaimsInRange}
use Rattle.xc_sheet.specs.Ends.{head_shown}

-- a record
abbrev pub IsUndoInRange : Undo → Type 0
IsUndoInRange (undoing.Overwrite file at before after n) = IsNumInRange file × (at < 2 ^ 32) × AreBytes after
IsUndoInRange (undoing.Append file from after n) = IsNumInRange file × (from < 2 ^ 32) × AreBytes after
IsUndoInRange (undoing.Create name num) = IsName name × IsNumInRange num
IsUndoInRange (undoing.Rename from to) = IsName from × IsName to
IsUndoInRange (undoing.NewPipe num) = IsNumInRange num
IsUndoInRange (undoing.NewPair num) = IsNumInRange num

-- a record with its end
abbrev pub IsRecordInRange : Undo × UndoEnd → Type 0
IsRecordInRange (undo, end) = IsUndoInRange undo × IsUndoEndInRange end

-- what an outcome has
abbrev pub IsOutcomeInRange : Outcome → Type 0
IsOutcomeInRange (Committed late) = (length late < 2 ^ 32) × AllByRecursion IsLateEndInRange late
IsOutcomeInRange (Aborted report) = (length report.records < 2 ^ 32) × AllByRecursion IsRecordInRange report.records

-- an entry
pub record IsEntryInRange (e : Entry) : Type 0 where
  pub head : IsHeadInRange (head_shown e)
  pub calls : AllByRecursion IsCallInRange e.calls
  pub replies : AllByRecursion IsReplyInRange e.replies
  pub outcome : IsOutcomeInRange e.outcome
  pub held : AreClaimsInRange e.held
  pub few : length e.held ≤ 2 ^ 26

-- the name of a job
abbrev pub IsJobInRange : JobLine → Type 0
IsJobInRange job = IsIdent job.block

-- a word
abbrev pub IsWordInRange : ℕ → Type 0
IsWordInRange value = value < 2 ^ 64

-- the numbers of the last line
pub record AreTotalsInRange (t : Totals) : Type 0 where
  pub committed : t.committed < 2 ^ 64
  pub aborted : t.aborted < 2 ^ 64
  pub faults : t.faults < 2 ^ 64
  pub remains : t.remains < 2 ^ 64

-- an end
pub record IsEndInRange (journal : List Entry) (jobs : List JobLine) (words : List ℕ) (kept : List KeptItem) : Type 0 where
  pub entries : AllByRecursion IsEntryInRange journal
  pub each_job : AllByRecursion IsJobInRange jobs
  pub few_jobs : length jobs < 2 ^ 32
  pub each_word : AllByRecursion IsWordInRange words
  pub few_words : length words < 2 ^ 32
  pub items : AllByRecursion IsItemInRange kept
  pub totals : AreTotalsInRange (totals_of journal)
