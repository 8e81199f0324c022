-- Lines within the ranges of their types.
use Rattle.std.specs.Prelude.{◌^◌, ◌<◌, List}
use Rattle.std.specs.List.{AllByRecursion}
use Rattle.xc_lines.specs.Ranges.{IsIdent, IsHeadInRange, IsCallInRange, IsReplyInRange, IsLateEndInRange, IsUndoEndInRange}
use Rattle.xc_lines.specs.Ranges.{IsStandingInRange, IsHeldInRange, IsItemInRange}
use Rattle.xc_sheet.specs.declared.lines.Line.{Line}
use Rattle.xc_sheet.specs.declared.lines.Line.TheVariants as line

-- what a line shows is within its ranges
abbrev pub IsLineInRange : Line → Type 0
IsLineInRange (line.Head head) = IsHeadInRange head
IsLineInRange (line.Call call reply) = IsCallInRange call × IsReplyInRange reply
IsLineInRange (line.Late number end) = (number < 2 ^ 64) × IsLateEndInRange end
IsLineInRange (line.Undo number kind end) = (number < 2 ^ 64) × IsUndoEndInRange end
IsLineInRange (line.Remains effect) = IsStandingInRange effect
IsLineInRange (line.Held claims) = IsHeldInRange claims
IsLineInRange (line.Job number block end) = (number < 2 ^ 64) × IsIdent block
IsLineInRange (line.Word at value) = (at < 2 ^ 64) × (value < 2 ^ 64)
IsLineInRange (line.Kept kept) = IsItemInRange kept
IsLineInRange (line.Total committed aborted faults remains) =
    (committed < 2 ^ 64) × (aborted < 2 ^ 64) × (faults < 2 ^ 64) × (remains < 2 ^ 64)

-- the same of each of several lines
abbrev pub AreLinesInRange : List Line → Type 0
AreLinesInRange lines = AllByRecursion IsLineInRange lines
