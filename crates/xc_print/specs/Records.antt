-- How compensations and the effects that stand after them are printed.
use Rattle.std.specs.Prelude.{ℕ, ◌+◌, List, [], ◌∷◌, ◌++◌, codes, take, drop, Option}
use Rattle.std.specs.declared.option.Option.TheVariants.{None, Some}
use Rattle.std.specs.Fmt.{decimal}
use Rattle.xc_data.specs.Remaining.{remains_from}
use Rattle.xc_data.specs.declared.object.Num.{Num}
use Rattle.xc_data.specs.declared.undo.Undo.{Undo}
use Rattle.xc_data.specs.declared.undo.Undo.TheVariants.{Overwrite, Append, Create, Rename, NewPipe, NewPair}
use Rattle.xc_data.specs.declared.undo.UndoEnd.{UndoEnd}
use Rattle.xc_data.specs.declared.undo.UndoEnd.TheVariants.{Undone, Failed, Blocked}
use Rattle.xc_print.specs.Bytes.{bytes_text}
use Rattle.xc_print.specs.Objects.{num_text}

-- what a record is of
abbrev pub kind_text : Undo → List ℕ
kind_text (Overwrite file at before after n) = codes "bytes"
kind_text (Append file from after n) = codes "tail"
kind_text (Create name num) = codes "made"
kind_text (Rename from to) = codes "moved"
kind_text (NewPipe num) = codes "pipe"
kind_text (NewPair num) = codes "pair"

-- how a compensation ended
abbrev pub undo_end_text : UndoEnd → List ℕ
undo_end_text (Undone faults) = codes "done faults " ++ decimal faults
undo_end_text (Failed done faults) = codes "failed restored " ++ decimal done ++ codes " faults " ++ decimal faults
undo_end_text (Blocked by) = codes "blocked by " ++ decimal by

-- the line of the record of this number
abbrev pub undo_line : ℕ → Undo × UndoEnd → List ℕ
undo_line number (undo, end) = codes "  undo " ++ decimal number ++ codes " " ++ kind_text undo
    ++ codes " " ++ undo_end_text end ++ codes "\n"

-- the lines of the records from the newest to the oldest, which has this number
abbrev pub undo_lines : ℕ → List (Undo × UndoEnd) → List ℕ
undo_lines number [] = []
undo_lines number (record_end ∷ records) = undo_lines (number + 1) records ++ undo_line number record_end

-- bytes of an overwrite from a place of a file on
abbrev pub overwrite_text : Num → ℕ → List ℕ → List ℕ
overwrite_text file at bytes = codes "bytes file " ++ num_text file ++ codes " at " ++ decimal at ++ codes " " ++ bytes_text bytes

-- appended bytes, which a file has from a place on
abbrev pub tail_text : Num → ℕ → List ℕ → List ℕ
tail_text file from bytes = codes "tail file " ++ num_text file ++ codes " from " ++ decimal from ++ codes " " ++ bytes_text bytes

-- a new name and its file
abbrev pub made_text : List ℕ → Num → List ℕ
made_text name num = codes "made " ++ name ++ codes " file " ++ num_text num

-- a file's name before, and its name now
abbrev pub moved_text : List ℕ → List ℕ → List ℕ
moved_text from to = codes "moved " ++ from ++ codes " " ++ to

-- an effect of which the covered bytes stand from the k-th on
abbrev pub effect_text : Undo → ℕ → List ℕ
effect_text (Overwrite file at before after n) k = overwrite_text file (at + k) (drop k (take n after))
effect_text (Append file from after n) k = tail_text file from (take n after)
effect_text (Create name num) k = made_text name num
effect_text (Rename from to) k = moved_text from to
effect_text (NewPipe num) k = codes "pipe " ++ num_text num
effect_text (NewPair num) k = codes "pair " ++ num_text num

-- the line of an effect that stands from a place on, none where it doesn't stand
abbrev pub remaining_line : Undo → Option ℕ → List ℕ
remaining_line undo None = []
remaining_line undo (Some k) = codes "  remains " ++ effect_text undo k ++ codes "\n"

-- the lines of the standing effects in the order of the calls
abbrev pub remains_lines : List (Undo × UndoEnd) → List ℕ
remains_lines [] = []
remains_lines ((undo, end) ∷ records) = remaining_line undo (remains_from undo end) ++ remains_lines records
