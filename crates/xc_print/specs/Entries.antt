-- How entries of the journal are printed.
use Rattle.std.specs.Prelude.{ℕ, ◌+◌, List, [], ◌∷◌, ◌++◌, codes}
use Rattle.std.specs.Fmt.{decimal}
use Rattle.xc_data.specs.declared.call.Call.{Call}
use Rattle.xc_data.specs.declared.call.Reply.{Reply}
use Rattle.xc_data.specs.declared.call.LateEnd.{LateEnd}
use Rattle.xc_data.specs.declared.entry.Cause.{Cause}
use Rattle.xc_data.specs.declared.entry.Cause.TheVariants.{Asked, Conflict, Revoked, NoMemory, Stuck}
use Rattle.xc_data.specs.declared.entry.Entry.{Entry}
use Rattle.xc_data.specs.declared.entry.Outcome.{Outcome}
use Rattle.xc_data.specs.declared.entry.Outcome.TheVariants.{Committed, Aborted}
use Rattle.xc_print.specs.Calls.{call_text}
use Rattle.xc_print.specs.Objects.{object_text, held_line}
use Rattle.xc_print.specs.Records.{undo_lines, remains_lines}
use Rattle.xc_print.specs.Replies.{reply_text, late_end_text}

-- why a transaction was aborted
abbrev pub cause_text : Cause → List ℕ
cause_text Asked = codes "asked"
cause_text (Conflict object holder at) = codes "conflict " ++ object_text object
    ++ codes " holder t" ++ decimal holder ++ codes " at " ++ decimal at
cause_text (Revoked object by at) = codes "revoked " ++ object_text object ++ codes " by t" ++ decimal by ++ codes " at " ++ decimal at
cause_text NoMemory = codes "no memory"
cause_text (Stuck failed) = codes "stuck undo " ++ decimal failed

-- the transaction, its job, its rank and its begin
abbrev pub attempt_text : Entry → List ℕ
attempt_text entry = codes " t" ++ decimal entry.tx ++ codes " job " ++ decimal entry.job
    ++ codes " rank " ++ decimal entry.rank ++ codes " began " ++ decimal entry.began

-- the first word of an entry
abbrev pub outcome_word : Outcome → List ℕ
outcome_word (Committed late) = codes "commit"
outcome_word (Aborted report) = codes "abort"

-- what an abort's first line ends with
abbrev pub outcome_cause : Outcome → List ℕ
outcome_cause (Committed late) = []
outcome_cause (Aborted report) = codes " " ++ cause_text report.cause

-- the first line of an entry
abbrev pub head_line : Entry → List ℕ
head_line entry = outcome_word entry.outcome ++ attempt_text entry ++ outcome_cause entry.outcome ++ codes "\n"

-- the line of a call and its reply
abbrev pub call_line : Call → Reply → List ℕ
call_line call reply = codes "  " ++ call_text call ++ codes " = " ++ reply_text reply ++ codes "\n"

-- the lines of the calls, each with its reply
abbrev pub call_lines : List Call → List Reply → List ℕ
call_lines (call ∷ calls) (reply ∷ replies) = call_line call reply ++ call_lines calls replies
call_lines _ _ = []

-- the line of the late call of this number
abbrev pub late_line : ℕ → LateEnd → List ℕ
late_line number end = codes "  late " ++ decimal number ++ codes " = " ++ late_end_text end ++ codes "\n"

-- the lines of the late calls, the first of which has this number
abbrev pub late_lines : ℕ → List LateEnd → List ℕ
late_lines number [] = []
late_lines number (end ∷ ends) = late_line number end ++ late_lines (number + 1) ends

-- in a commit the late calls; in an abort the compensations and what remains
abbrev pub outcome_lines : Outcome → List ℕ
outcome_lines (Committed late) = late_lines 1 late
outcome_lines (Aborted report) = undo_lines 1 report.records ++ remains_lines report.records

-- an entry's lines
abbrev pub entry_text : Entry → List ℕ
entry_text entry = head_line entry ++ call_lines entry.calls entry.replies ++ outcome_lines entry.outcome ++ held_line entry.held

-- the entries in order
abbrev pub journal_text : List Entry → List ℕ
journal_text [] = []
journal_text (entry ∷ entries) = entry_text entry ++ journal_text entries
