-- The faults that an entry of the journal records.
use Rattle.std.specs.Prelude.{ℕ, ◌+◌, Bool, true, false, count_by, sum_by}
use Rattle.xc_data.specs.declared.call.Reply.{Reply}
use Rattle.xc_data.specs.declared.call.Reply.TheVariants as reply
use Rattle.xc_data.specs.declared.call.LateEnd.{LateEnd}
use Rattle.xc_data.specs.declared.call.LateEnd.TheVariants as late_end
use Rattle.xc_data.specs.declared.entry.Entry.{Entry}
use Rattle.xc_data.specs.declared.entry.Outcome.{Outcome}
use Rattle.xc_data.specs.declared.entry.Outcome.TheVariants.{Committed, Aborted}
use Rattle.xc_data.specs.declared.undo.Undo.{Undo}
use Rattle.xc_data.specs.declared.undo.UndoEnd.{UndoEnd}
use Rattle.xc_data.specs.declared.undo.UndoEnd.TheVariants.{Undone, Failed, Blocked}

-- whether a transaction committed
abbrev pub is_commit : Outcome → Bool
is_commit (Committed late) = true
is_commit (Aborted report) = false

-- whether a call was answered by a fault
abbrev pub is_fault_reply : Reply → Bool
is_fault_reply (reply.Fault n) = true
-- any other reply is none, also one yet to come
is_fault_reply _ = false

-- whether a late call ended in a fault
abbrev pub is_fault_end : LateEnd → Bool
is_fault_end (late_end.Fault n) = true
is_fault_end late_end.Done = false
is_fault_end (late_end.Full n) = false
is_fault_end late_end.Shut = false
is_fault_end late_end.NoName = false
is_fault_end late_end.NoScript = false
is_fault_end (late_end.NoMemory n) = false

-- the faults that a compensation met
abbrev pub end_faults : UndoEnd → ℕ
end_faults (Undone faults) = faults
end_faults (Failed done faults) = faults
end_faults (Blocked by) = 0

-- the faults that a record's compensation met
abbrev pub undo_faults : Undo × UndoEnd → ℕ
undo_faults (undo, end) = end_faults end

-- the late calls that ended in a fault, or the faults of the compensations
abbrev pub outcome_faults : Outcome → ℕ
outcome_faults (Committed late) = count_by is_fault_end late
outcome_faults (Aborted report) = sum_by undo_faults report.records

-- the faults that a reply tells of: its own, or those of a way back
abbrev pub reply_faults : Reply → ℕ
reply_faults (reply.Fault n) = 1
reply_faults (reply.Undone faults) = faults
-- any other reply tells of none, also one yet to come
reply_faults _ = 0

-- the faults that the replies tell of, the late calls that ended in a fault and the faults of the compensations
abbrev pub entry_faults : Entry → ℕ
entry_faults entry = sum_by reply_faults entry.replies + outcome_faults entry.outcome
