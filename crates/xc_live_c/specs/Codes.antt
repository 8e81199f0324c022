-- The numbers that C is told.
use Rattle.std.specs.Prelude.{ℕ, ℤ, pos, nat_le, length, if◌then◌else◌}
use Rattle.xc_data.specs.declared.call.Reply.{Reply}
use Rattle.xc_data.specs.declared.call.Reply.TheVariants as reply
use Rattle.xc_data.specs.declared.entry.Cause.{Cause}
use Rattle.xc_data.specs.declared.entry.Cause.TheVariants as cause
use Rattle.xc_live.specs.declared.answers.Began.{Began}
use Rattle.xc_live.specs.declared.answers.Began.TheVariants as began
use Rattle.xc_live.specs.declared.answers.Called.{Called}
use Rattle.xc_live.specs.declared.answers.Called.TheVariants as called
use Rattle.xc_live.specs.declared.answers.Ended.{Ended}
use Rattle.xc_live.specs.declared.answers.Ended.TheVariants as ended

-- of a begin: it began, it waits, or the client begins no more; there is no memory for it, or too many entries wait
abbrev pub began_code : Began → ℤ
began_code began.Went = pos 0
began_code (began.Waits holder) = pos 1
began_code (began.Ended end) = pos 4
began_code began.NoMemory = pos 14
began_code began.Full = pos 16

-- of a call: it replied, its transaction is to begin again, or it was misplaced
abbrev pub called_code : Called → ℤ
called_code called.Replied = pos 0
called_code (called.Again why) = pos 2
called_code called.Refused = pos 7
called_code called.Gone = pos 2

-- of a transaction that was rolled back: as asked, or not
abbrev pub cause_code : Cause → ℤ
cause_code cause.Asked = pos 3
cause_code (cause.Conflict object holder when) = pos 2
cause_code (cause.Revoked object by when) = pos 2
cause_code cause.NoMemory = pos 2
cause_code (cause.Stuck failed) = pos 2

-- of a commit and of an abort
abbrev pub ended_code : Ended → ℤ
ended_code (ended.Committed entry) = pos 0
ended_code (ended.Aborted entry why) = cause_code why
ended_code ended.Gone = pos 2

-- the kinds of replies: the first nine are no refusals
abbrev pub kind_number : Reply → ℕ
kind_number (reply.Number n) = 1
kind_number (reply.Got bytes) = 2
kind_number (reply.Made handle) = 3
kind_number (reply.MadePair one other) = 4
kind_number reply.Done = 5
kind_number reply.Late = 6
kind_number (reply.Undone faults) = 7
kind_number reply.End = 8
kind_number reply.Empty = 9
kind_number reply.NoName = 10
kind_number reply.Exists = 11
kind_number reply.BadHandle = 12
kind_number reply.PastEnd = 13
kind_number reply.TooBig = 14
kind_number reply.TooMuch = 15
kind_number reply.BadWord = 16
kind_number (reply.Fault done) = 17

-- of a call that replied: whether it was refused
abbrev pub reply_code : Reply → ℤ
reply_code r = if nat_le (kind_number r) 9 then pos 0 else pos 12

-- a reply's number, its handle, or its count of bytes or of faults
abbrev pub value_of : Reply → ℕ
value_of (reply.Number n) = n
value_of (reply.Got bytes) = length bytes
value_of (reply.Made handle) = handle
value_of (reply.MadePair one other) = one
value_of reply.Done = 0
value_of reply.Late = 0
value_of (reply.Undone faults) = faults
value_of reply.End = 0
value_of reply.Empty = 0
value_of reply.NoName = 0
value_of reply.Exists = 0
value_of reply.BadHandle = 0
value_of reply.PastEnd = 0
value_of reply.TooBig = 0
value_of reply.TooMuch = 0
value_of reply.BadWord = 0
value_of (reply.Fault done) = done

-- the handle of the other side of a new pair
abbrev pub other_of : Reply → ℕ
other_of (reply.MadePair one other) = other
-- no other reply has one, nor may one yet to come
other_of r = 0
