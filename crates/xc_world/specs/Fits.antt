-- Which answers of the host fit a call, and a late call.
use Rattle.std.specs.Prelude.{ℕ, ◌==◌, ◌&&◌, Bool, true, false, not, min, length, nat_lt, nat_le, if◌then◌else◌}
use Rattle.xc_data.specs.declared.call.Call.{Call}
use Rattle.xc_data.specs.declared.call.Call.TheVariants as call
use Rattle.xc_data.specs.declared.call.Answer.{Answer}
use Rattle.xc_data.specs.declared.call.Answer.TheVariants as answer
use Rattle.xc_data.specs.declared.call.Reply.{Reply}
use Rattle.xc_data.specs.declared.call.Reply.TheVariants as reply
use Rattle.xc_data.specs.declared.call.LateCall.{LateCall}
use Rattle.xc_data.specs.declared.call.LateCall.TheVariants.{WritePipe, Thread, Unlink, Sync, Shutdown, Send}
use Rattle.xc_data.specs.declared.call.LateAnswer.{LateAnswer}
use Rattle.xc_data.specs.declared.call.LateAnswer.TheVariants as late_answer
use Rattle.xc_data.specs.declared.call.LateEnd.{LateEnd}
use Rattle.xc_data.specs.declared.call.LateEnd.TheVariants as end
use Rattle.xc_data.specs.declared.private.Private.{Private}
use Rattle.xc_world.specs.World.{World, pipe_of}
use Rattle.xc_world.specs.Checks.{is_refused}
use Rattle.xc_data.specs.Calls.{Appending, CallChange, Creating, MakingPair, MakingPipe, Overwriting, Renaming, Unchanging}
use Rattle.xc_data.specs.Calls.{bytes_of, traits}
use Rattle.xc_world.specs.Act.{fine}
use Rattle.xc_world.specs.Late.{room}
use Rattle.xc_world.specs.Sound.{late_bytes_of}

-- the call asks something of the host
abbrev pub asks_host : Call → Bool
asks_host call = (traits call).is_asking

-- whether it is a write to a file
abbrev pub is_writing : CallChange → Bool
is_writing (Overwriting h bytes) = true
is_writing (Appending h bytes) = true
is_writing Unchanging = false
is_writing (Creating name) = false
is_writing (Renaming from to) = false
is_writing MakingPipe = false
is_writing MakingPair = false

-- whether a call writes to a file
abbrev pub is_write : Call → Bool
is_write call = is_writing (traits call).change

-- whether a reply is `Done`
abbrev pub is_done : Reply → Bool
is_done reply.Done = true
-- any other reply is not, nor one yet to come
is_done _ = false

-- a write that would be done stops before its last byte
abbrev pub may_stop : World → Private → ℕ → Call → ℕ → Bool
may_stop w me tx call n = is_write call && is_done (fine w me tx call).reply && nat_lt n (length (bytes_of call))

-- whether a call goes back
abbrev pub is_back : Call → Bool
is_back call.Back = true
-- no other call does
is_back _ = false

-- faults on a way back fit that call alone; a fault fits what passes the private checks: with no byte done, what asks the host; else such
-- a write
abbrev pub fits : World → Private → ℕ → Call → Answer → Bool
fits w me tx call answer.Fine = true
fits w me tx call (answer.Fault n) =
    not (is_refused call me (length w.words)) && (if n == 0 then asks_host call else may_stop w me tx call n)
fits w me tx call (answer.Undone n) = is_back call

-- ---- late calls
abbrev pub is_thread : LateCall → Bool
is_thread (Thread body) = true
is_thread (Unlink name) = false
is_thread (Sync num) = false
is_thread (WritePipe num bytes) = false
is_thread (Shutdown object) = false
is_thread (Send num side bytes) = false

-- a write to a pipe stops before the last byte that would be put
abbrev pub late_may_stop : World → LateCall → ℕ → Bool
late_may_stop w (WritePipe num bytes) n = not (pipe_of w num).shut && nat_lt n (min (length bytes) (room (pipe_of w num)))
late_may_stop w (Unlink name) n = false
late_may_stop w (Sync num) n = false
late_may_stop w (Shutdown object) n = false
late_may_stop w (Send num side bytes) n = false
late_may_stop w (Thread body) n = false

-- with no byte done a fault fits all but a thread call, and lack of memory fits all
abbrev pub late_fits : World → LateCall → LateAnswer → Bool
late_fits w c late_answer.Fine = true
late_fits w c (late_answer.Fault n) = if n == 0 then not (is_thread c) else late_may_stop w c n
late_fits w c (late_answer.NoMemory n) = if n == 0 then true else late_may_stop w c n

-- how many bytes are done where a late call stops
abbrev pub late_bytes_done : LateAnswer → ℕ
late_bytes_done late_answer.Fine = 0
late_bytes_done (late_answer.Fault n) = n
late_bytes_done (late_answer.NoMemory n) = n

-- they are at most the bytes that the call carries
abbrev pub is_late_within : LateCall → LateAnswer → Bool
is_late_within c answer = nat_le (late_bytes_done answer) (length (late_bytes_of c))

-- ---- the answers that an entry records
abbrev pub answer_of : Reply → Answer
answer_of (reply.Fault n) = answer.Fault n
answer_of (reply.Undone n) = answer.Undone n
-- any other reply tells of no fault, also one yet to come
answer_of _ = answer.Fine

-- the answer that a late call's end tells of
abbrev pub late_answer_of : LateEnd → LateAnswer
late_answer_of (end.Fault n) = late_answer.Fault n
late_answer_of (end.NoMemory n) = late_answer.NoMemory n
late_answer_of end.Done = late_answer.Fine
late_answer_of (end.Full n) = late_answer.Fine
late_answer_of end.Shut = late_answer.Fine
late_answer_of end.NoName = late_answer.Fine
late_answer_of end.NoScript = late_answer.Fine
