-- One call of a transaction's body on the plain machine: the private checks in their order, then
-- the call with what it met at the host.
pub mod Step
pub mod Names
pub mod Files
pub mod Pipes
use Rattle.std.specs.Prelude.{ℕ, length, slice_index, slice_set, if◌then◌else◌}
use Rattle.xc_data.specs.declared.call.Call.{Call}
use Rattle.xc_data.specs.declared.call.Call.TheVariants as call
use Rattle.xc_data.specs.declared.call.Answer.{Answer}
use Rattle.xc_data.specs.declared.call.Answer.TheVariants as answer
use Rattle.xc_data.specs.declared.call.Reply.TheVariants as reply
use Rattle.xc_data.specs.declared.private.Place.TheVariants.{Vacant}
use Rattle.xc_data.specs.declared.private.Private.{Private}
use Rattle.xc_data.specs.Calls.{Appending, CallChange, Creating, MakingPair, MakingPipe, Overwriting, Renaming, Unchanging, traits}
use Rattle.xc_data.specs.Private.{place_of, with_place, lowest_vacant}
use Rattle.xc_world.specs.World.{World}
use Rattle.xc_world.specs.Checks.{is_bad_handle, is_too_big, is_too_much, is_bad_word}
use Rattle.xc_world.specs.Act.Step.{Stepped, step_to, bytes_counted}
use Rattle.xc_world.specs.Act.Names.{open_by_name, creates, renames}
use Rattle.xc_world.specs.Act.Files.{read_at, overwrite_at, append_at, seek_at, len_at, overwrite_short, append_short}
use Rattle.xc_world.specs.Act.Pipes.{new_pipe, read_pipe_at, new_pair, receive_at}

-- a call that passed the checks, where the host does its part
abbrev pub fine : World → Private → ℕ → Call → Stepped
fine w me tx (call.Load at) = step_to w me (reply.Number (slice_index w.words at))
fine w me tx (call.Store at value) = step_to (record w { words = slice_set w.words at value }) me reply.Done
fine w me tx (call.XOpen name) = open_by_name w me name
fine w me tx (call.XCreate name) = creates w me tx name
fine w me tx (call.XRead h n) = read_at w me h n (place_of me.places h)
fine w me tx (call.XWriteOvr h bytes) = overwrite_at w me h bytes (place_of me.places h)
fine w me tx (call.XWriteSeq h bytes) = append_at w me h bytes (place_of me.places h)
fine w me tx (call.XSeek h to) = seek_at w me h to (place_of me.places h)
fine w me tx (call.XLen h) = len_at w me (place_of me.places h)
fine w me tx (call.XRename from to) = renames w me from to
fine w me tx (call.XClose h) = step_to w (with_place me h Vacant) reply.Done
fine w me tx call.XPipe = new_pipe w me tx (lowest_vacant me.places)
fine w me tx (call.XReadPipe h n) = read_pipe_at w me n (place_of me.places h)
fine w me tx call.XPair = new_pair w me tx (lowest_vacant me.places)
fine w me tx (call.XRecvmsg h) = receive_at w me (place_of me.places h)
fine w me tx (call.XUnlink name slot) = step_to w me reply.Late
fine w me tx (call.XSync h slot) = step_to w me reply.Late
fine w me tx (call.XWritePipe h bytes slot) = step_to w me reply.Late
fine w me tx (call.XShutdown h slot) = step_to w me reply.Late
fine w me tx (call.XSendmsg h bytes slot) = step_to w me reply.Late
fine w me tx (call.XThreadCreate body slot) = step_to w me reply.Late
fine w me tx call.Save = step_to w me reply.Done
fine w me tx call.Keep = step_to w me reply.Done
fine w me tx call.Back = step_to w me (reply.Undone 0)

-- such a change, where the host fails after n bytes
abbrev pub faulty_as : World → Private → CallChange → ℕ → Stepped
faulty_as w me (Overwriting h bytes) n = overwrite_short w me (h, place_of me.places h) bytes n
faulty_as w me (Appending h bytes) n = append_short w me (h, place_of me.places h) bytes n
faulty_as w me Unchanging n = step_to w me (reply.Fault n)
faulty_as w me (Creating name) n = step_to w me (reply.Fault n)
faulty_as w me (Renaming from to) n = step_to w me (reply.Fault n)
faulty_as w me MakingPipe n = step_to w me (reply.Fault n)
faulty_as w me MakingPair n = step_to w me (reply.Fault n)

-- a call that passed the checks, where the host fails after n bytes
abbrev pub faulty : World → Private → Call → ℕ → Stepped
faulty w me call n = faulty_as w me (traits call).change n

-- what a call does that its private checks pass, as the host answers it
abbrev pub done : World → Private → ℕ → Call → Answer → Stepped
done w me tx call answer.Fine = fine w me tx call
done w me tx call (answer.Fault n) = faulty w me call n
done w me tx call (answer.Undone n) = step_to w me (reply.Undone n)

-- what a call does: the private checks refuse it, or it is done
abbrev pub act : World → Private → ℕ → Call → Answer → Stepped
act w me tx call answer =
    if is_bad_handle call me then step_to w me reply.BadHandle
    else if is_too_big call then step_to w me reply.TooBig
    else if is_too_much call me then step_to w me reply.TooMuch
    else if is_bad_word call (length w.words) then step_to w me reply.BadWord
    else bytes_counted call (done w me tx call answer)
