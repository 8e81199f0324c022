-- Late calls: what a call leaves to be done after the commit, and how that ends.
use Rattle.std.specs.Prelude.{ℕ, ◌-◌, ◌==◌, ◌||◌, Bool, true, not, min, Option, List, [], ◌∷◌, ◌++◌, length, take, nat_lt, nat_le}
use Rattle.std.specs.Prelude.{nat_eq, if◌then◌else◌}
use Rattle.std.specs.declared.option.Option.TheVariants.{None, Some}
use Rattle.std.specs.FinMap as map
use Rattle.std.specs.List.{list_any}
use Rattle.std.specs.Cmp.Lexicographic.{pointwise}
use Rattle.xc_data.specs.declared.object.Num.{Num}
use Rattle.xc_data.specs.declared.object.Object.{Object}
use Rattle.xc_data.specs.declared.object.Object.TheVariants as object
use Rattle.xc_data.specs.declared.call.Call.{Call}
use Rattle.xc_data.specs.declared.call.Reply.{Reply}
use Rattle.xc_data.specs.declared.call.Reply.TheVariants as reply
use Rattle.xc_data.specs.declared.call.LateCall.{LateCall}
use Rattle.xc_data.specs.declared.call.LateCall.TheVariants.{Unlink, Sync, WritePipe, Shutdown, Send, Thread}
use Rattle.xc_data.specs.declared.call.LateEnd.{LateEnd}
use Rattle.xc_data.specs.declared.call.LateEnd.TheVariants as end
use Rattle.xc_data.specs.declared.call.LateAnswer.{LateAnswer}
use Rattle.xc_data.specs.declared.call.LateAnswer.TheVariants as late_answer
use Rattle.xc_data.specs.declared.private.Private.{Private}
use Rattle.xc_data.specs.Calls.{late_call}
use Rattle.xc_world.specs.World.{World, Pipe, Pair, pipe_of, pair_of, with_pipe, with_pair, waiting, with_waiting, other_side}

-- what a call that got this reply leaves: its late call where that is Late; any other reply leaves none
abbrev pub kept_call : Call → Private → Reply → List LateCall
kept_call call me reply.Late = late_call call me
kept_call call me _ = []

-- ---- how it ends
pub record Ended : Type 0 where
  pub world : World
  pub end : LateEnd

-- a late call that leaves this world and ended so
abbrev pub ends : World → LateEnd → Ended
ends w e = record { world = w; end = e }

-- a name that is there is removed
abbrev pub unlinked : World → List ℕ → Option Num → Ended
unlinked w name None = ends w end.NoName
unlinked w name (Some num) = ends (record w { names = map.remove w.names name }) end.Done

-- how many more bytes fit a pipe
abbrev pub room : Pipe → ℕ
room pipe = 4096 - length pipe.held

-- these bytes are put into the pipe
abbrev pub with_put : World → Num → List ℕ → World
with_put w num bytes = with_pipe w num (record (pipe_of w num) { held = (pipe_of w num).held ++ bytes })

-- what fits of the bytes is put into the pipe, and none into a shut one
abbrev pub pipe_written : World → Num → List ℕ → Ended
pipe_written w num bytes =
    if (pipe_of w num).shut then ends w end.Shut
    else if nat_lt (room (pipe_of w num)) (length bytes)
    then ends (with_put w num (take (room (pipe_of w num)) bytes)) (end.Full (room (pipe_of w num)))
    else ends (with_put w num bytes) end.Done

-- the pipe or the pair is shut
abbrev pub shut_down : World → Object → Ended
shut_down w (object.Pipe num) = ends (with_pipe w num (record (pipe_of w num) { shut = true })) end.Done
shut_down w (object.Pair num) = ends (with_pair w num (record (pair_of w num) { shut = true })) end.Done
shut_down w _ = ends w end.Done

-- the messages for the other side, with one more
abbrev pub sent_to : Pair → ℕ → List ℕ → Pair
sent_to pair side bytes = with_waiting pair side (waiting pair side ++ bytes ∷ [])

-- the message is put after the fewer than 8 that wait for the other side, and none into a shut pair
abbrev pub sent : World → Num → ℕ → List ℕ → Ended
sent w num side bytes =
    if (pair_of w num).shut then ends w end.Shut
    else if nat_le 8 (length (waiting (pair_of w num) (other_side side))) then ends w (end.Full 0)
    else ends (with_pair w num (sent_to (pair_of w num) (other_side side) bytes)) end.Done

-- whether the world has this block
abbrev pub is_block : World → List ℕ → Bool
is_block w body = list_any (λ block. pointwise nat_eq block body) w.blocks

-- a block of the world's is started, where fewer than 1000 are
abbrev pub thread_started : World → List ℕ → Ended
thread_started w body =
    if not (is_block w body) then ends w end.NoScript
    else if nat_le 1000 (length w.started) then ends w (end.Full 0)
    else ends (record w { started = w.started ++ body ∷ [] }) end.Done

-- a late call where the host does its part
abbrev pub late_fine : World → LateCall → Ended
late_fine w (Unlink name) = unlinked w name (map.get w.names name)
late_fine w (Sync num) = ends w end.Done
late_fine w (WritePipe num bytes) = pipe_written w num bytes
late_fine w (Shutdown object) = shut_down w object
late_fine w (Send num side bytes) = sent w num side bytes
late_fine w (Thread body) = thread_started w body

-- the world where a late call stops after n bytes: of a write to a pipe what fits of them is put, and none
-- into a shut one
abbrev pub stopped : World → LateCall → ℕ → World
stopped w (WritePipe num bytes) n =
    if n == 0 || (pipe_of w num).shut then w
    else with_put w num (take (min n (room (pipe_of w num))) bytes)
stopped w (Unlink name) n = w
stopped w (Sync num) n = w
stopped w (Shutdown object) n = w
stopped w (Send num side bytes) n = w
stopped w (Thread body) n = w

-- what a late call does, as the host answers it
abbrev pub late : World → LateCall → LateAnswer → Ended
late w c late_answer.Fine = late_fine w c
late w c (late_answer.Fault n) = ends (stopped w c n) (end.Fault n)
late w c (late_answer.NoMemory n) = ends (stopped w c n) (end.NoMemory n)
