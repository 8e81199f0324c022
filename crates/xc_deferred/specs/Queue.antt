-- Late calls that are kept for the commit of their transaction.
use Rattle.std.specs.Prelude.{◌≡◌, ℕ, ◌+◌, ◌≤◌, ◌&&◌, Bool, true, List, [], ◌∷◌, length, drop, nat_le, nat_lt, Option}
use Rattle.std.specs.declared.option.Option.TheVariants.{None}
use Rattle.std.specs.List.{All}
use Rattle.xc_data.specs.Calls.{thread_in}
use Rattle.xc_data.specs.declared.call.LateCall.{LateCall}
use Rattle.xc_data.specs.declared.call.LateCall.TheVariants.{Unlink, Sync, WritePipe, Shutdown, Send, Thread}
use Rattle.xc_data.specs.declared.call.LateEnd.{LateEnd}
use Rattle.xc_host.specs.Pipes.{is_shuttable}

-- a transaction's calls that are kept for the commit, each on the object that was fixed at the call, and the ends of the
-- first of them
pub record Queue : Type 0 where
  pub calls : List LateCall
  pub ends : List LateEnd

-- those that have no end yet
abbrev pub late_calls_left : Queue → List LateCall
late_calls_left q = drop (length q.ends) q.calls

-- the block of the job that the first call without an end starts, where it starts one
abbrev pub next_thread : List LateCall → Option (List ℕ)
next_thread [] = None
next_thread (call ∷ calls) = thread_in call

-- a late call that may be kept: what is shut is a pipe or a pair, and a message of at most 1,024 bytes is sent from side 0 or 1
abbrev pub is_late_fit : LateCall → Bool
is_late_fit (Unlink name) = true
is_late_fit (Sync num) = true
is_late_fit (WritePipe num bytes) = true
is_late_fit (Shutdown object) = is_shuttable object
is_late_fit (Send num side bytes) = nat_lt side 2 && nat_le (length bytes) 1024
is_late_fit (Thread body) = true

-- what the lists and the room after them keep: each call without an end has room for it
pub record IsQueue (calls : List LateCall) (ends : List LateEnd) (spare : ℕ) : Type 0 where
  pub within : length ends ≤ length calls
  pub room : length calls ≤ length ends + spare
  pub fit : All (λ call. is_late_fit call ≡ true) calls
