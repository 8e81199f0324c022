-- What is taken from a pipe of a host with kept items in front of what it holds.
use Rattle.std.specs.Prelude.{◌≡◌, ℕ, ◌+◌, ◌<◌, ◌≤◌, ◌++◌, true, false, List, [], ◌∷◌, length, replicate, Result, Ok, Err, ◌==◌}
use Rattle.std.specs.Prelude.{if◌then◌else◌}
use Rattle.xc_data.specs.Step.{Step}
use Rattle.xc_data.specs.declared.call.Reply.{Reply}
use Rattle.xc_data.specs.declared.call.Reply.TheVariants.{Got, Empty, End, Fault}
use Rattle.xc_data.specs.declared.entry.KeptItem.{KeptItem}
use Rattle.xc_data.specs.declared.memory.NoMemory.{NoMemory}
use Rattle.xc_data.specs.declared.object.Num.{Num}
use Rattle.xc_data.specs.declared.private.Place.{Place}
use Rattle.xc_data.specs.declared.private.Place.TheVariants.{Pipe}
use Rattle.xc_data.specs.declared.script.HostCallKind.{HostCallKind}
use Rattle.xc_data.specs.declared.script.HostCallKind.TheVariants as kind
use Rattle.xc_world.specs.World.{World}
use Rattle.xc_world.specs.Run.{given_back}
use Rattle.xc_buffers.specs.Items.{kept_bytes}
use Rattle.xc_host.specs.Contents.{Contents}
use Rattle.xc_host.specs.Pipes.{pipe_in, has_pipe}
use Rattle.xc_host.specs.Uses.{MayMove, TakesFor}
use Rattle.xc_host.specs.declared.errors.HostErr.{HostErr}
use Rattle.xc_host.specs.declared.errors.HostErr.TheVariants as host_err
use Rattle.xc_host.specs.declared.pipes.Took.{Took}
use Rattle.xc_host.specs.declared.pipes.Took.TheVariants as took
use Rattle.xc_calls.specs.Sides.{Sides, world_at}
use Rattle.xc_calls.specs.Taking.{bytes_back}

-- these bytes were taken from the front of a pipe before, and those are taken after: either given back, the world is the same
abbrev pub GivesSameWorld : Num → List ℕ → List ℕ → Step Sides → Type 0
GivesSameWorld pipe front bytes s =
    (w : World) → given_back (world_at w s.old) (bytes_back pipe front) ≡ given_back (world_at w s.new) (bytes_back pipe bytes)

-- the pipe is there still
abbrev pub IsPipeThere : Num → Sides → Type 0
IsPipeThere pipe s = has_pipe s.contents pipe ≡ true

-- no byte is left in a pipe
pub record IsDrained (pipe : Num) (s : Sides) : Type 0 where
  pub held : (pipe_in s.contents pipe).held ≡ []
  pub kept : kept_bytes pipe s.items ≡ []

-- what was found of at most n bytes of a pipe, of which these were taken before: the first n, or all where those are fewer; or
-- none is there, and the pipe is shut where this is its end
abbrev pub ReadFinds : Num → ℕ → List ℕ → Step Sides → Took → Type 0
ReadFinds pipe n front s (took.Bytes bytes) =
    GivesSameWorld pipe front bytes s × IsPipeThere pipe s.new × (length bytes < n → IsDrained pipe s.new)
ReadFinds pipe n front s took.Empty = GivesSameWorld pipe front [] s × IsDrained pipe s.new × ((pipe_in s.new.contents pipe).shut ≡ false)
ReadFinds pipe n front s took.End = GivesSameWorld pipe front [] s × IsDrained pipe s.new × ((pipe_in s.new.contents pipe).shut ≡ true)

-- bytes that are some, or none where there are none
abbrev pub found_of : List ℕ → Took → Took
found_of bytes none = if length bytes == 0 then none else took.Bytes bytes

-- the takes that ended so, after kept bytes of this many
abbrev pub TakesUntil : ℕ → ℕ → Result Took HostErr → List HostCallKind → Type 0
TakesUntil n front (Ok (took.Bytes bytes)) made =
    (count : ℕ) × (count + front ≤ length bytes + 1) × (count + front ≤ n) × (length bytes < n → 1 ≤ count)
    × (made ≡ replicate count kind.Take)
TakesUntil n front (Ok found) made = made ≡ kind.Take ∷ []
TakesUntil n front (Err e) made = (count : ℕ) × (1 ≤ count) × (count + front ≤ n) × (made ≡ replicate count kind.Take)

-- the takes that ended so, after kept bytes or none
abbrev pub TakenBy : ℕ → Result Took HostErr → List HostCallKind → Type 0
TakenBy n (Ok (took.Bytes bytes)) made = (count : ℕ) × TakesFor n (Got bytes) count × (made ≡ replicate count kind.Take)
TakenBy n (Ok found) made = made ≡ kind.Take ∷ []
TakenBy n (Err host_err.Fault) made = (count : ℕ) × MayMove n count × (made ≡ replicate count kind.Take)
TakenBy n (Err host_err.NoMemory) made = (count : ℕ) × (count ≤ n) × (made ≡ replicate count kind.Take)

-- the takes of a read of n bytes with this reply; where memory ran out, the first of them
abbrev pub ReadsPipeBy : ℕ → Result Reply NoMemory → List HostCallKind → Type 0
ReadsPipeBy n (Ok reply) made = (count : ℕ) × TakesFor n reply count × (made ≡ replicate count kind.Take)
ReadsPipeBy n (Err e) made = (count : ℕ) × (count ≤ n) × (made ≡ replicate count kind.Take)

-- what a read of n bytes with this reply did: the bytes left the pipe; or none is there; or with a fault all is as before
abbrev pub ReadsPipe : Num → ℕ → Step Sides → Reply → Type 0
ReadsPipe pipe n s (Got bytes) = ReadFinds pipe n [] s (took.Bytes bytes)
ReadsPipe pipe n s Empty = ReadFinds pipe n [] s took.Empty
ReadsPipe pipe n s End = ReadFinds pipe n [] s took.End
ReadsPipe pipe n s (Fault k) = GivesSameWorld pipe [] [] s
-- it has no other reply
ReadsPipe pipe n s _ = ⊥

-- bytes that are some, and at most n; or none, and a fault before any
abbrev pub IsReadReply : ℕ → Reply → Type 0
IsReadReply n (Got bytes) = (1 ≤ length bytes) × (length bytes ≤ n)
IsReadReply n Empty = Unit {0}
IsReadReply n End = Unit {0}
IsReadReply n (Fault k) = k ≡ 0
-- it has no other reply
IsReadReply n _ = ⊥

-- what a reply took from a pipe
abbrev pub taken_of : Num → Reply → List KeptItem
taken_of pipe (Got bytes) = bytes_back pipe bytes
-- no other reply took anything
taken_of pipe _ = []

-- a read notes what its reply took, and nothing where memory ran out
abbrev pub NotesRead : Num → List KeptItem → List KeptItem → Result Reply NoMemory → Type 0
NotesRead pipe old new (Ok reply) = new ≡ old ++ taken_of pipe reply
NotesRead pipe old new (Err e) = new ≡ old

-- a pipe that is open at a place is there
abbrev pub IsPipeIn : Contents → Place → Type 0
IsPipeIn c (Pipe num) = has_pipe c num ≡ true
IsPipeIn c _ = Unit {0}
