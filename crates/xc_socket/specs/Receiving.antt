-- What is received of a side of a pair, from a host with kept items in front of what it holds.
use Rattle.std.specs.Prelude.{◌≡◌, ◌⊎◌, ℕ, ◌≤◌, ◌++◌, Bool, true, false, List, [], ◌∷◌, length, Result, Ok, Err}
use Rattle.xc_data.specs.Step.{Step}
use Rattle.xc_data.specs.declared.call.Reply.{Reply}
use Rattle.xc_data.specs.declared.call.Reply.TheVariants.{Got, Empty, End, Fault}
use Rattle.xc_data.specs.declared.entry.KeptItem.{KeptItem}
use Rattle.xc_data.specs.declared.entry.KeptItem.TheVariants.{Message}
use Rattle.xc_data.specs.declared.memory.NoMemory.{NoMemory}
use Rattle.xc_data.specs.declared.object.Num.{Num}
use Rattle.xc_data.specs.declared.script.HostCallKind.{HostCallKind}
use Rattle.xc_data.specs.declared.script.HostCallKind.TheVariants as kind
use Rattle.xc_world.specs.Run.{gives}
use Rattle.xc_world.specs.World.{World, pair_of, waiting}
use Rattle.xc_host.specs.Pairs.{has_pair}
use Rattle.xc_host.specs.Uses.{ReceiptsFor}
use Rattle.xc_host.specs.declared.errors.HostErr.{HostErr}
use Rattle.xc_host.specs.declared.pipes.Took.{Took}
use Rattle.xc_host.specs.declared.pipes.Took.TheVariants as took
use Rattle.xc_calls.specs.Sides.{Sides, world_at, IsSame}
use Rattle.xc_calls.specs.Taking.{HasNoneKept, TakesFirst}

-- this message was the first that waited for a side: given back, the world is the same; and the pair is there
abbrev pub MessageLeaves : Num → ℕ → List ℕ → Step Sides → Type 0
MessageLeaves pair side message s =
    ((w : World) → world_at w s.old ≡ gives (world_at w s.new) (Message pair side message)) × (has_pair s.new.contents pair ≡ true)

-- no message waits for a side, neither a kept one nor one of the host's, and the pair is shut or not
abbrev pub HasNone : Num → ℕ → Bool → Sides → Type 0
HasNone pair side shut s =
    (w : World) → (waiting (pair_of (world_at w s) pair) side ≡ []) × ((pair_of (world_at w s) pair).shut ≡ shut)

-- what was found for a side: its first message, which leaves it; or none waits, and the pair is shut where this is its end
abbrev pub ReceiptFinds : Num → ℕ → Step Sides → Took → Type 0
ReceiptFinds pair side s (took.Bytes message) = MessageLeaves pair side message s
ReceiptFinds pair side s took.Empty = IsSame s × HasNone pair side false s.new
ReceiptFinds pair side s took.End = IsSame s × HasNone pair side true s.new

-- the host is asked once, and not where a kept message was found
abbrev pub AskedBy : Result Took HostErr → List HostCallKind → Type 0
AskedBy (Ok (took.Bytes message)) made = (made ≡ []) ⊎ (made ≡ kind.Recv ∷ [])
AskedBy (Ok took.Empty) made = made ≡ kind.Recv ∷ []
AskedBy (Ok took.End) made = made ≡ kind.Recv ∷ []
AskedBy (Err e) made = made ≡ kind.Recv ∷ []

-- the host's calls of a receipt with this reply; where memory ran out, one or none
abbrev pub ReceivesBy : Result Reply NoMemory → List HostCallKind → Type 0
ReceivesBy (Ok reply) made = ReceiptsFor reply made
ReceivesBy (Err e) made = (made ≡ []) ⊎ (made ≡ kind.Recv ∷ [])

-- what a receipt with this reply did: the message left its side; or none waits; or with a fault all is as before
abbrev pub Receives : Num → ℕ → Step Sides → Reply → Type 0
Receives pair side s (Got message) = ReceiptFinds pair side s (took.Bytes message)
Receives pair side s Empty = ReceiptFinds pair side s took.Empty
Receives pair side s End = ReceiptFinds pair side s took.End
Receives pair side s (Fault k) = IsSame s
-- it has no other reply
Receives pair side s _ = ⊥

-- a message of at most 1,024 bytes, or none; or a fault before any
abbrev pub IsReceiptReply : Reply → Type 0
IsReceiptReply (Got message) = length message ≤ 1024
IsReceiptReply Empty = Unit {0}
IsReceiptReply End = Unit {0}
IsReceiptReply (Fault k) = k ≡ 0
-- it has no other reply
IsReceiptReply _ = ⊥

-- what a reply took of a side: an empty message too is one
abbrev pub received_by : Num → ℕ → Reply → List KeptItem
received_by pair side (Got message) = Message pair side message ∷ []
-- no other reply took anything
received_by pair side _ = []

-- a receipt notes what its reply took, and nothing where memory ran out
abbrev pub NotesReceipt : Num → ℕ → Step (List KeptItem) → Result Reply NoMemory → Type 0
NotesReceipt pair side notes (Ok reply) = notes.new ≡ notes.old ++ received_by pair side reply
NotesReceipt pair side notes (Err e) = notes.new ≡ notes.old

-- ---- a receipt from a side of a pair
-- a message that was kept, or else the host's; and without a message nothing was kept
abbrev pub TakesMessageKept : Num → ℕ → Step (List KeptItem) → Result Took HostErr → Type 0
TakesMessageKept num side kept (Ok (took.Bytes bytes)) = TakesFirst num side bytes kept ⊎ HasNoneKept num side kept
TakesMessageKept num side kept (Ok took.Empty) = HasNoneKept num side kept
TakesMessageKept num side kept (Ok took.End) = HasNoneKept num side kept
TakesMessageKept num side kept (Err e) = HasNoneKept num side kept
