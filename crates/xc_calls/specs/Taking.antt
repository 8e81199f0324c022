-- What a call notes that takes bytes or a message, and what becomes of kept data: over every host.
use Rattle.std.specs.Prelude.{◌≡◌, ℕ, ◌++◌, List, Result, Ok, Err}
use Rattle.xc_data.specs.Step.{Step}
use Rattle.xc_data.specs.declared.call.Call.{Call}
use Rattle.xc_data.specs.declared.call.Reply.{Reply}
use Rattle.xc_data.specs.declared.entry.KeptItem.{KeptItem}
use Rattle.xc_data.specs.declared.memory.NoMemory.{NoMemory}
use Rattle.xc_data.specs.declared.object.Num.{Num}
use Rattle.xc_data.specs.declared.private.Place.TheVariants.{Pipe}
use Rattle.xc_data.specs.declared.private.Private.{Private}
use Rattle.xc_world.specs.Run.{bytes_taken, taken_by}
use Rattle.std.specs.Prelude.{◌⊎◌, ◌<◌, ◌≤◌, [], ◌∷◌, length}
use Rattle.xc_data.specs.Calls.{CallTaking, TakingBytes, TakingMessage, TakingNothing, traits}
use Rattle.xc_data.specs.Private.{place_of}
use Rattle.xc_data.specs.declared.call.Reply.TheVariants.{Got, Empty, End, Fault}
use Rattle.xc_data.specs.declared.entry.KeptItem.TheVariants.{Message}
use Rattle.xc_data.specs.declared.private.Place.{Place}
use Rattle.xc_data.specs.declared.private.Place.TheVariants.{Vacant, File, Pair}
use Rattle.xc_world.specs.World.{World}
use Rattle.xc_world.specs.Run.{given_back}
use Rattle.xc_buffers.specs.Items.{kept_bytes, kept_messages}

-- bytes of a pipe that are given back
abbrev pub bytes_back : Num → List ℕ → List KeptItem
bytes_back pipe bytes = bytes_taken (Pipe pipe) bytes

-- what is kept leads to the same world, whatever the host holds
abbrev pub IsKeptAs : Step (List KeptItem) → Type 0
IsKeptAs kept = (w : World) → given_back w kept.new ≡ given_back w kept.old

-- what was kept is kept, and these stand behind it
abbrev pub KeepsBefore : Step (List KeptItem) → List KeptItem → Type 0
KeepsBefore kept more = (w : World) → given_back w kept.new ≡ given_back (given_back w more) kept.old

-- what a call leaves that fails, or for which memory runs out: what was kept is kept, and what the host gave it stands behind
-- what was kept of the same source
abbrev pub HoldsMore : Place → Step (List KeptItem) → Type 0
HoldsMore (Pipe pipe) kept = (bytes : List ℕ) × KeepsBefore kept (bytes_back pipe bytes)
HoldsMore (Pair num side) kept =
    IsKeptAs kept ⊎ ((bytes : List ℕ) × (kept_messages num side kept.old ≡ []) × KeepsBefore kept (Message num side bytes ∷ []))
HoldsMore (File num at) kept = kept.new ≡ kept.old
HoldsMore Vacant kept = kept.new ≡ kept.old

-- ---- a read of a pipe
-- of at most n bytes that were read of a pipe the front was kept, and the rest is the host's; where the front is shorter than
-- n, nothing is kept of the pipe any more
pub record TakesFront (pipe : Num) (n : ℕ) (bytes : List ℕ) (kept : Step (List KeptItem)) : Type 0 where
  pub front : List ℕ
  pub rest : List ℕ
  pub whole : bytes ≡ front ++ rest
  pub most : length bytes ≤ n
  pub taken : (w : World) → given_back w kept.old ≡ given_back (given_back w kept.new) (bytes_back pipe front)
  pub left : length front < n → kept_bytes pipe kept.new ≡ []

-- nothing was kept of the pipe, so that what is kept is the same
abbrev pub KeepsNone : Num → Step (List KeptItem) → Type 0
KeepsNone pipe kept = IsKeptAs kept × (kept_bytes pipe kept.new ≡ [])

-- a read of n bytes of a pipe, by its reply
abbrev pub ReadsKept : Num → ℕ → Step (List KeptItem) → Reply → Type 0
ReadsKept pipe n kept (Got bytes) = TakesFront pipe n bytes kept
ReadsKept pipe n kept Empty = KeepsNone pipe kept
ReadsKept pipe n kept End = KeepsNone pipe kept
ReadsKept pipe n kept (Fault k) = HoldsMore (Pipe pipe) kept
-- with any other reply it was refused
ReadsKept pipe n kept _ = kept.new ≡ kept.old

-- the same where memory may run out
abbrev pub ReadsKeptOf : Num → ℕ → Step (List KeptItem) → Result Reply NoMemory → Type 0
ReadsKeptOf pipe n kept (Ok reply) = ReadsKept pipe n kept reply
ReadsKeptOf pipe n kept (Err e) = HoldsMore (Pipe pipe) kept

-- at a handle's place
abbrev pub ReadsAt : Place → ℕ → Step (List KeptItem) → Result Reply NoMemory → Type 0
ReadsAt (Pipe pipe) n kept result = ReadsKeptOf pipe n kept result
ReadsAt (Pair num side) n kept result = kept.new ≡ kept.old
ReadsAt (File num at) n kept result = kept.new ≡ kept.old
ReadsAt Vacant n kept result = kept.new ≡ kept.old

-- ---- a receipt from a side of a pair
-- no message is kept for the side, and what is kept is the same
abbrev pub HasNoneKept : Num → ℕ → Step (List KeptItem) → Type 0
HasNoneKept num side kept = (kept.new ≡ kept.old) × (kept_messages num side kept.old ≡ [])

-- the first message that was kept for a side left it
abbrev pub TakesFirst : Num → ℕ → List ℕ → Step (List KeptItem) → Type 0
TakesFirst num side bytes kept = (w : World) → given_back w kept.old ≡ given_back (given_back w kept.new) (Message num side bytes ∷ [])

-- a receipt from a side, by its reply
abbrev pub ReceivesKept : Num → ℕ → Step (List KeptItem) → Reply → Type 0
ReceivesKept num side kept (Got bytes) = TakesFirst num side bytes kept ⊎ HasNoneKept num side kept
ReceivesKept num side kept Empty = HasNoneKept num side kept
ReceivesKept num side kept End = HasNoneKept num side kept
ReceivesKept num side kept (Fault k) = HasNoneKept num side kept
-- with any other reply it was refused
ReceivesKept num side kept _ = kept.new ≡ kept.old

-- the same where memory may run out
abbrev pub ReceivesKeptOf : Num → ℕ → Step (List KeptItem) → Result Reply NoMemory → Type 0
ReceivesKeptOf num side kept (Ok reply) = ReceivesKept num side kept reply
ReceivesKeptOf num side kept (Err e) = HoldsMore (Pair num side) kept

-- at a handle's place
abbrev pub ReceivesAt : Place → Step (List KeptItem) → Result Reply NoMemory → Type 0
ReceivesAt (Pair num side) kept result = ReceivesKeptOf num side kept result
ReceivesAt (Pipe num) kept result = kept.new ≡ kept.old
ReceivesAt (File num at) kept result = kept.new ≡ kept.old
ReceivesAt Vacant kept result = kept.new ≡ kept.old

-- ---- by what is taken
abbrev pub HasTakenBy : CallTaking → Private → Step (List KeptItem) → Result Reply NoMemory → Type 0
HasTakenBy TakingNothing me kept result = kept.new ≡ kept.old
HasTakenBy (TakingBytes h n) me kept result = ReadsAt (place_of me.places h) n kept result
HasTakenBy (TakingMessage h) me kept result = ReceivesAt (place_of me.places h) kept result

-- ---- any call: what becomes of kept data with its reply, or where memory ran out
abbrev pub HasTaken : Call → Private → Step (List KeptItem) → Result Reply NoMemory → Type 0
HasTaken call me kept result = HasTakenBy (traits call).taking me kept result

-- a call notes what the plain machine's takes with its reply, and nothing where memory ran out
abbrev pub Notes : Call → Private → Step (List KeptItem) → Result Reply NoMemory → Type 0
Notes call me notes (Ok reply) = notes.new ≡ notes.old ++ taken_by call me reply
Notes call me notes (Err e) = notes.new ≡ notes.old
