-- How kept items change where something is taken or given back; and that in every world.
use Rattle.std.specs.Prelude.{◌≡◌, ℕ, ◌≤◌, true, List, [], ◌∷◌, ◌++◌, length, take, Option}
use Rattle.std.specs.declared.option.Option.TheVariants.{None, Some}
use Rattle.xc_data.specs.declared.entry.KeptItem.{KeptItem}
use Rattle.xc_data.specs.declared.entry.KeptItem.TheVariants.{Bytes, Message}
use Rattle.xc_data.specs.declared.object.Num.{Num}
use Rattle.xc_world.specs.World.{World}
use Rattle.xc_world.specs.Run.{gives, given_back}
use Rattle.xc_buffers.specs.declared.source.Endpoint.{Endpoint}
use Rattle.xc_buffers.specs.declared.source.Endpoint.TheVariants.{Pipe, Side}
use Rattle.xc_buffers.specs.Sources.{source_of}
use Rattle.xc_buffers.specs.Items.{items_from, items_apart, kept_bytes, kept_messages}
use Rattle.xc_buffers.specs.Worlds.{world_has_pipe, world_has_pair, without_front, without_first}

-- an item was put in front of those of its source, and all others stay
pub record PutsFront (t : KeptItem) (old new : List KeptItem) : Type 0 where
  pub own : items_from (source_of t) new ≡ t ∷ items_from (source_of t) old
  pub apart : items_apart (source_of t) new ≡ items_apart (source_of t) old
  pub world : (w : World) → given_back w new ≡ gives (given_back w old) t

-- all of a list were put in front, the first of a source before the others of it
pub record PutsAll (items old new : List KeptItem) : Type 0 where
  pub each : (source : Endpoint) → items_from source new ≡ items_from source items ++ items_from source old
  pub world : (w : World) → given_back w new ≡ given_back (given_back w old) items

-- these bytes were the first that were kept of a pipe, and are kept no longer; all others stay
pub record TakesBytes (pipe : Num) (front : List ℕ) (old new : List KeptItem) : Type 0 where
  pub own : kept_bytes pipe old ≡ front ++ kept_bytes pipe new
  pub apart : items_apart (Pipe pipe) new ≡ items_apart (Pipe pipe) old
  pub back : (w : World) → given_back w old ≡ gives (given_back w new) (Bytes pipe front)
  pub left : (w : World) → world_has_pipe w pipe ≡ true → given_back w new ≡ without_front (given_back w old) pipe (length front)

-- this message was the first that was kept for a side of a pair, and is kept no longer; all others stay
pub record TakesMessage (pair : Num) (side : ℕ) (message : List ℕ) (old new : List KeptItem) : Type 0 where
  pub own : kept_messages pair side old ≡ message ∷ kept_messages pair side new
  pub apart : items_apart (Side pair side) new ≡ items_apart (Side pair side) old
  pub back : (w : World) → given_back w old ≡ gives (given_back w new) (Message pair side message)
  pub left : (w : World) → world_has_pair w pair ≡ true → given_back w new ≡ without_first (given_back w old) pair side

-- what was found of at most n bytes: none where there is none to be had, else a front that is some
abbrev pub FindsBytes : Num → ℕ → Option (List ℕ) → List KeptItem → List KeptItem → Type 0
FindsBytes pipe n None old new = (take n (kept_bytes pipe old) ≡ []) × (new ≡ old)
FindsBytes pipe n (Some front) old new = (1 ≤ length front) × (length front ≤ n) × TakesBytes pipe front old new

-- what was found: none where none is kept, else the first message
abbrev pub FindsMessage : Num → ℕ → Option (List ℕ) → List KeptItem → List KeptItem → Type 0
FindsMessage pair side None old new = (kept_messages pair side old ≡ []) × (new ≡ old)
FindsMessage pair side (Some message) old new = (length message ≤ 1024) × TakesMessage pair side message old new
