-- Kept items, the front of each source first.
use Rattle.std.specs.Prelude.{◌≡◌, ℕ, ◌&&◌, Bool, true, false, not, List, length, map, All, nat_lt, nat_le}
use Rattle.std.specs.List.{filter, flat_map, list_any, AllPairs}
use Rattle.xc_data.specs.declared.entry.KeptItem.{KeptItem}
use Rattle.xc_data.specs.declared.entry.KeptItem.TheVariants.{Bytes, Message}
use Rattle.xc_data.specs.declared.object.Num.{Num}
use Rattle.xc_data.specs.declared.object.Object.{Object}
use Rattle.xc_data.specs.declared.object.Object.TheVariants as object
use Rattle.std.specs.Ordering.{eq_by_cmp}
use Rattle.xc_maps.specs.Keys.{num_cmp}
use Rattle.xc_buffers.specs.declared.source.Endpoint.{Endpoint}
use Rattle.xc_buffers.specs.declared.source.Endpoint.TheVariants.{Pipe, Side}
use Rattle.xc_buffers.specs.Sources.{source_of, is_before, is_from}

-- bytes that are some, or a message of at most 1,024 bytes for side 0 or 1
abbrev pub is_fit : KeptItem → Bool
is_fit (Bytes pipe bytes) = nat_le 1 (length bytes)
is_fit (Message pair side bytes) = nat_lt side 2 && nat_le (length bytes) 1024

-- no item's source stands before that of an earlier one
abbrev pub IsInOrder : List KeptItem → Type 0
IsInOrder items = AllPairs (λ t u. is_before (source_of u) (source_of t) ≡ false) items

-- what is kept is in order, and each item is fit
pub record AreKept (items : List KeptItem) : Type 0 where
  pub order : IsInOrder items
  pub fit : All (λ t. is_fit t ≡ true) items

-- the items of a source
abbrev pub items_from : Endpoint → List KeptItem → List KeptItem
items_from source items = filter (is_from source) items

-- the items of all other sources
abbrev pub items_apart : Endpoint → List KeptItem → List KeptItem
items_apart source items = filter (λ t. not (is_from source t)) items

-- whether an item of the source is kept
abbrev pub keeps_from : Endpoint → List KeptItem → Bool
keeps_from source items = list_any (is_from source) items

-- whether an item is of this pair, of either side
abbrev pub is_of_pair : Num → KeptItem → Bool
is_of_pair num (Message pair side bytes) = eq_by_cmp num_cmp num pair
is_of_pair num (Bytes pipe bytes) = false

-- whether an item of the pair is kept
abbrev pub keeps_pair : Num → List KeptItem → Bool
keeps_pair num items = list_any (is_of_pair num) items

-- an item's bytes
abbrev pub item_bytes : KeptItem → List ℕ
item_bytes (Bytes pipe bytes) = bytes
item_bytes (Message pair side bytes) = bytes

-- the bytes that are kept of a pipe, one item's after the other's
abbrev pub kept_bytes : Num → List KeptItem → List ℕ
kept_bytes pipe items = flat_map item_bytes (items_from (Pipe pipe) items)

-- the messages that are kept for a side of a pair
abbrev pub kept_messages : Num → ℕ → List KeptItem → List (List ℕ)
kept_messages pair side items = map item_bytes (items_from (Side pair side) items)

-- how many bytes are kept of a pipe, or how many messages for a side of a pair
abbrev pub kept_count : Object → ℕ → List KeptItem → ℕ
kept_count (object.Pipe num) side items = length (kept_bytes num items)
kept_count (object.Pair num) side items = length (kept_messages num side items)
kept_count (object.Word at) side items = 0
kept_count (object.Name name) side items = 0
kept_count (object.File num) side items = 0
kept_count object.Jobs side items = 0
