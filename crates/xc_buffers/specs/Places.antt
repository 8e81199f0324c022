-- Where the items of a source stand in a list in the reverse order.
use Rattle.std.specs.Prelude.{◌≡◌, ℕ, ◌+◌, ◌<◌, true, false, List, length, slice_index_or}
use Rattle.std.specs.List.{AllWithin}
use Rattle.std.specs.List.Sorted.{IsPartitionPoint}
use Rattle.xc_data.specs.declared.entry.KeptItem.{KeptItem}
use Rattle.xc_buffers.specs.declared.source.Endpoint.{Endpoint}
use Rattle.xc_buffers.specs.Sources.{source_of, is_before}

-- a new first item of the source goes there: those from there on have sources before it, and the others have none
abbrev pub IsPlace : Endpoint → List KeptItem → ℕ → Type 0
IsPlace source stored at = IsPartitionPoint (λ t. is_before (source_of t) source ≡ false) (λ t. is_before
    (source_of t) source ≡ true) stored at

-- the items of the source begin there: those before have sources after it, and the others have none
abbrev pub IsSourceStart : Endpoint → List KeptItem → ℕ → Type 0
IsSourceStart source stored at = IsPartitionPoint (λ t. is_before source (source_of t) ≡ true) (λ t. is_before source
    (source_of t) ≡ false) stored at

-- the first item of the source stands there
pub record IsFirst (source : Endpoint) (stored : List KeptItem) (at : ℕ) : Type 0 where
  pub within : at < length stored
  pub from : (d : KeptItem) → source_of (slice_index_or stored at d) ≡ source
  pub before : AllWithin (λ t. is_before (source_of t) source ≡ true) stored (at + 1) (length stored)
