-- Where kept data was taken, and the order in which it is printed.
use Rattle.std.specs.Prelude.{Bool}
use Rattle.std.specs.declared.cmp.Ordering.{Ordering}
use Rattle.std.specs.declared.cmp.Ordering.TheVariants.{Less, Greater}
use Rattle.std.specs.Ordering.{nat_cmp, ordering_then, is_lt, eq_by_cmp}
use Rattle.xc_data.specs.declared.entry.KeptItem.{KeptItem}
use Rattle.xc_data.specs.declared.entry.KeptItem.TheVariants.{Bytes, Message}
use Rattle.xc_maps.specs.Keys.{num_cmp}
use Rattle.xc_buffers.specs.declared.source.Endpoint.{Endpoint}
use Rattle.xc_buffers.specs.declared.source.Endpoint.TheVariants.{Pipe, Side}

-- pipes by number, and then pairs by number and side
abbrev pub source_cmp : Endpoint → Endpoint → Ordering
source_cmp (Pipe a) (Pipe b) = num_cmp a b
source_cmp (Pipe a) (Side b t) = Less
source_cmp (Side a s) (Pipe b) = Greater
source_cmp (Side a s) (Side b t) = ordering_then (num_cmp a b) (nat_cmp s t)

-- a source stands before another
abbrev pub is_before : Endpoint → Endpoint → Bool
is_before a b = is_lt (source_cmp a b)

-- where an item was taken
abbrev pub source_of : KeptItem → Endpoint
source_of (Bytes pipe bytes) = Pipe pipe
source_of (Message pair side bytes) = Side pair side

-- whether an item was taken there
abbrev pub is_from : Endpoint → KeptItem → Bool
is_from source t = eq_by_cmp source_cmp source (source_of t)
