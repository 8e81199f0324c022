-- A source and a sink in memory.
use Rattle.std.specs.Prelude.{◌≡◌, ◌⊎◌, ℕ, List, Some, Contains, length, drop, take, Result, Ok, Err, ◌++◌}
use Rattle.xc_data.specs.Counts.{counted}
use Rattle.xc_edge.specs.View.{StreamView}

-- what is left to be read; the numbers of the reads that fail; how many bytes a read gives at most
pub record MemSource : Type 0 where
  pub left : List ℕ
  pub fails : List ℕ
  pub grain : ℕ
  pub reads : ℕ
  pub faults : ℕ

-- it tells all
abbrev pub source_view : MemSource → StreamView
source_view source = record { bytes = Some source.left; faults = source.faults }

-- the next read fails: its number is listed
abbrev pub ReadFails : MemSource → Type 0
ReadFails source = Contains source.fails (counted source.reads)

-- the source after a read
abbrev pub after_read : {E : Type 0} → MemSource → Result ℕ E → MemSource
after_read source (Ok n) = record source { left = drop n source.left; reads = counted source.reads }
after_read source (Err _) = record source { reads = counted source.reads; faults = counted source.faults }

-- what was taken; how many bytes are taken in all; the numbers of the writes that fail; how many bytes a write takes at most
pub record MemSink : Type 0 where
  pub taken : List ℕ
  pub room : ℕ
  pub fails : List ℕ
  pub grain : ℕ
  pub writes : ℕ
  pub faults : ℕ

-- it tells all
abbrev pub sink_view : MemSink → StreamView
sink_view sink = record { bytes = Some sink.taken; faults = sink.faults }

-- the next write fails: its number is listed, or the room is full
abbrev pub WriteFails : MemSink → Type 0
WriteFails sink = Contains sink.fails (counted sink.writes) ⊎ (length sink.taken ≡ sink.room)

-- the sink after a write of this piece
abbrev pub after_write : {E : Type 0} → MemSink → List ℕ → Result ℕ E → MemSink
after_write sink piece (Ok n) = record sink { taken = sink.taken ++ take n piece; writes = counted sink.writes }
after_write sink piece (Err _) = record sink { writes = counted sink.writes; faults = counted sink.faults }
