-- Links in memory.
use Rattle.std.specs.Prelude.{ℕ, List, Some}
use Rattle.xc_data.specs.Counts.{raised}
use Rattle.xc_links.specs.Links.{LinksView}
use Rattle.xc_edge.specs.Memory.{MemSource, MemSink}
use Rattle.xc_links.specs.Wires.{Wire}

-- what it sends, and what it takes
pub record MemLink : Type 0 where
  pub source : MemSource
  pub sink : MemSink

-- it tells all; its count is that of both
abbrev pub link_view : MemLink → Wire
link_view link = record { left = Some link.source.left; taken = Some link.sink.taken; faults = raised link.source.faults link.sink.faults }

-- the links that are to come; the numbers of the accepts that fail
pub record MemLinks : Type 0 where
  pub left : List MemLink
  pub fails : List ℕ
  pub accepts : ℕ
  pub faults : ℕ

-- it tells all
abbrev pub links_view : MemLinks → LinksView MemLink
links_view links = record { left = Some links.left; faults = links.faults }
