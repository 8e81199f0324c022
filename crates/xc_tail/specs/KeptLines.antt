-- The lines of kept data, one after another.
use Rattle.std.specs.Prelude.{◌≡◌, Bool, true, not, List, [], ◌∷◌, Option}
use Rattle.std.specs.declared.option.Option.TheVariants.{None, Some}
use Rattle.xc_buffers.specs.Items.{is_fit}
use Rattle.xc_buffers.specs.Sources.{source_of, is_before}
use Rattle.xc_buffers.specs.declared.source.Endpoint.{Endpoint}
use Rattle.xc_buffers.specs.declared.source.Endpoint.TheVariants as source
use Rattle.xc_data.specs.declared.entry.KeptItem.{KeptItem}
use Rattle.xc_data.specs.declared.entry.KeptItem.TheVariants.{Bytes, Message}
use Rattle.xc_print.specs.Kept.{joined}
use Rattle.xc_sheet.specs.Ends.{lines_of_kept}
use Rattle.xc_sheet.specs.declared.lines.Line.{Line}
use Rattle.xc_tail.specs.Tails.{IsKeptFront}
use Rattle.xc_world.specs.Run.{given_back}
use Rattle.xc_world.specs.World.{World}

-- lines that are those of data which is kept in front of what some host holds
abbrev pub HasKeptLines : World → List Line → Type 0
HasKeptLines world lines = (kept : List KeptItem) × (lines ≡ lines_of_kept (joined kept)) × IsKeptFront world kept

-- whether an item comes behind one of this source: messages of one side of a pair are several, bytes of one pipe are one piece
abbrev pub comes_behind : Option Endpoint → KeptItem → Bool
comes_behind None t = true
comes_behind (Some before) (Bytes pipe bytes) = is_before before (source.Pipe pipe)
comes_behind (Some before) (Message pair side bytes) = not (is_before (source.Side pair side) before)

-- each item is fit and comes behind the one before it, the first behind one of this source
abbrev pub Follow : Option Endpoint → List KeptItem → Type 0
Follow before [] = Unit {0}
Follow before (t ∷ items) = (comes_behind before t ≡ true) × (is_fit t ≡ true) × Follow (Some (source_of t)) items

-- lines that are those of such items, which stand in front of what some world has so that together they are this one's
pub record Stands (world : World) (before : Option Endpoint) (lines : List Line) : Type 0 where
  pub items : List KeptItem
  pub shown : lines ≡ lines_of_kept items
  pub follow : Follow before items
  pub under : World
  pub front : given_back under items ≡ world
