-- Kept data that stands in front of what a pipe or a pair has, taken from there.
use Rattle.std.specs.Prelude.{◌≡◌, Bool, true, is_some}
use Rattle.std.specs.FinMap as map
use Rattle.xc_data.specs.declared.entry.KeptItem.{KeptItem}
use Rattle.xc_data.specs.declared.entry.KeptItem.TheVariants.{Bytes, Message}
use Rattle.xc_world.specs.World.{World}
use Rattle.xc_world.specs.Run.{gives}

-- whether the pipe or the pair of an item is there
abbrev pub has_source : World → KeptItem → Bool
has_source w (Bytes pipe bytes) = is_some (map.get w.pipes pipe)
has_source w (Message pair side bytes) = is_some (map.get w.pairs pair)

-- an item is taken from the front: given back it stands there again; its pipe or pair stays
pub record Takes (item : KeptItem) (old new : World) : Type 0 where
  pub back : gives new item ≡ old
  pub there : has_source new item ≡ true

-- an item doesn't stand in front: given back to no world it makes this one
abbrev pub IsNotInFront : KeptItem → World → Type 0
IsNotInFront item w = (before : World) → gives before item ≡ w → ⊥
