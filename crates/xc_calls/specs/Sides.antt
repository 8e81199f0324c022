-- A host with kept items in front of what it holds.
use Rattle.std.specs.Prelude.{List}
use Rattle.xc_data.specs.declared.entry.KeptItem.{KeptItem}
use Rattle.xc_world.specs.World.{World}
use Rattle.xc_world.specs.Run.{given_back}
use Rattle.xc_host.specs.Contents.{Contents, with_contents}
use Rattle.std.specs.Prelude.{◌≡◌}
use Rattle.xc_data.specs.Step.{Step}

-- what a host holds, and what is kept in front of it
pub record Sides : Type 0 where
  pub contents : Contents
  pub items : List KeptItem

-- a world with both
abbrev pub world_at : World → Sides → World
world_at w s = given_back (with_contents w s.contents) s.items

-- a host and what is kept lead to the same worlds as before
abbrev pub IsSame : Step Sides → Type 0
IsSame s = (w : World) → world_at w s.old ≡ world_at w s.new
