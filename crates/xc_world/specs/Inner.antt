-- What an inner block did since its save.
use Rattle.std.specs.Prelude.{◌≡◌, ℕ, List, ◌++◌}
use Rattle.xc_data.specs.declared.entry.KeptItem.{KeptItem}
use Rattle.xc_data.specs.declared.undo.Undo.{Undo}
use Rattle.xc_world.specs.World.{World}
use Rattle.xc_world.specs.Run.{BodyResult, given_back}
use Rattle.xc_world.specs.Ends.{with_remains}
use Rattle.xc_world.specs.Effects.{whole}

-- from the world w a body came to its save, and then to what is now
pub record IsInnerBlock (w : World) (saved now : BodyResult) : Type 0 where
  -- what it took and what it recorded since
  pub taken : List KeptItem
  pub trail : List Undo
  pub all_taken : now.taken ≡ saved.taken ++ taken
  pub all_records : now.trail ≡ saved.trail ++ trail
  -- the one given back, the save's world with the effects of the other is there, the words aside
  pub back : given_back now.world taken ≡ record (with_remains saved.world (whole trail)) { words = now.world.words }
  -- and the same of the save
  pub before : given_back saved.world saved.taken ≡ record (with_remains w (whole saved.trail)) { words = saved.world.words }
