-- What was taken from pipes and pairs, and is kept for later readers.
use Rattle.std.specs.Prelude.{◌≡◌, true, is_some, List}
use Rattle.std.specs.FinMap as map
use Rattle.xc_data.specs.declared.entry.KeptItem.{KeptItem}
use Rattle.xc_data.specs.declared.object.Num.{Num}
use Rattle.xc_host.specs.Contents.{Contents, contents_of, world_of}
use Rattle.xc_world.specs.Run.{given_back}

-- these contents with kept data in front, each item before those after it
abbrev pub with_kept : Contents → List KeptItem → Contents
with_kept contents items = contents_of (given_back (world_of contents) items)

-- each pipe and each pair that was there is there
pub record KeepsData (was is : Contents) : Type 0 where
  pub pipes : (num : Num) → is_some (map.get was.pipes num) ≡ true → is_some (map.get is.pipes num) ≡ true
  pub pairs : (num : Num) → is_some (map.get was.pairs num) ≡ true → is_some (map.get is.pairs num) ≡ true
