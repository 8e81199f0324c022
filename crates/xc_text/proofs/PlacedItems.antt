-- Items that take their places one after another.
use Rattle.std.proofs.Common.{List, ◌++◌}
use Rattle.xc_text.specs.Named as named
use Rattle.xc_text.specs.Places.{Placed, placed_data}
use Rattle.xc_text.specs.Said.{Names}
use Rattle.xc_text.specs.Stated.{Item}

-- the items that are left, behind those that have their places
abbrev pub placed_behind : Names → List Item → List named.NamedItem → Placed (List Item)
placed_behind names made left = ((placed_data names left).0, made ++ (placed_data names left).1)
