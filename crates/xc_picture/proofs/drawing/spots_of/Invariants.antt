use Rattle.std.proofs.Common.{◌≡◌, drop}
use Rattle.std.specs.FinMap as map
use Rattle.xc_picture.specs.Arrows.{spots_with}
use Rattle.xc_picture.proofs.drawing.spots_of.Given as goal

-- the rest added to what is there gives all
abbrev pub invariant-loop-bar : goal.invariant-loop-bar
invariant-loop-bar l = spots_with l.spots (drop l.bar-index l.bars) ≡ spots_with map.empty l.bars
