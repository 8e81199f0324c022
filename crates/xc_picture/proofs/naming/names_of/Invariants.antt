use Rattle.std.proofs.Common.{◌≡◌, ◌++◌, drop}
use Rattle.xc_picture.specs.Scenes.{lane_names}
use Rattle.xc_picture.proofs.naming.names_of.Given as goal

-- the names so far and those of the rest are all
abbrev pub invariant-loop-line : goal.invariant-loop-line
invariant-loop-line l = l.names ++ lane_names (drop l.line-index l.lines) ≡ lane_names l.lines
