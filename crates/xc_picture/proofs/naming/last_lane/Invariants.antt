use Rattle.std.proofs.Common.{◌≡◌, drop, max}
use Rattle.xc_picture.specs.Scenes.{last_lane}
use Rattle.xc_picture.proofs.naming.last_lane.Given as goal

-- the last lane so far and that of the rest
abbrev pub invariant-loop-line : goal.invariant-loop-line
invariant-loop-line l = max l.last (last_lane (drop l.line-index l.lines)) ≡ last_lane l.lines
