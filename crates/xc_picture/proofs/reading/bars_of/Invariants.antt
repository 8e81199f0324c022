use Rattle.std.proofs.Common.{◌≡◌, ◌≤◌, ◌++◌, length}
use Rattle.xc_picture.specs.Scenes.{bars_from}
use Rattle.xc_picture.proofs.reading.bars_of.Given as goal

-- the bars so far and those of the rest are all
abbrev pub invariant-loop-line : goal.invariant-loop-line
invariant-loop-line l =
    record {
      all : l.bars ++ bars_from l.number l.rest ≡ bars_from 1 l.lines;
      few : l.number ≤ 2001;
    }

abbrev pub decreases-loop-line : goal.decreases-loop-line
decreases-loop-line l = length l.rest
