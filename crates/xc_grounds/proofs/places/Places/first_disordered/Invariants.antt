use Rattle.std.proofs.Common.{◌<◌, ◌≤◌, ◌-◌, length, take}
use Rattle.xc_grounds.specs.Numbered.{AreInOrder}
use Rattle.xc_grounds.proofs.places.Places.first_disordered.Given as goal

-- the front that ends at `low` is in order, the one that ends at `high` isn't
abbrev pub invariant-loop-low : goal.invariant-loop-low
invariant-loop-low l =
    record {
      apart : l.low < l.high;
      within : l.high ≤ length l.begins;
      ordered : AreInOrder (take l.low l.begins);
      disordered : AreInOrder (take l.high l.begins) → ⊥;
    }

abbrev pub decreases-loop-low : goal.decreases-loop-low
decreases-loop-low l = l.high - l.low
