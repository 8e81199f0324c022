use Rattle.std.proofs.Common.{◌≡◌, ◌+◌, length, take}
use Rattle.xc_grounds.specs.Numbered.{part_begins}
use Rattle.xc_grounds.specs.Places.{HasPlaces}
use Rattle.xc_grounds.proofs.grounds.places_of.Given as goal

-- the table has the places of those so far
abbrev pub invariant-loop-place : goal.invariant-loop-place
invariant-loop-place l =
    record {
      same : length l.places.by_number.items ≡ length l.parts + 1;
      has : HasPlaces (take l.place (part_begins l.parts)) l.places.by_number.items;
    }
