use Rattle.std.proofs.Common.{◌≡◌, length, take}
use Rattle.xc_grounds.specs.Places.{HasPlaces}
use Rattle.xc_grounds.proofs.numbers.enter_all.Given as goal

-- the table has the places of those so far
abbrev pub invariant-loop-place : goal.invariant-loop-place
invariant-loop-place l =
    record {
      same : length l.places.by_number.items ≡ length l.initial.places.by_number.items;
      has : HasPlaces (take l.place l.begins) l.places.by_number.items;
    }
