use Rattle.std.proofs.Common.{◌≡◌, ℕ, ◌+◌, List, [], ◌∷◌, drop}
use Rattle.std.specs.FinMap as map
use Rattle.xc_maps.specs.Keys.{name_cmp}
use Rattle.xc_text.specs.declared.script.Block.{Block}
use Rattle.xc_station.proofs.places.places_of.Given as goal

-- an index of places with those of these blocks, which stand from a place on
abbrev pub with_places : List Block → ℕ → map.FinMap name_cmp ℕ → map.FinMap name_cmp ℕ
with_places [] at places = places
with_places (b ∷ blocks) at places = with_places blocks (at + 1) (map.insert places b.name at)

-- the blocks that are left make the index what all make an empty one
abbrev pub invariant-loop-at : goal.invariant-loop-at
invariant-loop-at l = with_places (drop l.at l.script.blocks) l.at l.places ≡ with_places l.script.blocks 0 map.empty
