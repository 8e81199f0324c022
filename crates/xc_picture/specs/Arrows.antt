-- The arrows of a picture.
use Rattle.std.specs.Prelude.{◌≡◌, ◌⊎◌, ℕ, ◌+◌, ◌-◌, List, [], ◌∷◌, ◌++◌, min, Option, None, Some}
use Rattle.std.specs.FinMap as map
use Rattle.xc_data.specs.declared.object.Num.{Num}
use Rattle.xc_maps.specs.Keys.{num_cmp}
use Rattle.xc_picture.specs.Elements.{Element, Arrow}
use Rattle.xc_picture.specs.Places.{column_x, lane_y}
use Rattle.xc_picture.specs.Scenes.{lane_of}
use Rattle.xc_picture.specs.declared.scene.Bar.{Bar}
use Rattle.xc_picture.specs.declared.scene.Spot.{Spot}
use Rattle.xc_picture.specs.declared.shapes.Point.{Point}

-- the middle of the last column of a place in the journal
abbrev pub middle : Spot → ℕ → Point
middle spot column = record { x = column_x column - 16; y = lane_y spot.lane + 11 }

-- where the entries of transactions are, by the numbers of the transactions
abbrev pub Spots : Type 0
Spots = map.FinMap num_cmp Spot

-- a transaction's number as a key
abbrev pub key_of : ℕ → Num
key_of tx = record { tx = tx; k = 0 }

-- the lane of a bar, and the column where it ends
abbrev pub spot_of : Bar → Spot
spot_of bar = record { lane = lane_of bar.job; to = bar.to }

-- bars added one by one; of two with the same number the later one counts
abbrev pub spots_with : Spots → List Bar → Spots
spots_with spots [] = spots
spots_with spots (bar ∷ bars) = spots_with (map.insert spots (key_of bar.tx) (spot_of bar)) bars

-- a place is that of one of these bars, whose transaction has this number
abbrev pub IsSpotAmong : ℕ → Spot → List Bar → Type 0
IsSpotAmong tx spot [] = ⊥
IsSpotAmong tx spot (bar ∷ bars) = ((bar.tx ≡ tx) × (spot_of bar ≡ spot)) ⊎ IsSpotAmong tx spot bars

-- an arrow from the end of a bar to another one, there or where that one ended before
abbrev pub arrow_between : Spot → Spot → Element
arrow_between from to = Arrow (middle from from.to) (middle to (min from.to to.to))

-- an arrow to a bar, where there is one
unfoldable pub arrow_to : Spot → Option Spot → List Element
arrow_to from None = []
arrow_to from (Some to) = arrow_between from to ∷ []

-- the place of the transaction that was met, if one was
abbrev pub rival_spot : Spots → Option ℕ → Option Spot
rival_spot spots None = None
rival_spot spots (Some tx) = map.get spots (key_of tx)

-- the arrows of bars
abbrev pub arrows_of : Spots → List Bar → List Element
arrows_of spots [] = []
arrows_of spots (bar ∷ bars) = arrow_to (spot_of bar) (rival_spot spots bar.rival) ++ arrows_of spots bars
