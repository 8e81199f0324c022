-- Places of bars in a map by the numbers of their transactions.
use Rattle.std.proofs.Common.{◌≡◌, ◌⊎◌, inl, inr, [], ◌∷◌, ℕ, List, Bool, true, false, cond, Option, Some, None, is_some, refl, sym, ap, ◌∙◌}
use Rattle.std.specs.Prelude.{unwrap_or}
use Rattle.std.specs.FinMap as map
use Rattle.std.specs.FinMap.{get-insert, get-empty}
use Rattle.std.specs.Ordering.{eq_by_cmp}
use Rattle.std.proofs.lemmas.Bool.{true≢false}
use Rattle.xc_data.specs.declared.object.Num.{Num}
use Rattle.xc_maps.specs.Keys.{num_cmp}
use Rattle.xc_maps.proofs.Laws.{alike, tied, num_total, num_exact}
use Rattle.xc_picture.specs.Arrows.{Spots, key_of, spot_of, spots_with, rival_spot, IsSpotAmong}
use Rattle.xc_picture.specs.declared.scene.Bar.{Bar}
use Rattle.xc_picture.specs.declared.scene.Spot.{Spot}

-- what a map with a bar more has at a number, by whether that is the bar's
at_bar : (spots : Spots) (bar : Bar) (tx : ℕ) → map.get (map.insert spots (key_of bar.tx) (spot_of bar)) (key_of tx)
    ≡ cond (eq_by_cmp num_cmp (key_of tx) (key_of bar.tx)) (Some (spot_of bar)) (map.get spots (key_of tx))
at_bar spots bar tx = get-insert num_total spots (key_of bar.tx) (spot_of bar) (key_of tx)

-- keys that tie have one number
one_number : (a b : ℕ) → eq_by_cmp num_cmp (key_of a) (key_of b) ≡ true → b ≡ a
one_number a b e = ap (λ (n : Num). n.tx) (sym (tied num_total num_exact (key_of a) (key_of b) e))

-- a place found is the bar's, or one that was there
found_at : (bar : Bar) (tx : ℕ) (there : Option Spot) (spot : Spot) (ties : Bool) → eq_by_cmp num_cmp (key_of tx) (key_of bar.tx) ≡ ties
    → cond ties (Some (spot_of bar)) there ≡ Some spot → (there ≡ Some spot) ⊎ ((bar.tx ≡ tx) × (spot_of bar ≡ spot))
found_at bar tx there spot true is e = inr (one_number tx bar.tx is, ap (λ (o : Option Spot). unwrap_or o spot) e)
found_at bar tx there spot false is e = inl e

-- a place found is one that was there, or that of a bar
found_from : (spots : Spots) (bars : List Bar) (tx : ℕ) (spot : Spot) → map.get (spots_with spots bars) (key_of tx) ≡ Some spot
    → (map.get spots (key_of tx) ≡ Some spot) ⊎ IsSpotAmong tx spot bars
found_from spots [] tx spot e = inl e
found_from spots (bar ∷ bars) tx spot e = either (found_from (map.insert spots (key_of bar.tx) (spot_of bar)) bars tx spot e)
  where
    first : ((map.get spots (key_of tx) ≡ Some spot) ⊎ ((bar.tx ≡ tx) × (spot_of bar ≡ spot)))
        → (map.get spots (key_of tx) ≡ Some spot) ⊎ IsSpotAmong tx spot (bar ∷ bars)
    first (inl there) = inl there
    first (inr is) = inr (inl is)

    either : ((map.get (map.insert spots (key_of bar.tx) (spot_of bar)) (key_of tx) ≡ Some spot) ⊎ IsSpotAmong tx spot bars)
        → (map.get spots (key_of tx) ≡ Some spot) ⊎ IsSpotAmong tx spot (bar ∷ bars)
    either (inr among) = inr (inr among)
    either (inl now) = first (found_at bar tx (map.get spots (key_of tx)) spot _ refl (sym (at_bar spots bar tx) ∙ now))

-- nothing is at a number in the empty map
nothing_there : (tx : ℕ) (spot : Spot) → map.get {R = num_cmp} map.empty (key_of tx) ≡ Some spot → ⊥
nothing_there tx spot e = true≢false (sym (ap (λ (o : Option Spot). is_some o) (sym (get-empty num_cmp (key_of tx)) ∙ e)))

-- a place found is that of a bar
pub spot_found : (bars : List Bar) (tx : ℕ) (spot : Spot) → rival_spot (spots_with map.empty bars) (Some tx) ≡ Some spot → IsSpotAmong tx spot bars
spot_found bars tx spot e = either (found_from map.empty bars tx spot e)
  where
    either : ((map.get {R = num_cmp} map.empty (key_of tx) ≡ Some spot) ⊎ IsSpotAmong tx spot bars) → IsSpotAmong tx spot bars
    either (inl there) = absurd (nothing_there tx spot there)
    either (inr among) = among

-- what is there is still there with a bar more
kept_at : (bar : Bar) (there : Option Spot) (ties : Bool) → is_some there ≡ true → is_some (cond ties (Some (spot_of bar)) there) ≡ true
kept_at bar there true is = refl
kept_at bar there false is = is

-- what is there is still there with bars more
kept_from : (spots : Spots) (bars : List Bar) (tx : ℕ) → is_some (map.get spots (key_of tx)) ≡ true
    → is_some (map.get (spots_with spots bars) (key_of tx)) ≡ true
kept_from spots [] tx is = is
kept_from spots (bar ∷ bars) tx is =
    kept_from (map.insert spots (key_of bar.tx) (spot_of bar)) bars tx
    (ap (λ (o : Option Spot). is_some o) (at_bar spots bar tx) ∙ kept_at bar (map.get spots (key_of tx)) _ is)

-- where there is a bar, there is a place
there_from : (spots : Spots) (bars : List Bar) (tx : ℕ) (spot : Spot) → IsSpotAmong tx spot bars
    → is_some (map.get (spots_with spots bars) (key_of tx)) ≡ true
there_from spots [] tx spot among = absurd among
there_from spots (bar ∷ bars) tx spot (inl is) =
    kept_from (map.insert spots (key_of bar.tx) (spot_of bar)) bars tx
    (ap (λ (o : Option Spot). is_some o) (at_bar spots bar tx)
    ∙ ap (λ (ties : Bool). is_some (cond ties (Some (spot_of bar)) (map.get spots (key_of tx))))
    (ap (λ (n : ℕ). eq_by_cmp num_cmp (key_of tx) (key_of n)) is.0 ∙ alike num_total num_exact (key_of tx)))
there_from spots (bar ∷ bars) tx spot (inr among) = there_from (map.insert spots (key_of bar.tx) (spot_of bar)) bars tx spot among

-- no place is missed
pub missed : (bars : List Bar) (tx : ℕ) (spot : Spot) → rival_spot (spots_with map.empty bars) (Some tx) ≡ None → IsSpotAmong tx spot bars → ⊥
missed bars tx spot e among = true≢false (sym (there_from map.empty bars tx spot among) ∙ ap (λ (o : Option Spot). is_some o) e)
