-- A word under stores is what they leave at its place.
use Rattle.std.proofs.Common.{◌≡◌, ℕ, ◌<◌, ◌≤◌, List, [], ◌∷◌, ◌++◌, zero, suc, length, take, drop, Some, None, refl, ap, sym, subst, ◌∙◌, arith, length-append}
use Rattle.std.specs.Prelude.{slice_index, slice_set, ◌==◌, unwrap_or, min, if◌then◌else◌}
use Rattle.std.specs.BTreeMap.{BTreeMap, Updates, get}
use Rattle.std.specs.Ordering.{nat_cmp}
use Rattle.std.proofs.lemmas.Grind.{common_steps}
use Rattle.std.proofs.lemmas.List.{drop-append-le, drop_all, take_min}
use Rattle.xc_txmem.specs.Overlay.{overlaid, left_at, IsNewest}

-- one store at one place
index-set : (words : List ℕ) (place at value : ℕ) → at < length words
    → slice_index (slice_set words place value) at ≡ (if place == at then value else slice_index words at)
index-set [] place at value lt = grind arith
index-set (w ∷ words) zero zero value lt = refl
index-set (w ∷ words) zero (suc at) value lt = grind arith
index-set (w ∷ words) (suc place) zero value lt = grind arith
index-set (w ∷ words) (suc place) (suc at) value lt = let before = index-set words place at value (omega arith) in grind (arith, before)

length-set : (words : List ℕ) (place value : ℕ) → length (slice_set words place value) ≡ length words
length-set [] place value = refl
length-set (w ∷ words) zero value = refl
length-set (w ∷ words) (suc place) value = ap suc (length-set words place value)

-- a word under stores is what they leave of the old word at its place
pub index-overlaid : (words : List ℕ) (stores : List (ℕ × ℕ)) (at : ℕ) → at < length words
    → left_at at (slice_index words at) stores ≡ slice_index (overlaid words stores) at
index-overlaid words [] at lt = refl
index-overlaid words ((place, value) ∷ stores) at lt =
    ap (λ v. left_at at v stores) (sym (index-set words place at value lt))
    ∙ index-overlaid (slice_set words place value) stores at (omega (arith, length-set words place value))

-- stores change no count
pub overlay_count : (words : List ℕ) (stores : List (ℕ × ℕ)) → length (overlaid words stores) ≡ length words
overlay_count words [] = refl
overlay_count words ((place, value) ∷ stores) = overlay_count (slice_set words place value) stores ∙ length-set words place value

-- one store more
pub overlay_adds : (words : List ℕ) (stores : List (ℕ × ℕ)) (place value : ℕ)
    → overlaid words (stores ++ (place, value) ∷ []) ≡ slice_set (overlaid words stores) place value
overlay_adds words [] place value = refl
overlay_adds words ((at, v) ∷ stores) place value = overlay_adds (slice_set words at v) stores place value

-- and what that leaves at a place
pub left_adds : (at value : ℕ) (stores : List (ℕ × ℕ)) (place stored : ℕ)
    → left_at at value (stores ++ (place, stored) ∷ []) ≡ (if place == at then stored else left_at at value stores)
left_adds at value [] place stored = refl
left_adds at value ((p, v) ∷ stores) place stored = left_adds at (if p == at then v else value) stores place stored

-- a map with the newest values has them still with one store more
newest_adds : (was now : BTreeMap ℕ ℕ) (stores : List (ℕ × ℕ)) (place stored : ℕ)
    → IsNewest was stores → Updates nat_cmp was now place (Some stored) → IsNewest now (stores ++ (place, stored) ∷ [])
newest_adds was now stores place stored holds updates = λ at value.
    let one : left_at at value (stores ++ (place, stored) ∷ []) ≡ (if place == at then stored else left_at at value stores)
    = left_adds at value stores place stored in
    grind (arith, common_steps, one, holds at value, updates.0 at)

-- ---- stores of which the first ones are walked through, and the newest of the later ones are in a map
-- the later ones are laid over the first
left_split : (at value n : ℕ) (stores : List (ℕ × ℕ)) → left_at at (left_at at value (take n stores)) (drop n stores) ≡ left_at at value stores
left_split at value zero stores = refl
left_split at value (suc n) [] = refl
left_split at value (suc n) ((place, stored) ∷ stores) = left_split at (if place == at then stored else value) n stores

-- what a map has is what all leave
pub late_found : (newest : BTreeMap ℕ ℕ) (stores : List (ℕ × ℕ)) (at value found : ℕ) → IsNewest newest (drop 8 stores)
    → get nat_cmp newest at ≡ Some found → found ≡ left_at at value stores
late_found newest stores at value found holds is =
    let before : ℕ = left_at at value (take 8 stores) in
    ap (λ o. unwrap_or o before) (sym is) ∙ holds at before ∙ left_split at value 8 stores

-- and where it has nothing, what the first ones leave is
pub early_found : (newest : BTreeMap ℕ ℕ) (stores : List (ℕ × ℕ)) (at value : ℕ) → IsNewest newest (drop 8 stores)
    → get nat_cmp newest at ≡ None → left_at at value (take (min 8 (length stores)) stores) ≡ left_at at value stores
early_found newest stores at value holds is =
    let before : ℕ = left_at at value (take 8 stores) in
    ap (left_at at value) (take_min 8 stores)
    ∙ ap (λ o. unwrap_or o before) (sym is) ∙ holds at before ∙ left_split at value 8 stores

-- one of the first ones more
pub early_adds : (newest : BTreeMap ℕ ℕ) (stores : List (ℕ × ℕ)) (place stored : ℕ) → length stores < 8
    → IsNewest newest (drop 8 stores) → IsNewest newest (drop 8 (stores ++ (place, stored) ∷ []))
early_adds newest stores place stored few holds =
    let none : drop 8 stores ≡ [] = drop_all 8 stores (omega arith) in
    let still : drop 8 (stores ++ (place, stored) ∷ []) ≡ []
    = drop_all 8 (stores ++ (place, stored) ∷ []) (omega (arith, length-append stores ((place, stored) ∷ []))) in
    subst (IsNewest newest) (none ∙ sym still) holds

-- one of the later ones more
pub late_adds : (was now : BTreeMap ℕ ℕ) (stores : List (ℕ × ℕ)) (place stored : ℕ) → 8 ≤ length stores
    → IsNewest was (drop 8 stores) → Updates nat_cmp was now place (Some stored) → IsNewest now (drop 8 (stores ++ (place, stored) ∷ []))
late_adds was now stores place stored many holds updates =
    subst (IsNewest now) (sym (drop-append-le 8 stores ((place, stored) ∷ []) many))
    (newest_adds was now (drop 8 stores) place stored holds updates)
