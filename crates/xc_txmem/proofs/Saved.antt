-- A save stays one with more stores, and what a back leaves is what was there at it.
use Rattle.std.proofs.Common.{◌≡◌, ℕ, List, [], ◌∷◌, ◌++◌, length, drop, Option, Some, None, refl, ap, sym, subst, ◌∙◌, arith}
use Rattle.std.specs.BTreeMap.{BTreeMap, IsClone, is_at}
use Rattle.std.specs.Map.{lookup}
use Rattle.std.specs.Prelude.{unwrap_or}
use Rattle.std.specs.Ordering.{nat_cmp}
use Rattle.std.proofs.lemmas.List.Elements.{same_from_all_zip}
use Rattle.std.proofs.lemmas.List.{length_push, take-append-le, take_all}
use Rattle.xc_txmem.specs.declared.writes.Save.{Save}
use Rattle.xc_txmem.specs.Overlay.{IsNewest, left_at}
use Rattle.xc_txmem.specs.Saves.{saved_stores, IsSaveOfStores}
use Rattle.xc_txmem.specs.Views.{WritesView}

-- with one store more
pub saved_more : (saved : Option Save) (stores : List (ℕ × ℕ)) (s : ℕ × ℕ) → IsSaveOfStores saved stores → IsSaveOfStores saved (stores ++ s ∷ [])
saved_more None stores s is = tt
saved_more (Some save) stores s is = (
  omega (arith, length_push stores s, is.0),
  subst (λ (xs : List (ℕ × ℕ)). IsNewest save.newest (drop 8 xs))
      (sym (take-append-le save.count stores (s ∷ []) is.0)) is.1,
)

-- and its stores are the same
pub saved_same : (saved : Option Save) (stores : List (ℕ × ℕ)) (s : ℕ × ℕ) → IsSaveOfStores saved stores
    → saved_stores saved (stores ++ s ∷ []) ≡ saved_stores saved stores
saved_same None stores s is = refl
saved_same (Some save) stores s is = ap (λ (xs : List (ℕ × ℕ)). Some xs) (take-append-le save.count stores (s ∷ []) is.0)

-- a save of all that is there
pub saved_now : (save : Save) (stores : List (ℕ × ℕ)) → save.count ≡ length stores → IsNewest save.newest (drop 8 stores) → IsSaveOfStores (Some save) stores
saved_now save stores all newest =
    (omega (arith, all), subst (λ (xs : List (ℕ × ℕ)). IsNewest save.newest (drop 8 xs)) (sym (take_all save.count stores (omega (arith, all)))) newest)

-- it keeps all of them
pub all_saved : (save : Save) (stores : List (ℕ × ℕ)) → save.count ≡ length stores → saved_stores (Some save) stores ≡ Some stores
all_saved save stores all = ap (λ (xs : List (ℕ × ℕ)). Some xs) (take_all save.count stores (omega (arith, all)))

-- what contracts see of these stores and this save
abbrev pub seen_as : List (ℕ × ℕ) → Option Save → WritesView
seen_as stores saved = record { stores = stores; saved = saved_stores saved stores }

-- these stores, and these at a save
abbrev pub writes_of : List (ℕ × ℕ) → Option (List (ℕ × ℕ)) → WritesView
writes_of stores saved = record { stores = stores; saved = saved }

-- a copy of the map has what the map has
pub copy_agrees : (was copy : BTreeMap ℕ ℕ) (stores : List (ℕ × ℕ)) → IsClone (λ (a b : ℕ). b ≡ a) (λ (a b : ℕ). b ≡ a) was copy → IsNewest was stores
    → IsNewest copy stores
copy_agrees was copy stores clone newest =
    let same : copy.entries ≡ was.entries = same_from_all_zip _ was.entries copy.entries clone (λ x y r. ap (λ a. (a, y.1)) r.0 ∙ ap (λ b. (x.0, b)) r.1) in
    λ at value. subst (λ (es : List (ℕ × ℕ)). unwrap_or (lookup (is_at (nat_cmp at)) es) value ≡ left_at at value stores) (sym same) (newest at value)
