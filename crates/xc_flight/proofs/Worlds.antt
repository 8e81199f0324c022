-- Worlds: words put in, and what was taken given back.
use Rattle.std.proofs.Common.{◌≡◌, ◌≢◌, ℕ, suc, zero, List, [], ◌∷◌, ap, ◌∙◌, refl}
use Rattle.std.specs.Prelude.{All, slice_get, slice_set, length}
use Rattle.std.proofs.lemmas.List.Elements.{All-head, All-tail}
use Rattle.xc_data.specs.declared.object.Object.{Object}
use Rattle.xc_data.specs.declared.object.Object.TheVariants as object
use Rattle.xc_txmem.specs.Overlay.{overlaid}
use Rattle.xc_world.specs.World.{World, Pipe, Pair}
use Rattle.xc_world.specs.Laws.{AgreeAt}

-- ---- other words in a world
-- two worlds with the words of others agree where both do
pub words_agree : (w v x y : World) (o : Object) → AgreeAt w v o → AgreeAt x y o → AgreeAt (record w { words = x.words }) (record v { words = y.words }) o
words_agree w v x y (object.Word at) e f = f
words_agree w v x y (object.Name name) e f = e
words_agree w v x y (object.File num) e f = e
words_agree w v x y (object.Pipe num) e f = e
words_agree w v x y (object.Pair num) e f = e
words_agree w v x y object.Jobs e f = e

-- ---- lists of words
-- stores elsewhere leave a word
pub overlaid_other : (xs : List ℕ) (stores : List (ℕ × ℕ)) (at : ℕ) → All (λ (s : ℕ × ℕ). s.0 ≢ at) stores → slice_get xs at ≡ slice_get (overlaid xs stores) at
overlaid_other xs [] at away = refl
overlaid_other xs ((place, value) ∷ stores) at away =
    let P : ℕ × ℕ → Type 0 = λ s. s.0 ≢ at in
    set_other xs place at value (All-head P (place, value) stores away) ∙ overlaid_other (slice_set xs place value) stores at
    (All-tail P (place, value) stores away)
  where
    set_other : (xs : List ℕ) (i j x : ℕ) → i ≢ j → slice_get xs j ≡ slice_get (slice_set xs i x) j
    set_other [] i j x ne = refl
    set_other (y ∷ ys) zero zero x ne = absurd (ne refl)
    set_other (y ∷ ys) zero (suc j) x ne = refl
    set_other (y ∷ ys) (suc i) zero x ne = refl
    set_other (y ∷ ys) (suc i) (suc j) x ne = set_other ys i j x (λ e. ne (ap suc e))

-- the same stores over words that agree at a place agree there
pub overlaid_alike : (xs ys : List ℕ) (stores : List (ℕ × ℕ)) (at : ℕ) → slice_get xs at ≡ slice_get ys at
    → slice_get (overlaid xs stores) at ≡ slice_get (overlaid ys stores) at
overlaid_alike xs ys [] at e = e
overlaid_alike xs ys ((place, value) ∷ stores) at e = overlaid_alike (slice_set xs place value) (slice_set ys place value) stores at
    (set_alike xs ys place at value e)
  where
    set_alike : (xs ys : List ℕ) (i j x : ℕ) → slice_get xs j ≡ slice_get ys j → slice_get (slice_set xs i x) j ≡ slice_get (slice_set ys i x) j
    set_alike [] [] i j x e = refl
    set_alike [] (y ∷ ys) zero zero x e = cc e
    set_alike [] (y ∷ ys) zero (suc j) x e = e
    set_alike [] (y ∷ ys) (suc i) zero x e = e
    set_alike [] (y ∷ ys) (suc i) (suc j) x e = set_alike [] ys i j x e
    set_alike (z ∷ zs) [] zero zero x e = cc e
    set_alike (z ∷ zs) [] zero (suc j) x e = e
    set_alike (z ∷ zs) [] (suc i) zero x e = e
    set_alike (z ∷ zs) [] (suc i) (suc j) x e = set_alike zs [] i j x e
    set_alike (z ∷ zs) (y ∷ ys) zero zero x e = refl
    set_alike (z ∷ zs) (y ∷ ys) zero (suc j) x e = e
    set_alike (z ∷ zs) (y ∷ ys) (suc i) zero x e = e
    set_alike (z ∷ zs) (y ∷ ys) (suc i) (suc j) x e = set_alike zs ys i j x e

-- there are as many words as before
pub overlaid_count : (xs : List ℕ) (stores : List (ℕ × ℕ)) → length (overlaid xs stores) ≡ length xs
overlaid_count xs [] = refl
overlaid_count xs ((place, value) ∷ stores) = overlaid_count (slice_set xs place value) stores ∙ set_count xs place value
  where
    set_count : (xs : List ℕ) (i x : ℕ) → length (slice_set xs i x) ≡ length xs
    set_count [] i x = refl
    set_count (y ∷ ys) zero x = refl
    set_count (y ∷ ys) (suc i) x = ap suc (set_count ys i x)
