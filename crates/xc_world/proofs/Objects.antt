-- Objects: whether a list has one, and worlds that agree at one.
use Rattle.std.proofs.Common.{◌≡◌, ◌⊎◌, inl, inr, ℕ, Bool, true, false, List, [], ◌∷◌, suc, sym, ◌∙◌, subst, refl}
use Rattle.std.specs.Prelude.{Contains, slice_get}
use Rattle.std.specs.FinMap as map
use Rattle.std.specs.List.{list_any}
use Rattle.std.specs.Cmp.Lexicographic.{nat_list_cmp_total}
use Rattle.std.proofs.lemmas.Map.Lookups.{exact_bytes}
use Rattle.std.proofs.lemmas.Map.Views.{Contains-from_any}
use Rattle.std.proofs.lemmas.List.Folds.{list_any_at}
use Rattle.xc_data.specs.declared.object.Object.{Object}
use Rattle.xc_data.specs.declared.object.Object.TheVariants as object
use Rattle.xc_maps.proofs.Laws.{num_total, num_exact}
use Rattle.xc_world.specs.World.{World}
use Rattle.xc_data.specs.Claims.{is_object}
use Rattle.xc_world.specs.Laws.{AgreeAt}
use Rattle.xc_data.proofs.Laws.{same_object, itself}

true_not_false : true ≡ false → ⊥
true_not_false e = cc

-- the test finds an object that is in a list
pub found : (objects : List Object) (o : Object) → Contains objects o → list_any (is_object o) objects ≡ true
found objects o at = list_any_at (is_object o) objects at.0 o at.1 (subst (λ x. is_object o x ≡ true) (sym at.2) (itself o))

-- an object is in a list or is not
pub decide : (objects : List Object) (o : Object) → Contains objects o ⊎ (Contains objects o → ⊥)
decide objects o = by_test (list_any (is_object o) objects) refl
  where
    by_test : (b : Bool) → list_any (is_object o) objects ≡ b → Contains objects o ⊎ (Contains objects o → ⊥)
    by_test true e = inl (Contains-from_any same_object o objects e)
    by_test false e = inr (λ at. true_not_false (sym (found objects o at) ∙ e))

-- ---- worlds that agree
pub agree_back : (w v : World) (o : Object) → AgreeAt w v o → AgreeAt v w o
agree_back w v (object.Word at) e = sym e
agree_back w v (object.Name name) e = sym e
agree_back w v (object.File num) e = sym e
agree_back w v (object.Pipe num) e = sym e
agree_back w v (object.Pair num) e = sym e
agree_back w v object.Jobs e = sym e

-- where one world agrees with another, and that with a third, the first agrees with the third
pub agree_on : (w v x : World) (o : Object) → AgreeAt w v o → AgreeAt v x o → AgreeAt w x o
agree_on w v x (object.Word at) e f = e ∙ f
agree_on w v x (object.Name name) e f = e ∙ f
agree_on w v x (object.File num) e f = e ∙ f
agree_on w v x (object.Pipe num) e f = e ∙ f
agree_on w v x (object.Pair num) e f = e ∙ f
agree_on w v x object.Jobs e f = e ∙ f

-- lists of words that agree at each place are the same
pub words_same : (xs ys : List ℕ) → ((k : ℕ) → slice_get xs k ≡ slice_get ys k) → xs ≡ ys
words_same [] [] h = refl
words_same [] (y ∷ ys) h = let e = h 0 in cc e
words_same (x ∷ xs) [] h = let e = h 0 in cc e
words_same (x ∷ xs) (y ∷ ys) h = let rest = words_same xs ys (λ k. h (suc k)) in cc (h 0, rest)

-- worlds that agree at every object, with the same blocks, are the same
pub worlds_same : (v w : World) → ((o : Object) → AgreeAt v w o) → v.blocks ≡ w.blocks → v ≡ w
worlds_same v w h blocks =
    let words = words_same v.words w.words (λ k. h (object.Word k)) in
    let names = map.same_map nat_list_cmp_total exact_bytes v.names w.names (λ q. h (object.Name q)) in
    let files = map.same_map num_total num_exact v.files w.files (λ q. h (object.File q)) in
    let pipes = map.same_map num_total num_exact v.pipes w.pipes (λ q. h (object.Pipe q)) in
    let pairs = map.same_map num_total num_exact v.pairs w.pairs (λ q. h (object.Pair q)) in
    let started = h object.Jobs in
    λ i. record { words = words i; names = names i; files = files i; pipes = pipes i; pairs = pairs i; started = started i; blocks = blocks i }
