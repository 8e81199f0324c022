-- Effects of records one after another, and in a world with other words.
use Rattle.std.proofs.Common.{◌≡◌, ◌≢◌, inl, inr, ℕ, Option, Some, None, List, [], ◌∷◌, ◌++◌, refl, ap, sym, ◌∙◌}
use Rattle.std.proofs.lemmas.List.{map-append}
use Rattle.xc_data.specs.declared.object.Num.{Num}
use Rattle.xc_data.specs.declared.undo.Undo.{Undo}
use Rattle.xc_data.specs.declared.undo.Undo.TheVariants.{Overwrite, Append, Create, Rename, NewPipe, NewPair}
use Rattle.std.specs.FinMap as finite
use Rattle.xc_maps.specs.Keys.{num_cmp}
use Rattle.xc_maps.proofs.Laws.{get-insert_cases, get-insert_same, num_total, num_exact}
use Rattle.xc_world.specs.World.{World}
use Rattle.xc_world.specs.Trail.{move_name, with_effect}
use Rattle.xc_world.specs.Ends.{with_remains}
use Rattle.xc_world.specs.Effects.{whole, AreMadeIn}
use Rattle.xc_world.proofs.SoundParts.{free_other}

-- ---- one number of a map
module _ {X : Type 0} where
  -- what is absent after an insertion was absent before it, and is not its key
  pub absent_before : (m : finite.FinMap num_cmp X) (at q : Num) (x : X) → finite.get (finite.insert m at x) q ≡ None → (q ≢ at) × (finite.get m q ≡ None)
  absent_before m at q x none = elim (get-insert_cases num_total num_exact m at q x) [
    | inl here ↦ absurd (let some = here.1 in cc)
    | inr is ↦ (
      (λ e. let there : finite.get (finite.insert m at x) q ≡ Some x =
          ap (finite.get (finite.insert m at x)) e ∙ get-insert_same num_total num_exact m at x in absurd (cc (none, there))),
      sym is ∙ none,
    )
  ]

  -- insertions at one key keep what is absent
  pub absent_both : (m n : finite.FinMap num_cmp X) (at q : Num) (x y : X) → (finite.get n q ≡ None → finite.get m q ≡ None)
      → finite.get (finite.insert n at y) q ≡ None → finite.get (finite.insert m at x) q ≡ None
  absent_both m n at q x y h none = let was = absent_before n at q y none in free_other m at q x was.0 (h was.1)

-- ---- in a world with other words

-- the world with other words
abbrev pub with_words : World → List ℕ → World
with_words w words = record w { words = words }

move_name-words : (w : World) (words from to : List ℕ) (o : Option Num) → move_name (with_words w words) from to o ≡ with_words (move_name w from to o) words
move_name-words w words from to None = refl
move_name-words w words from to (Some num) = refl

-- an effect asks for no word
effect-words : (w : World) (words : List ℕ) (u : Undo) (k : ℕ) → with_effect (with_words w words) u k ≡ with_words (with_effect w u k) words
effect-words w words (Overwrite file at before after n) k = refl
effect-words w words (Append file from after n) k = refl
effect-words w words (Create name num) k = refl
effect-words w words (Rename from to) k = move_name-words w words from to (finite.get w.names from)
effect-words w words (NewPipe num) k = refl
effect-words w words (NewPair num) k = refl

-- what remains asks for no word
pub remains-words : (w : World) (words : List ℕ) (us : List (Undo × ℕ)) → with_remains (with_words w words) us ≡ with_words (with_remains w us) words
remains-words w words [] = refl
remains-words w words ((u, k) ∷ us) = ap (λ v. with_remains v us) (effect-words w words u k) ∙ remains-words (with_effect w u k) words us

-- ---- one after another
pub remains-append : (w : World) (us vs : List (Undo × ℕ)) → with_remains w (us ++ vs) ≡ with_remains (with_remains w us) vs
remains-append w [] vs = refl
remains-append w ((u, k) ∷ us) vs = remains-append (with_effect w u k) us vs

-- records that stand whole, one after another
pub whole-append : (us vs : List Undo) → whole (us ++ vs) ≡ whole us ++ whole vs
whole-append us vs = map-append (λ (u : Undo). (u, 0)) us vs

-- records that stand whole, and then others
pub whole-remains : (w : World) (older : List Undo) (u : Undo) (rest : List (Undo × ℕ))
    → with_remains w (whole (older ++ u ∷ []) ++ rest) ≡ with_remains (with_effect (with_remains w (whole older)) u 0) rest
whole-remains w older u rest =
    remains-append w (whole (older ++ u ∷ [])) rest
    ∙ ap (λ us. with_remains (with_remains w us) rest) (whole-append older (u ∷ []))
    ∙ ap (λ v. with_remains v rest) (remains-append w (whole older) ((u, 0) ∷ []))

-- the later records were made in the world that the earlier ones left
pub made-behind : (w : World) (us vs : List Undo) → AreMadeIn w (us ++ vs) → AreMadeIn (with_remains w (whole us)) vs
made-behind w [] vs made = made
made-behind w (u ∷ us) vs made = made-behind (with_effect w u 0) us vs made.1

-- records that were made, and then others in the world that they leave
pub made-append : (w : World) (us vs : List Undo) → AreMadeIn w us → AreMadeIn (with_remains w (whole us)) vs → AreMadeIn w (us ++ vs)
made-append w [] vs first later = later
made-append w (u ∷ us) vs first later = (first.0, made-append (with_effect w u 0) us vs first.1 later)
