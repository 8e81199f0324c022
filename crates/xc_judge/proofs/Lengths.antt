-- The length of the record that a call without memory left, by what is shown of it.
use Rattle.std.proofs.Common.{inr, ◌≡◌, ℕ, ◌-◌, Option, Some, None, [], ◌∷◌, length, take, drop, refl, ap, sym, ◌∙◌, subst, arith}
use Rattle.std.proofs.Common.{length-drop, length-take}
use Rattle.std.specs.Prelude.{MatchOption}
use Rattle.xc_data.specs.declared.call.Answer.TheVariants as answer
use Rattle.xc_data.specs.declared.call.Call.{Call}
use Rattle.xc_data.specs.declared.private.Private.{Private}
use Rattle.xc_data.specs.declared.undo.Undo.{Undo}
use Rattle.xc_data.specs.declared.undo.Undo.TheVariants.{Overwrite, Append, Create, Rename, NewPipe, NewPair}
use Rattle.xc_data.specs.declared.undo.UndoEnd.{UndoEnd}
use Rattle.xc_data.specs.declared.undo.UndoEnd.TheVariants.{Undone, Failed}
use Rattle.xc_lines.specs.declared.shown.EffectShown.{EffectShown}
use Rattle.xc_compensate.specs.Records.{covered, covers}
use Rattle.xc_model.specs.EntryEnds.{AreLeftBy}
use Rattle.xc_script.specs.declared.ask.Ask.TheVariants as ask
use Rattle.xc_world.specs.Run.{begins}
use Rattle.xc_world.specs.World.{World}
use Rattle.xc_judge.specs.Left.{AreAlike, IsWriteFront, IsLeftLast, IsNotLeft, IsShownLast, NewestShown, count_shown, whole_records}
use Rattle.xc_judge.proofs.Leaving.{FromWhole, IsFull, LeftFrom, front_left_by, left_from}

-- equal records are alike
alike_same : (u v : Undo) (end : UndoEnd) → u ≡ v → AreAlike u v end
alike_same u v end same =
    subst (λ z. AreAlike u z end) same (record { objects = refl; kinds = refl; effects = refl; legal = λ tries way so. so })

-- of one that was undone no length is shown
alike_undone : (k faults : ℕ) (v : Undo) → AreAlike (covered v k) v (Undone faults)
alike_undone k faults (Overwrite file at before after n) = record { objects = refl; kinds = refl; effects = refl; legal = λ tries way so. so }
alike_undone k faults (Append file from after n) = record { objects = refl; kinds = refl; effects = refl; legal = λ tries way so. so }
alike_undone k faults (Create name num) = record { objects = refl; kinds = refl; effects = refl; legal = λ tries way so. so }
alike_undone k faults (Rename from to) = record { objects = refl; kinds = refl; effects = refl; legal = λ tries way so. so }
alike_undone k faults (NewPipe num) = record { objects = refl; kinds = refl; effects = refl; legal = λ tries way so. so }
alike_undone k faults (NewPair num) = record { objects = refl; kinds = refl; effects = refl; legal = λ tries way so. so }

-- what is shown where so many bytes are restored, after so many faults
abbrev failed_so : ℕ → ℕ → Option EffectShown → NewestShown
failed_so done faults effect = record { end = Failed done faults; effect = effect }

-- what is shown where all was undone, after so many faults
abbrev undone_so : ℕ → Option EffectShown → NewestShown
undone_so faults effect = record { end = Undone faults; effect = effect }

-- of one that failed the restored bytes and those that stand are all that it covers
count_front : (k done faults : ℕ) (effect : Option EffectShown) (v : Undo) → IsWriteFront k v → IsFull v
    → IsShownLast (covered v k) (failed_so done faults effect)
    → covers (covered v k) ≡ count_shown done effect
count_front k done faults effect (Overwrite file at before after n) front full shown =
    let few = shown.legal.2 in
    let e = ap (count_shown done) (shown.stands done refl) in
    let a = length-drop done (take k after) in
    let b = length-take k after in
    let size : length (drop done (take k after)) ≡ k - done = omega (arith, a, b, front, full) in
    omega (arith, few, e, size)
count_front k done faults effect (Append file from after n) front full shown =
    let none = shown.legal.2 in
    let e = ap (count_shown done) (shown.stands 0 refl) in
    let b = length-take k after in
    let size : length (take k after) ≡ k = omega (arith, b, front, full) in
    omega (arith, none, e, size)
count_front k done faults effect (Create name num) front full shown =
    let none = shown.legal.2 in let e = ap (count_shown done) (shown.stands 0 refl) in omega (arith, none, e)
count_front k done faults effect (Rename from to) front full shown =
    let none = shown.legal.2 in let e = ap (count_shown done) (shown.stands 0 refl) in omega (arith, none, e)
count_front k done faults effect (NewPipe num) front full shown =
    let none = shown.legal.2 in let e = ap (count_shown done) (shown.stands 0 refl) in omega (arith, none, e)
count_front k done faults effect (NewPair num) front full shown =
    let none = shown.legal.2 in let e = ap (count_shown done) (shown.stands 0 refl) in omega (arith, none, e)

-- so it is of a record that is left
count_from : (u v : Undo) (done faults : ℕ) (effect : Option EffectShown) → FromWhole u v → IsShownLast u (failed_so done faults effect)
    → covers u ≡ count_shown done effect
count_from u v done faults effect from shown =
    ap covers from.is
    ∙ count_front (covers u) done faults effect v from.front from.full (subst (λ z. IsShownLast z (failed_so done faults effect)) from.is shown)

module _ (w : World) (me : Private) (tx : ℕ) (c : Call) (effect : Option EffectShown) where
  -- a call leaves one record whole
  same_whole : (v : Undo) (u : Undo) → whole_records w me tx c ≡ v ∷ [] → (from : LeftFrom w me tx c u) → from.whole ≡ v
  same_whole v u whole from = let both : from.whole ∷ [] ≡ v ∷ [] = from.left ∙ whole in cc both

  -- the whole of one that was undone
  pub left_undone : (faults : ℕ) (v : Undo) → whole_records w me tx c ≡ v ∷ []
      → IsLeftLast (begins w me) tx (ask.Call c) (undone_so faults effect) v
  left_undone faults v whole =
      record {
        left = inr (answer.Fine, refl, sym whole);
        alike = λ u left shown.
            let from = left_from w me tx c u left in
            subst (λ z. AreAlike u z (Undone faults)) (same_whole v u whole from)
            (subst (λ z. AreAlike z from.whole (Undone faults)) (sym from.from.is) (alike_undone (covers u) faults from.whole));
      }

  -- the front of one that failed
  pub left_failed : (done faults : ℕ) (v x : Undo) → whole_records w me tx c ≡ v ∷ [] → x ≡ covered v (count_shown done effect)
      → IsWriteFront (count_shown done effect) v → IsLeftLast (begins w me) tx (ask.Call c) (failed_so done faults effect) x
  left_failed done faults v x whole is front =
      record {
        left = subst (λ (z : Undo). AreLeftBy (begins w me) tx c (z ∷ [])) (sym is) (front_left_by w me tx c (count_shown done effect) v (sym whole) front);
        alike = λ u left shown.
            let from = left_from w me tx c u left in
            let count = count_from u from.whole done faults effect from.from shown in
            alike_same u x (Failed done faults)
            (from.from.is ∙ (λ i. covered (same_whole v u whole from i) (count i)) ∙ sym is);
      }

  -- it has no such front
  pub not_failed : (done faults : ℕ) (v : Undo) → whole_records w me tx c ≡ v ∷ [] → (IsWriteFront (count_shown done effect) v → ⊥)
      → IsNotLeft (begins w me) tx (ask.Call c) (failed_so done faults effect)
  not_failed done faults v whole none u left shown =
      let from = left_from w me tx c u left in
      let count = count_from u from.whole done faults effect from.from shown in
      none (subst (IsWriteFront (count_shown done effect)) (same_whole v u whole from) (subst (λ k. IsWriteFront k from.whole) count from.from.front))

  -- it leaves none at all
  pub not_whole : (end : UndoEnd) → whole_records w me tx c ≡ [] → IsNotLeft (begins w me) tx (ask.Call c) (record { end = end; effect = effect })
  not_whole end none u left shown =
      let from = left_from w me tx c u left in
      let no : from.whole ∷ [] ≡ [] = from.left ∙ none in
      cc no

  -- where the code found a front, or none
  pub by_front : (done faults : ℕ) (v : Undo) (k : ℕ) (found : Option Undo) → whole_records w me tx c ≡ v ∷ [] → k ≡ count_shown done effect
      → MatchOption found (IsWriteFront k v → ⊥) (λ x. (x ≡ covered v k) × IsWriteFront k v)
      → MatchOption found (IsNotLeft (begins w me) tx (ask.Call c) (failed_so done faults effect))
      (IsLeftLast (begins w me) tx (ask.Call c) (failed_so done faults effect))
  by_front done faults v k None whole count none =
      not_failed done faults v whole (subst (λ n. IsWriteFront n v → ⊥) count none)
  by_front done faults v k (Some x) whole count some =
      left_failed done faults v x whole (some.0 ∙ ap (λ n. covered v n) count) (subst (λ n. IsWriteFront n v) count some.1)
