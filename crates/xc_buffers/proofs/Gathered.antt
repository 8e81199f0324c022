-- Items that are given back one after another, the last first.
use Rattle.std.proofs.Common.{◌≡◌, Bool, true, false, not, cond, List, [], ◌∷◌, ◌++◌, refl, ap, sym, ◌∙◌, append_assoc}
use Rattle.std.specs.List.{filter}
use Rattle.std.proofs.lemmas.List.Elements.{filter-append}
use Rattle.xc_data.specs.declared.entry.KeptItem.{KeptItem}
use Rattle.xc_world.specs.World.{World}
use Rattle.xc_world.specs.Run.{given_back}
use Rattle.xc_buffers.specs.declared.source.Endpoint.{Endpoint}
use Rattle.xc_buffers.specs.Sources.{source_of, is_from}
use Rattle.xc_buffers.specs.Items.{items_from}
use Rattle.xc_buffers.specs.Changes.{PutsFront}
use Rattle.xc_buffers.proofs.Orders.{own_source, one_source}
use Rattle.xc_world.proofs.Laws.{given_append}

true_false : true ≡ false → ⊥
true_false e = cc

filter_apart : (p q : KeptItem → Bool) → ((x : KeptItem) → p x ≡ true → q x ≡ true) → (xs : List KeptItem) → filter p (filter q xs) ≡ filter p xs
filter_apart p q h [] = refl
filter_apart p q h (x ∷ xs) = by_test (q x) (h x) (filter_apart p q h xs)
  where
    by_own : (c : Bool) → p x ≡ c → (p x ≡ true → false ≡ true) → filter p (filter q xs) ≡ filter p xs
        → filter p (filter q xs) ≡ cond c (x ∷ filter p xs) (filter p xs)
    by_own true f le e = absurd (true_false (sym (le f)))
    by_own false f le e = e

    by_test : (b : Bool) → (p x ≡ true → b ≡ true) → filter p (filter q xs) ≡ filter p xs
        → filter p (cond b (x ∷ filter q xs) (filter q xs)) ≡ cond (p x) (x ∷ filter p xs) (filter p xs)
    by_test true le e = ap (λ ys. cond (p x) (x ∷ ys) ys) e
    by_test false le e = by_own (p x) refl le e

-- what is kept of each source after an item that was put in front
pub from_put : (t : KeptItem) (old new : List KeptItem) → PutsFront t old new → (source : Endpoint)
    → items_from source new ≡ items_from source (t ∷ []) ++ items_from source old
from_put t old new put source = by_test (is_from source t) refl
  where
    others : is_from source t ≡ false → (x : KeptItem) → is_from source x ≡ true → not (is_from (source_of t) x) ≡ true
    others apart x e = by_own (is_from (source_of t) x) refl
      where
        by_own : (b : Bool) → is_from (source_of t) x ≡ b → not b ≡ true
        by_own false f = refl
        by_own true f =
            let same : source ≡ source_of t = one_source source (source_of x) e ∙ sym (one_source (source_of t) (source_of x) f) in
            absurd (true_false (sym (own_source (source_of t)) ∙ ap (λ s. is_from s t) (sym same) ∙ apart))

    by_test : (b : Bool) → is_from source t ≡ b → items_from source new ≡ cond b (t ∷ []) [] ++ items_from source old
    by_test true e =
        let same = one_source source (source_of t) e in
        ap (λ s. items_from s new) same ∙ put.own ∙ ap (λ s. t ∷ items_from s old) (sym same)
    by_test false e =
        let q : KeptItem → Bool = λ x. not (is_from (source_of t) x) in
        sym (filter_apart (is_from source) q (others e) new) ∙ ap (items_from source) put.apart ∙ filter_apart (is_from source) q (others e) old

-- some notes are left: given back onto what is kept now they lead to what all lead to, onto what was kept at first
pub record Pending (notes kept left now : List KeptItem) : Type 0 where
  pub each : (source : Endpoint) → items_from source left ++ items_from source now ≡ items_from source notes ++ items_from source kept
  pub world : (w : World) → given_back (given_back w now) left ≡ given_back (given_back w kept) notes

-- one more is given back
pub pending_more : (notes kept left now next : List KeptItem) (t : KeptItem) → Pending notes kept (left ++ t ∷ []) now → PutsFront t now next
    → Pending notes kept left next
pending_more notes kept left now next t p put = record {
  each = λ source.
      ap (λ items. items_from source left ++ items) (from_put t now next put source)
      ∙ sym (append_assoc (items_from source left) (items_from source (t ∷ [])) (items_from source now))
      ∙ ap (λ items. items ++ items_from source now) (sym (filter-append (is_from source) left (t ∷ [])))
      ∙ p.each source;
  world = λ w.
      ap (λ x. given_back x left) (put.world w) ∙ sym (given_append (given_back w now) left (t ∷ [])) ∙ p.world w;
}
