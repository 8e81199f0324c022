-- Jobs that are started, one after another.
use Rattle.std.proofs.Common.{◌≡◌, ℕ, zero, suc, ◌+◌, ◌<◌, List, [], ◌∷◌, ◌++◌, length, map, take, get_or, ap, sym, ◌∙◌, append_assoc}
use Rattle.std.proofs.lemmas.List.{map-append, take_more}
use Rattle.std.specs.Prelude.{slice_get}
use Rattle.std.specs.declared.option.Option.TheVariants.{None, Some}

-- what stands in a list stands there also before more
pub still_there : {A : Type 0} (xs more : List A) (at : ℕ) (x : A) → slice_get xs at ≡ Some x → slice_get (xs ++ more) at ≡ Some x
still_there [] more at x is = absurd (let none : None ≡ Some x = is in cc)
still_there (y ∷ xs) more zero x is = is
still_there (y ∷ xs) more (suc at) x is = still_there xs more at x is

-- with one more
pub mapped_one_more : {A B : Type 0} (f : B → A) (front now new : List A) (bs : List B) (i : ℕ) (b : B) → i < length bs → b ≡ get_or bs i b
    → now ≡ front ++ map f (take i bs) → new ≡ now ++ f b ∷ [] → new ≡ front ++ map f (take (i + 1) bs)
mapped_one_more f front now new bs i b within there so went =
    let taken : take (i + 1) bs ≡ take i bs ++ b ∷ [] = take_more bs i b within ∙ ap (λ x. take i bs ++ x ∷ []) (sym there) in
    went ∙ ap (λ xs. xs ++ f b ∷ []) so ∙ append_assoc front (map f (take i bs)) (f b ∷ [])
    ∙ ap (λ xs. front ++ xs) (sym (map-append f (take i bs) (b ∷ []))) ∙ ap (λ xs. front ++ map f xs) (sym taken)
