-- What was given back is what was kept before, and what was taken.
use Rattle.std.proofs.Common.{◌≡◌, ◌⊎◌, inl, inr, Bool, true, false, cond, List, [], ◌∷◌, ◌++◌, refl, ap, sym, ◌∙◌, subst}
use Rattle.std.specs.Prelude.{All, Contains, not}
use Rattle.std.specs.List.{filter}
use Rattle.std.proofs.lemmas.List.Elements.{All-nil, All-cons, All-head, All-tail, All-append, All-filter, All-weaker, All-contains, All-contains_itself}
use Rattle.xc_buffers.specs.Items.{items_apart, items_from}
use Rattle.xc_buffers.specs.Sources.{is_from, source_of}
use Rattle.xc_buffers.specs.declared.source.Endpoint.{Endpoint}
use Rattle.xc_buffers.proofs.Laws.{own_source}
use Rattle.xc_data.specs.declared.entry.KeptItem.{KeptItem}

-- what holds of all that pass a test holds of each that does
unfiltered : {A : Type 0} (p : A → Bool) (P : A → Type 0) (xs : List A) → All P (filter p xs) → All (λ x. p x ≡ true → P x) xs
unfiltered p P [] all = All-nil (λ x. p x ≡ true → P x)
unfiltered {A = A} p P (x ∷ xs) all = by_test (p x) refl (unfiltered p P xs)
  where
    by_test : (b : Bool) → p x ≡ b → (All P (filter p xs) → All (λ y. p y ≡ true → P y) xs) → All (λ y. p y ≡ true → P y) (x ∷ xs)
    by_test true is rest =
        let first : All P (x ∷ filter p xs) = subst (λ b. All P (cond b (x ∷ filter p xs) (filter p xs))) is all in
        All-cons (λ y. p y ≡ true → P y) x xs (λ passes. All-head P x (filter p xs) first) (rest (All-tail P x (filter p xs) first))
    by_test false is rest =
        let others : All P (filter p xs) = subst (λ b. All P (cond b (x ∷ filter p xs) (filter p xs))) is all in
        All-cons (λ y. p y ≡ true → P y) x xs (λ passes. let both : true ≡ false = sym passes ∙ is in cc both) (rest others)

-- it is among one of the two
pub given_among : (items old new : List KeptItem) → ((s : Endpoint) → items_from s new ≡ items_from s items ++ items_from s old)
    → (item : KeptItem) → Contains new item → Contains items item ⊎ Contains old item
given_among items old new each item at =
    let s = source_of item in
    let P : KeptItem → Type 0 = λ x. Contains items x ⊎ Contains old x in
    let taken : All P items = All-weaker (Contains items) P (λ x there. inl there) items (All-contains_itself items) in
    let kept : All P old = All-weaker (Contains old) P (λ x there. inr there) old (All-contains_itself old) in
    let all : All P (items_from s new) = subst (All P) (sym (each s))
    (All-append P (items_from s items) (items_from s old) (All-filter (is_from s) P items taken) (All-filter (is_from s) P old kept)) in
    All-contains (λ y. is_from s y ≡ true → P y) new item (unfiltered (is_from s) P new all) at (own_source s)

-- so what holds of both lists holds of the new one
pub given_all : (P : KeptItem → Type 0) (items old new : List KeptItem) → ((item : KeptItem) → Contains new item → Contains items item ⊎ Contains old item)
    → All P items → All P old → All P new
given_all P items old new among taken kept = All-weaker (Contains new) P
    (λ x at. elim (among x at) [
      | inl there ↦ All-contains P items x taken there
      | inr there ↦ All-contains P old x kept there
    ]) new (All-contains_itself new)

-- the same of one item
pub front_among : (t : KeptItem) (old new : List KeptItem) → items_from (source_of t) new ≡ t ∷ items_from (source_of t) old
    → items_apart (source_of t) new ≡ items_apart (source_of t) old → (item : KeptItem) → Contains new item → (item ≡ t) ⊎ Contains old item
front_among t old new own apart item at =
    let s = source_of t in
    let P : KeptItem → Type 0 = λ x. (x ≡ t) ⊎ Contains old x in
    let kept : All P old = All-weaker (Contains old) P (λ x there. inr there) old (All-contains_itself old) in
    let mine : All P (items_from s new) = subst (All P) (sym own) (All-cons P t (items_from s old) (inl refl) (All-filter (is_from s) P old kept)) in
    let others : All P (items_apart s new) = subst (All P) (sym apart) (All-filter (λ x. not (is_from s x)) P old kept) in
    by_source (is_from s item) refl mine others
  where
    by_source : (b : Bool) → is_from (source_of t) item ≡ b → All (λ x. (x ≡ t) ⊎ Contains old x) (items_from (source_of t) new)
        → All (λ x. (x ≡ t) ⊎ Contains old x) (items_apart (source_of t) new) → (item ≡ t) ⊎ Contains old item
    by_source true is mine others =
        All-contains (λ y. is_from (source_of t) y ≡ true → (y ≡ t) ⊎ Contains old y) new item
        (unfiltered (is_from (source_of t)) (λ x. (x ≡ t) ⊎ Contains old x) new mine) at is
    by_source false is mine others =
        All-contains (λ y. not (is_from (source_of t) y) ≡ true → (y ≡ t) ⊎ Contains old y) new item
        (unfiltered (λ x. not (is_from (source_of t) x)) (λ x. (x ≡ t) ⊎ Contains old x) new others) at (ap not is)

-- so what holds of it and of the old list holds of the new one
pub given_last : (P : KeptItem → Type 0) (t : KeptItem) (old new : List KeptItem) → ((item : KeptItem) → Contains new item → (item ≡ t) ⊎ Contains old item)
    → P t → All P old → All P new
given_last P t old new among mine kept = All-weaker (Contains new) P
    (λ x at. elim (among x at) [
      | inl is ↦ subst P (sym is) mine
      | inr there ↦ All-contains P old x kept there
    ]) new (All-contains_itself new)
