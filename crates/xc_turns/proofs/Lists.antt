-- Lists: what stands in one place, one element in another's place, one more after, and what is picked.
use Rattle.std.proofs.Common.{◌≡◌, ◌⊎◌, inl, inr, ℕ, ◌+◌, ◌<◌, List, [], ◌∷◌, ◌++◌, length, zero, suc, refl, ap, sym, ◌∙◌, arith}
use Rattle.std.specs.Prelude.{Contains, Option, map, slice_get, slice_set, sum_by}
use Rattle.std.specs.List.{filter_map, cons_option}
use Rattle.std.specs.declared.option.Option.TheVariants.{None, Some}
use Rattle.std.proofs.lemmas.List.{get_or-map, length-map}
use Rattle.std.proofs.lemmas.List.Sums.{sum_by-set}
use Rattle.std.proofs.lemmas.Option.{get_or_from_slice_get, slice_get_within}

-- ---- one element in another's place
-- in a sum its part comes, and the other's goes
pub sum_set_place : {A : Type 0} → (f : A → ℕ) (xs : List A) (i : ℕ) (x y : A) → slice_get xs i ≡ Some x
    → sum_by f (slice_set xs i y) + f x ≡ sum_by f xs + f y
sum_set_place f xs i x y e =
    omega (arith, sum_by-set f xs i y x (slice_get_within xs i x e), ap f (get_or_from_slice_get xs i x x e))

-- a list of the same length has something there too
pub get_beside : {A B : Type 0} → (xs : List A) (ys : List B) (i : ℕ) (y : B) → length xs ≡ length ys → slice_get ys i ≡ Some y
    → (x : A) × (slice_get xs i ≡ Some x)
get_beside xs [] i y e h = cc
get_beside [] (b ∷ ys) i y e h = absurd (omega arith)
get_beside (a ∷ xs) (b ∷ ys) zero y e h = (a, refl)
get_beside (a ∷ xs) (b ∷ ys) (suc i) y e h = get_beside xs ys i y (omega arith) h

-- nothing changes where it stands there already
pub set_itself : {A : Type 0} → (xs : List A) (i : ℕ) (x : A) → slice_get xs i ≡ Some x → slice_set xs i x ≡ xs
set_itself [] i x e = refl
set_itself (y ∷ xs) zero x e = let same : y ≡ x = cc in ap (λ z. z ∷ xs) (sym same)
set_itself (y ∷ xs) (suc i) x e = ap (λ ys. y ∷ ys) (set_itself xs i x e)

-- ---- one list after another
-- the front stays
pub get_front : {A : Type 0} → (xs ys : List A) (k : ℕ) (x : A) → slice_get xs k ≡ Some x → slice_get (xs ++ ys) k ≡ Some x
get_front [] ys k x e = cc
get_front (y ∷ xs) ys zero x e = e
get_front (y ∷ xs) ys (suc k) x e = get_front xs ys k x e

-- inside the front nothing changes
pub get_inside : {A : Type 0} → (xs ys : List A) (k : ℕ) → k < length xs → slice_get (xs ++ ys) k ≡ slice_get xs k
get_inside [] ys k low = absurd (omega arith)
get_inside (x ∷ xs) ys zero low = refl
get_inside (x ∷ xs) ys (suc k) low = get_inside xs ys k (omega arith)

-- one more stands last
pub get_last : {A : Type 0} → (xs : List A) (x : A) → slice_get (xs ++ x ∷ []) (length xs) ≡ Some x
get_last [] x = refl
get_last (y ∷ xs) x = get_last xs x

-- with one more there are those before, and that one
pub get_cases : {A : Type 0} → (xs : List A) (y : A) (k : ℕ) (x : A) → slice_get (xs ++ y ∷ []) k ≡ Some x
    → (slice_get xs k ≡ Some x) ⊎ ((k ≡ length xs) × (y ≡ x))
get_cases [] y zero x e = inr (refl, cc)
get_cases [] y (suc k) x e = cc
get_cases (z ∷ xs) y zero x e = inl e
get_cases (z ∷ xs) y (suc k) x e = elim (get_cases xs y k x e) [ inl at ↦ inl at | inr last ↦ inr (ap suc last.0, last.1) ]

-- ---- what is picked around one place
pub record PickedAround {A B : Type 0} (h : A → Option B) (xs : List A) (i : ℕ) (x : A) : Type 0 where
  pub front : List B
  pub back : List B
  pub was : filter_map h xs ≡ front ++ cons_option (h x) back
  pub is : (y : A) → filter_map h (slice_set xs i y) ≡ front ++ cons_option (h y) back

option_front : {B : Type 0} → (o : Option B) (xs ys : List B) → cons_option o (xs ++ ys) ≡ cons_option o xs ++ ys
option_front None xs ys = refl
option_front (Some b) xs ys = refl

-- it stands in its place among what is picked
pub around : {A B : Type 0} → (h : A → Option B) (xs : List A) (i : ℕ) (x : A) → slice_get xs i ≡ Some x → PickedAround h xs i x
around h [] i x e = cc
around h (z ∷ xs) zero x e = let same : z ≡ x = cc in
    record { front = []; back = filter_map h xs; was = ap (λ a. cons_option (h a) (filter_map h xs)) same; is = λ y. refl }
around h (z ∷ xs) (suc i) x e =
    let rest = around h xs i x e in
    record {
      front = cons_option (h z) rest.front;
      back = rest.back;
      was = ap (cons_option (h z)) rest.was ∙ option_front (h z) rest.front (cons_option (h x) rest.back);
      is = λ y. ap (cons_option (h z)) (rest.is y) ∙ option_front (h z) rest.front (cons_option (h y) rest.back);
    }

-- ---- what a list contains
-- the first
pub contains_first : {A : Type 0} → (x : A) (xs : List A) → Contains (x ∷ xs) x
contains_first x xs = (0, omega arith, refl)

-- what is after it
pub contains_later : {A : Type 0} → (x : A) (xs : List A) (y : A) → Contains xs y → Contains (x ∷ xs) y
contains_later x xs y at = (suc at.0, omega (arith, at.1), at.2)

-- and nothing else
pub contains_cons : {A : Type 0} → (x : A) (xs : List A) (y : A) → Contains (x ∷ xs) y → (x ≡ y) ⊎ Contains xs y
contains_cons x xs y (zero, lt, e) = inl e
contains_cons x xs y (suc k, lt, e) = inr (k, omega arith, e)

-- what a function makes of an element is in what it makes of the list
pub contains_map : {A B : Type 0} → (f : A → B) (xs : List A) (x : A) → Contains xs x → Contains (map f xs) (f x)
contains_map f xs x at =
    let low = at.1 in
    (at.0, omega (arith, length-map xs f), get_or-map f xs at.0 x (f x) low ∙ ap f at.2)

contains_option : {B : Type 0} → (o : Option B) (xs : List B) (y : B) → o ≡ Some y → Contains (cons_option o xs) y
contains_option None xs y e = cc
contains_option (Some w) xs y e = (0, omega arith, (let is : w ≡ y = cc in is))

contains_past : {B : Type 0} → (o : Option B) (xs : List B) (y : B) → Contains xs y → Contains (cons_option o xs) y
contains_past None xs y at = at
contains_past (Some w) xs y at = contains_later w xs y at

-- what is picked of an element is in what is picked of the list
pub contains_picked : {A B : Type 0} → (f : A → Option B) (xs : List A) (k : ℕ) (x : A) (y : B) → slice_get xs k ≡ Some x → f x ≡ Some y
    → Contains (filter_map f xs) y
contains_picked f [] k x y e g = cc
contains_picked f (z ∷ xs) zero x y e g = let same : z ≡ x = cc in contains_option (f z) (filter_map f xs) y (ap f same ∙ g)
contains_picked f (z ∷ xs) (suc k) x y e g = contains_past (f z) (filter_map f xs) y (contains_picked f xs k x y e g)

-- ---- options
-- nothing is there, or something is
pub not_both : {A : Type 0} → (o : Option A) (x : A) → o ≡ None → o ≡ Some x → ⊥
not_both o x none some = cc
