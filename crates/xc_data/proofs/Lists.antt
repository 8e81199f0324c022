-- Lists with one element in another's place, and what is read off them.
use Rattle.std.proofs.Common.{◌≡◌, ◌≢◌, ℕ, zero, suc, ◌+◌, ◌<◌, List, [], ◌∷◌, length, get_or, refl, ap, sym, ◌∙◌, arith}
use Rattle.std.specs.Prelude.{Option, map, slice_get, slice_set}
use Rattle.std.specs.declared.option.Option.TheVariants.{None, Some}
use Rattle.std.specs.List.{filter_map, cons_option}

-- ---- one element in another's place
-- what is set is there
pub get_set_same : {A : Type 0} (xs : List A) (i : ℕ) (x y : A) → slice_get xs i ≡ Some x → slice_get (slice_set xs i y) i ≡ Some y
get_set_same [] i x y e = cc e
get_set_same (z ∷ zs) zero x y e = refl
get_set_same (z ∷ zs) (suc i) x y e = get_set_same zs i x y e

-- elsewhere all stays
pub get_set_other : {A : Type 0} (xs : List A) (i j : ℕ) (y : A) → j ≢ i → slice_get (slice_set xs i y) j ≡ slice_get xs j
get_set_other [] i j y ne = refl
get_set_other (z ∷ zs) zero zero y ne = absurd (ne refl)
get_set_other (z ∷ zs) zero (suc j) y ne = refl
get_set_other (z ∷ zs) (suc i) zero y ne = refl
get_set_other (z ∷ zs) (suc i) (suc j) y ne = get_set_other zs i j y (λ e. ne (ap suc e))

-- the list stays as long
pub length_set : {A : Type 0} (xs : List A) (i : ℕ) (y : A) → length (slice_set xs i y) ≡ length xs
length_set [] i y = refl
length_set (z ∷ zs) zero y = refl
length_set (z ∷ zs) (suc i) y = ap suc (length_set zs i y)

-- an image shows what is set
pub map_set : {A B : Type 0} (f : A → B) (xs : List A) (i : ℕ) (y : A) → map f (slice_set xs i y) ≡ slice_set (map f xs) i (f y)
map_set f [] i y = refl
map_set f (z ∷ zs) zero y = refl
map_set f (z ∷ zs) (suc i) y = ap (λ ys. f z ∷ ys) (map_set f zs i y)

-- an image that doesn't see it stays
pub map_set_same : {A B : Type 0} (f : A → B) (xs : List A) (i : ℕ) (x y : A) → slice_get xs i ≡ Some y → f x ≡ f y → map f (slice_set xs i x) ≡ map f xs
map_set_same f [] i x y e same = refl
map_set_same f (z ∷ zs) zero x y e same = let is : z ≡ y = cc e in ap (λ b. b ∷ map f zs) (same ∙ ap f (sym is))
map_set_same f (z ∷ zs) (suc i) x y e same = ap (λ ys. f z ∷ ys) (map_set_same f zs i x y e same)

-- what is set among those that are or are not
pub put_at : {B : Type 0} (xs : List (Option B)) (i : ℕ) (b y : B) → get_or xs i None ≡ Some b → get_or (slice_set xs i (Some y)) i None ≡ Some y
put_at [] i b y e = cc e
put_at (z ∷ zs) zero b y e = refl
put_at (z ∷ zs) (suc i) b y e = put_at zs i b y e

-- ---- what is read
-- an image at a place
pub get_map : {A B : Type 0} (f : A → B) (xs : List A) (i : ℕ) (x : A) → slice_get xs i ≡ Some x → slice_get (map f xs) i ≡ Some (f x)
get_map f [] i x e = cc e
get_map f (z ∷ zs) zero x e = let is : z ≡ x = cc e in ap (λ y. Some (f y)) is
get_map f (z ∷ zs) (suc i) x e = get_map f zs i x e

-- what is at a place below the length is there
pub found_at : {A : Type 0} (xs : List A) (i : ℕ) → i < length xs → (x : A) × (slice_get xs i ≡ Some x)
found_at [] i lt = absurd (omega (arith, lt))
found_at (z ∷ zs) zero lt = (z, refl)
found_at (z ∷ zs) (suc i) lt = found_at zs i (omega (arith, lt))

-- ---- how many are picked
-- one if there is one
abbrev pub ones : {B : Type 0} → Option B → ℕ
ones None = 0
ones (Some b) = 1

length_option : {B : Type 0} (o : Option B) (ys : List B) → length (cons_option o ys) ≡ ones o + length ys
length_option None ys = omega arith
length_option (Some b) ys = omega arith

-- one more, or one fewer, if one is set
pub picked_set : {A B : Type 0} (f : A → Option B) (xs : List A) (i : ℕ) (x y : A) → slice_get xs i ≡ Some y
    → length (filter_map f (slice_set xs i x)) + ones (f y) ≡ length (filter_map f xs) + ones (f x)
picked_set f [] i x y e = cc e
picked_set f (z ∷ zs) zero x y e =
    let is : ones (f z) ≡ ones (f y) = (let one : z ≡ y = cc e in ap (λ a. ones (f a)) one) in
    let a = length_option (f x) (filter_map f zs) in
    let b = length_option (f z) (filter_map f zs) in
    omega (arith, is, a, b)
picked_set f (z ∷ zs) (suc i) x y e =
    let more = picked_set f zs i x y e in
    let a = length_option (f z) (filter_map f (slice_set zs i x)) in
    let b = length_option (f z) (filter_map f zs) in
    omega (arith, more, a, b)
