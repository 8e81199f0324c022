-- The front of a list, and numbers in it.
use Rattle.std.proofs.Common.{◌≡◌, ℕ, zero, suc, ◌<◌, List, [], ◌∷◌, map, take, refl, arith}
use Rattle.std.specs.Prelude.{slice_get}
use Rattle.std.specs.declared.option.Option.TheVariants.{Some}

-- what stands in a front stands in the list
pub of_front : {A : Type 0} (n : ℕ) (xs : List A) (i : ℕ) (x : A) → slice_get (take n xs) i ≡ Some x → (i < n) × (slice_get xs i ≡ Some x)
of_front zero xs i x at = cc at
of_front (suc n) [] i x at = cc at
of_front (suc n) (y ∷ xs) zero x at = (omega arith, at)
of_front (suc n) (y ∷ xs) (suc i) x at = let behind = of_front n xs i x at in (omega (arith, behind.0), behind.1)

-- what stands before a place stands in the front that ends there
pub in_front : {A : Type 0} (n : ℕ) (xs : List A) (i : ℕ) (x : A) → i < n → slice_get xs i ≡ Some x → slice_get (take n xs) i ≡ Some x
in_front zero xs i x before at = absurd (omega (arith, before))
in_front (suc n) [] i x before at = cc at
in_front (suc n) (y ∷ xs) zero x before at = at
in_front (suc n) (y ∷ xs) (suc i) x before at = in_front n xs i x (omega (arith, before)) at

-- what stands in an image is the image of what stands there
pub of_image : {A B : Type 0} (f : A → B) (xs : List A) (i : ℕ) (y : B) → slice_get (map f xs) i ≡ Some y → (x : A) × (slice_get xs i ≡ Some x) × (f x ≡ y)
of_image f [] i y at = cc at
of_image f (x ∷ xs) zero y at = (x, refl, cc at)
of_image f (x ∷ xs) (suc i) y at = of_image f xs i y at
