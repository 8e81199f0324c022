-- What literals give.
use Rattle.std.proofs.Common.{◌≡◌, ℕ, ◌+◌, ◌-◌, ◌*◌, zero, suc, List, [], ◌∷◌, ◌++◌, length, replicate, take, take_all}
use Rattle.std.proofs.Common.{refl, ap, sym, ◌∙◌, append_assoc, append-nil, arith, add-one, length-append}
use Rattle.std.proofs.Math.Nat.{suc-mul}
use Rattle.std.specs.List.{repeat}

-- a list so many times is so many times as long
pub length-repeat : {A : Type 0} (n : ℕ) (xs : List A) → length (repeat n xs) ≡ n * length xs
length-repeat zero xs = omega arith
length-repeat (suc n) xs = rw (length-append, length-repeat n xs, suc-mul) (omega arith)

-- nothing so many times is nothing
pub repeat_nothing : {A : Type 0} (n : ℕ) → repeat {A = A} n [] ≡ []
repeat_nothing zero = refl
repeat_nothing (suc n) = repeat_nothing n

repeat_end : {A : Type 0} (n : ℕ) (xs : List A) → repeat n xs ++ xs ≡ xs ++ repeat n xs
repeat_end zero xs = sym (append-nil xs)
repeat_end (suc n) xs = append_assoc xs (repeat n xs) xs ∙ ap (λ ys. xs ++ ys) (repeat_end n xs)

-- once more at the end
pub repeat_more : {A : Type 0} (n : ℕ) (xs : List A) → repeat (n + 1) xs ≡ repeat n xs ++ xs
repeat_more n xs = rw add-one (sym (repeat_end n xs))

-- one element so many times
replicated : {A : Type 0} (n : ℕ) (x : A) → replicate n x ≡ repeat n (x ∷ [])
replicated zero x = refl
replicated (suc n) x = ap (λ xs. x ∷ xs) (replicated n x)

-- a list that is filled up with one element
pub filled_up : {A : Type 0} (xs : List A) (n m : ℕ) (x : A) → m ≡ length xs → take (m + n) xs ++ replicate (m + n - m) x ≡ xs ++ repeat n (x ∷ [])
filled_up xs n m x long =
    let more : m + n - m ≡ n = omega arith in
    ap (λ ys. ys ++ replicate (m + n - m) x) (take_all (m + n) xs (omega (arith, long)))
    ∙ ap (λ k. xs ++ replicate k x) more ∙ ap (λ ys. xs ++ ys) (replicated n x)
