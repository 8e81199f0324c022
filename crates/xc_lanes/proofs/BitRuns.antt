-- Bits of a mask from a place on.
use Rattle.std.proofs.Common.{◌≡◌, ℕ, ◌+◌, ◌*◌, ◌/◌, ◌^◌, ◌<◌, ◌≤◌, zero, suc, Bool, true, false, not, cond, List, [], ◌∷◌, map, length, drop}
use Rattle.std.proofs.Common.{sym, ap, subst, ◌∙◌, arith}
use Rattle.std.proofs.Math.Nat.{zero-div, pow-succ', div-div-eq-div-mul}
use Rattle.std.proofs.lemmas.List.{drop-map}
use Rattle.std.proofs.lemmas.Simd.{leading_from_mask_l, trailing_mask_l}
use Rattle.std.proofs.Common.{bit_or, w64, max, ◌-◌}
use Rattle.std.proofs.Math.Nat.{max-zero, le-max_left, le-max_right}
use Rattle.std.proofs.lemmas.Nat.{le_or_r, or_lt}
use Rattle.std.proofs.lemmas.Nat.Bits.{bit_at-trailing_zeros, bit_at_or, bit_at-pow_same, bit_at-pow_other}
use Rattle.std.proofs.lemmas.List.Sums.{prefix_len-le-length}
use Rattle.std.specs.Int.{trailing_zeros, bit_at}
use Rattle.std.specs.List.{prefix_len}
use lib.Lanes.{mask_l}

first_bit : (b : Bool) (n : ℕ) → (cond b 1 0 + 2 * n) / 2 ≡ n
first_bit true n = omega arith
first_bit false n = omega arith

one_less : (b : Bool) (n k : ℕ) → (cond b 1 0 + 2 * n) / 2 ^ suc k ≡ n / 2 ^ k
one_less b n k =
    ap (λ m. (cond b 1 0 + 2 * n) / m) (pow-succ' 2 k) ∙ sym (div-div-eq-div-mul (cond b 1 0 + 2 * n) 2 (2 ^ k))
    ∙ ap (λ m. m / 2 ^ k) (first_bit b n)

-- a mask that is shifted is the mask of what is left
mask_l-drop : (bits : List Bool) (k : ℕ) → mask_l bits / 2 ^ k ≡ mask_l (drop k bits)
mask_l-drop bits zero = omega arith
mask_l-drop [] (suc k) = zero-div (2 ^ suc k)
mask_l-drop (b ∷ bits) (suc k) = one_less b (mask_l bits) k ∙ mask_l-drop bits k

-- the same of a test's bits
pub shifted : (p : ℕ → Bool) (from mask : ℕ) (xs : List ℕ) → mask ≡ mask_l (map p xs) → mask / 2 ^ from ≡ mask_l (map p (drop from xs))
shifted p from mask xs is = ap (λ m. m / 2 ^ from) is ∙ mask_l-drop (map p xs) from ∙ ap mask_l (drop-map p from xs)

at_most : (a b : ℕ) → (b < a → ⊥) → a ≤ b
at_most zero b above = omega arith
at_most (suc a) zero above = absurd (above (omega arith))
at_most (suc a) (suc b) above = omega (arith, at_most a b (λ lt. above (omega (arith, lt))))

same_number : (a b : ℕ) → (a < b → ⊥) → (b < a → ⊥) → a ≡ b
same_number a b below above = omega (arith, at_most a b above, at_most b a below)

-- a bit above the lanes leaves the others
other_bit : (m i : ℕ) → (i ≡ 16 → ⊥) → bit_at (bit_or m 65536) i ≡ bit_at m i
other_bit m i other = bit_at_or m 65536 i ∙ ap (max (bit_at m i)) (bit_at-pow_other 16 i other) ∙ max-zero (bit_at m i)

-- so it is the lowest only where there is no other
lowest_stays : (m : ℕ) → 0 < m → m < 2 ^ 64 → trailing_zeros w64 m ≤ 16 → trailing_zeros w64 (bit_or m 65536) ≡ trailing_zeros w64 m
lowest_stays m some fits few =
    let n : ℕ = bit_or m 65536 in
    let low = bit_at-trailing_zeros w64 m some fits in
    let both = bit_at-trailing_zeros w64 n (omega (arith, le_or_r m 65536)) (or_lt 64 m 65536 fits (omega arith)) in
    let stays : bit_at m (trailing_zeros w64 m) ≤ bit_at n (trailing_zeros w64 m) =
    rw (bit_at_or m 65536 (trailing_zeros w64 m)) (le-max_left (bit_at m (trailing_zeros w64 m)) (bit_at 65536 (trailing_zeros w64 m))) in
    same_number (trailing_zeros w64 n) (trailing_zeros w64 m)
    (λ lt. omega (arith, both.1, other_bit m (trailing_zeros w64 n) (λ e. omega (arith, lt, few, e)), low.2 (trailing_zeros w64 n) lt))
    (λ lt. omega (arith, both.2 (trailing_zeros w64 m) lt, stays, low.1))

-- no bit stands higher
pub few_before : (m : ℕ) → m < 2 ^ 64 → trailing_zeros w64 (bit_or m 65536) ≤ 16
few_before m fits =
    let n : ℕ = bit_or m 65536 in
    let low = bit_at-trailing_zeros w64 n (omega (arith, le_or_r m 65536)) (or_lt 64 m 65536 fits (omega arith)) in
    let set : bit_at 65536 16 ≤ bit_at n 16 = rw (bit_at_or m 65536 16) (le-max_right (bit_at m 16) (bit_at 65536 16)) in
    at_most (trailing_zeros w64 n) 16 (λ lt. omega (arith, low.2 16 lt, set, bit_at-pow_same 16))

lowest_lane : (p : ℕ → Bool) (m : ℕ) (bs : List ℕ) → length bs ≤ 16 → m < 2 ^ 64 → m ≡ mask_l (map p bs) → 0 < m →
    trailing_zeros w64 (bit_or m 65536) ≡ prefix_len (λ b. not (p b)) bs
lowest_lane p m bs few fits is some =
    let low : trailing_zeros w64 m ≡ prefix_len (λ b. not (p b)) bs =
    ap (trailing_zeros w64) is ∙ trailing_mask_l p 64 bs (omega (arith, few)) (subst (λ k. 0 < k) is some) in
    lowest_stays m some fits (omega (arith, low, few, prefix_len-le-length (λ b. not (p b)) bs)) ∙ low

-- a place among the lanes is that of the lowest bit
pub lane_shown : (p : ℕ → Bool) (m : ℕ) (bs : List ℕ) → length bs ≤ 16 → m < 2 ^ 64 → m ≡ mask_l (map p bs) →
    trailing_zeros w64 (bit_or m 65536) < 16 → trailing_zeros w64 (bit_or m 65536) ≡ prefix_len (λ b. not (p b)) bs
lane_shown p zero bs few fits is inside =
    let low = bit_at-trailing_zeros w64 65536 (omega arith) (omega arith) in
    absurd (omega (arith, low.1, bit_at-pow_other 16 (trailing_zeros w64 65536) (λ e. omega (arith, e, inside))))
lane_shown p (suc m) bs few fits is inside = lowest_lane p (suc m) bs few fits is (omega arith)

-- and all lanes come before one that is none of theirs
pub lanes_past : (p : ℕ → Bool) (m from : ℕ) (bs : List ℕ) → length bs ≡ 16 - from → m < 2 ^ 64 → m ≡ mask_l (map p bs) →
    16 ≤ from + trailing_zeros w64 (bit_or m 65536) → 16 ≤ from + prefix_len (λ b. not (p b)) bs
lanes_past p zero from bs long fits is past = omega (arith, leading_from_mask_l p bs (sym is), long)
lanes_past p (suc m) from bs long fits is past = omega (arith, lowest_lane p (suc m) bs (omega (arith, long)) fits is (omega arith), past)

-- what comes before a place comes before what it tells of
pub reaches : (n place told : ℕ) → (place < 16 → place ≡ told) → (16 ≤ place → 16 ≤ told) → n ≤ place → n ≤ 16 → n ≤ told
reaches n place told shown past before few =
    at_most n told (λ lt. omega (arith, lt, few, past (at_most 16 place (λ within. omega (arith, lt, before, shown within)))))
