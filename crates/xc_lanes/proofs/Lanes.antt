-- Bytes that are looked at several at once.
use Rattle.std.proofs.Common.{◌≡◌, ℕ, ◌+◌, ◌%◌, ◌^◌, ◌<◌, ◌≤◌, eqb, Bool, true, not, cond, List, [], ◌∷◌, map, length, take, drop, get_or, Fits, w8}
use Rattle.std.proofs.Common.{refl, sym, ap, ap₂, ◌∙◌, arith, rules}
use Rattle.std.proofs.lemmas.Bool.{agree_below, agree_below_at, eq-eqb, ne_eqb, cond-true, cond-false}
use Rattle.std.proofs.lemmas.Simd.{map-map, mask_l-mod, length-chunk, chunk-fits, first_set_mask_l}
use Rattle.std.proofs.lemmas.List.{length-map, take-append-drop}
use Rattle.std.proofs.lemmas.List.Folds.{prefix_len-append}
use Rattle.std.proofs.lemmas.List.Sums.{prefix_len-le-length}
use Rattle.std.specs.List.{prefix_len}
use lib.Count.{count_trailing_zeros}
use lib.Lanes.{Each1, chunk, mask_l, top}

-- two tests that agree on bytes have one run of bytes
same_run : (p q : ℕ → Bool) (xs : List ℕ) → Each1 (Fits w8) xs → agree_below p q 256 ≡ true → prefix_len p xs ≡ prefix_len q xs
same_run p q [] fit all = refl
same_run p q (x ∷ xs) fit all = ap₂ (λ t n. cond t (1 + n) 0) (agree_below_at p q 256 x all fit.0.fits) (same_run p q xs fit.1 all)

same_map : (p q : ℕ → Bool) (xs : List ℕ) → Each1 (Fits w8) xs → agree_below p q 256 ≡ true → map p xs ≡ map q xs
same_map p q [] fit all = refl
same_map p q (x ∷ xs) fit all = ap₂ (λ b bs. b ∷ bs) (agree_below_at p q 256 x all fit.0.fits) (same_map p q xs fit.1 all)

-- where f has the top bit set in a lane its bit of the mask is set
pub mask_of : (p : ℕ → Bool) (f : ℕ → ℕ) (bs z : List ℕ) → 16 ≤ length bs → ((k : ℕ) → Fits w8 (get_or bs k 0)) → z ≡ map f (chunk 0 16 bs) →
    agree_below (λ x. top 7 (f x)) p 256 ≡ true → mask_l (map (top 7) z) % 2 ^ 64 ≡ mask_l (map p (chunk 0 16 bs))
mask_of p f bs z room fits lanes all =
    let v = chunk 0 16 bs in
    let same = same_map (λ x. top 7 (f x)) p v (chunk-fits w8 0 16 bs fits) all in
    ap (λ l. mask_l l % 2 ^ 64) (ap (map (top 7)) lanes ∙ map-map (top 7) f v ∙ same)
    ∙ mask_l-mod (map p v) 64 (omega (arith, length-map v p, length-chunk 0 16 bs room))

-- where f has the top bit set in a lane the run ends: its length is the place of the first such lane
pub lane_run : (p : ℕ → Bool) (f : ℕ → ℕ) (bs z : List ℕ) → 16 ≤ length bs → ((k : ℕ) → Fits w8 (get_or bs k 0)) → z ≡ map f (chunk 0 16 bs) →
    agree_below (λ x. not (top 7 (f x))) p 256 ≡ true →
    cond (eqb (mask_l (map (top 7) z) % 2 ^ 64) 0) 16 (count_trailing_zeros 64 (mask_l (map (top 7) z) % 2 ^ 64)) ≡ prefix_len p (chunk 0 16 bs)
lane_run p f bs z room fits lanes all =
    let v = chunk 0 16 bs in
    let long = length-chunk 0 16 bs room in
    let stops = λ (x : ℕ). top 7 (f x) in
    let few = mask_l-mod (map stops v) 64 (omega (arith, length-map v stops, long)) in
    let mask = ap (λ l. mask_l l % 2 ^ 64) (ap (map (top 7)) lanes ∙ map-map (top 7) f v) ∙ few in
    ap (λ m. cond (eqb m 0) 16 (count_trailing_zeros 64 m)) mask
    ∙ first_set_mask_l stops v 16 long (omega arith)
    ∙ same_run (λ x. not (stops x)) p v (chunk-fits w8 0 16 bs fits) all

-- a run that ends among the first n bytes is all of it
pub run_ends : (p : ℕ → Bool) (n : ℕ) (xs : List ℕ) → n ≤ length xs → prefix_len p (take n xs) < n → prefix_len p (take n xs) ≡ prefix_len p xs
run_ends p n xs room short =
    let long : length (take n xs) ≡ n = search rules in
    let other : prefix_len p (take n xs) ≡ length (take n xs) → ⊥ = λ e. omega (arith, long) in
    sym (cond-false _ _ _ (ne_eqb _ _ other)) ∙ sym (prefix_len-append p (take n xs) (drop n xs)) ∙ ap (prefix_len p) (take-append-drop n xs)

-- and else it goes on after them
pub run_goes_on : (p : ℕ → Bool) (n : ℕ) (xs : List ℕ) → n ≤ length xs → n ≤ prefix_len p (take n xs) → n + prefix_len p (drop n xs) ≡ prefix_len p xs
run_goes_on p n xs room all =
    let long : length (take n xs) ≡ n = search rules in
    let is : prefix_len p (take n xs) ≡ length (take n xs) = omega (arith, long, prefix_len-le-length p (take n xs)) in
    ap (λ k. k + prefix_len p (drop n xs)) (sym long) ∙ sym (cond-true _ _ _ (eq-eqb _ _ is)) ∙ sym (prefix_len-append p (take n xs) (drop n xs))
    ∙ ap (prefix_len p) (take-append-drop n xs)
