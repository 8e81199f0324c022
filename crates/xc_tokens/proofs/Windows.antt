-- Runs in a front of a text that is seen through windows of two lengths.
use Rattle.std.proofs.Common.{◌≡◌, ℕ, ◌+◌, ◌-◌, ◌<◌, ◌≤◌, ◌||◌, zero, suc, Bool, true, false, not, cond, List, [], ◌∷◌, length, take, drop}
use Rattle.std.proofs.Common.{refl, sym, ap, subst, ◌∙◌, arith}
use Rattle.std.proofs.lemmas.List.{drop-take, take-take}
use Rattle.std.specs.List.{prefix_len, list_any}

short_first : (t : Bool) (a b n m : ℕ) → cond t (1 + a) 0 < suc n → cond t (1 + a) 0 < suc m → (a < n → a < m → b ≡ a) → cond t (1 + b) 0 ≡ cond t (1 + a) 0
short_first true a b n m few less others = ap (λ k. 1 + k) (others (omega (arith, few)) (omega (arith, less)))
short_first false a b n m few less others = refl

short_run : (p : ℕ → Bool) (n m : ℕ) (bs : List ℕ) → prefix_len p (take n bs) < n → prefix_len p (take n bs) < m →
    prefix_len p (take m bs) ≡ prefix_len p (take n bs)
short_run p zero m bs few less = absurd (omega (arith, few))
short_run p (suc n) zero bs few less = absurd (omega (arith, less))
short_run p (suc n) (suc m) [] few less = refl
short_run p (suc n) (suc m) (b ∷ bs) few less =
    short_first (p b) (prefix_len p (take n bs)) (prefix_len p (take m bs)) n m few less (λ f l. short_run p n m bs f l)

long_first : (t : Bool) (a b m : ℕ) → suc m ≤ cond t (1 + a) 0 → (m ≤ a → b ≡ m) → cond t (1 + b) 0 ≡ suc m
long_first true a b m all others = omega (arith, others (omega (arith, all)))
long_first false a b m all others = absurd (omega (arith, all))

long_run : (p : ℕ → Bool) (n m : ℕ) (bs : List ℕ) → m ≤ prefix_len p (take n bs) → prefix_len p (take m bs) ≡ m
long_run p n zero bs all = refl
long_run p zero (suc m) bs all = absurd (omega (arith, all))
long_run p (suc n) (suc m) [] all = absurd (omega (arith, all))
long_run p (suc n) (suc m) (b ∷ bs) all =
    long_first (p b) (prefix_len p (take n bs)) (prefix_len p (take m bs)) m all (λ rest. long_run p n m bs rest)

-- what a window shows from a place on
pub window : (at n : ℕ) (text : List ℕ) → at ≤ n → drop at (take n text) ≡ take (n - at) (drop at text)
window at n text le =
    let whole : n ≡ at + (n - at) = omega (arith, le) in
    ap (λ k. drop at (take k text)) whole ∙ drop-take at (n - at) text

-- a run that ends within both windows
pub run_within : (p : ℕ → Bool) (at n m : ℕ) (text : List ℕ) → at ≤ n → at ≤ m → at + prefix_len p (drop at (take n text)) < n →
    at + prefix_len p (drop at (take n text)) < m → prefix_len p (drop at (take m text)) ≡ prefix_len p (drop at (take n text))
run_within p at n m text in_n in_m few less =
    let first = ap (prefix_len p) (window at n text in_n) in
    let second = ap (prefix_len p) (window at m text in_m) in
    second ∙ short_run p (n - at) (m - at) (drop at text) (omega (arith, first, few)) (omega (arith, first, less)) ∙ sym first

-- one that goes on past the end of the second window
pub run_past : (p : ℕ → Bool) (at n m : ℕ) (text : List ℕ) → at ≤ n → at ≤ m → m ≤ at + prefix_len p (drop at (take n text)) →
    m ≡ at + prefix_len p (drop at (take m text))
run_past p at n m text in_n in_m all =
    let first = ap (prefix_len p) (window at n text in_n) in
    let second = ap (prefix_len p) (window at m text in_m) in
    omega (arith, second, in_m, long_run p (n - at) (m - at) (drop at text) (omega (arith, first, all)))

-- what both windows show is the same
pub shown : (n at m : ℕ) (text : List ℕ) → at + m ≤ n → take m (drop at (take n text)) ≡ take m (drop at text)
shown n at m text within =
    ap (take m) (window at n text (omega (arith, within))) ∙ take-take m (n - at) (drop at text) (omega (arith, within))

none_first : (p : ℕ → Bool) (t : Bool) (others : List ℕ) (a m : ℕ) → suc m ≤ cond (not t) (1 + a) 0 → (m ≤ a → list_any p others ≡ false) →
    t || list_any p others ≡ false
none_first p true others a m all rest = absurd (omega (arith, all))
none_first p false others a m all rest = rest (omega (arith, all))

none_in : (p : ℕ → Bool) (m : ℕ) (bs : List ℕ) → m ≤ prefix_len (λ b. not (p b)) bs → list_any p (take m bs) ≡ false
none_in p zero bs all = refl
none_in p (suc m) [] all = absurd (omega (arith, all))
none_in p (suc m) (b ∷ bs) all = none_first p (p b) (take m bs) (prefix_len (λ b. not (p b)) bs) m all (none_in p m bs)

later : (t : Bool) (at m a : ℕ) → suc at + m ≤ cond t (1 + a) 0 → at + m ≤ a
later true at m a all = omega (arith, all)
later false at m a all = absurd (omega (arith, all))

-- none passes before the first that does
pub none_before : (p : ℕ → Bool) (at m : ℕ) (bs : List ℕ) → at + m ≤ prefix_len (λ b. not (p b)) bs → list_any p (take m (drop at bs)) ≡ false
none_before p zero m bs all = none_in p m bs (omega (arith, all))
none_before p (suc at) zero [] all = refl
none_before p (suc at) (suc m) [] all = refl
none_before p (suc at) m (b ∷ bs) all = none_before p at m bs (later (not (p b)) at m (prefix_len (λ b. not (p b)) bs) all)

twice_first : (t : Bool) (a b : ℕ) → a ≡ b → cond (not (not t)) (1 + a) 0 ≡ cond t (1 + b) 0
twice_first true a b e = ap (λ k. 1 + k) e
twice_first false a b e = refl

-- a test that is turned twice
pub run_twice : (p : ℕ → Bool) (bs : List ℕ) → prefix_len (λ b. not (not (p b))) bs ≡ prefix_len p bs
run_twice p [] = refl
run_twice p (b ∷ bs) = twice_first (p b) (prefix_len (λ b. not (not (p b))) bs) (prefix_len p bs) (run_twice p bs)

next_first : (p : ℕ → Bool) (b : ℕ) (bs : List ℕ) (t : Bool) → p b ≡ t → cond t (1 + prefix_len p bs) 0 < suc (length bs) →
    (prefix_len p bs < length bs → 0 < prefix_len (λ b. not (p b)) (drop (prefix_len p bs) bs)) →
    0 < prefix_len (λ b. not (p b)) (drop (cond t (1 + prefix_len p bs) 0) (b ∷ bs))
next_first p b bs true is few others =
    let more : suc (prefix_len p bs) ≡ 1 + prefix_len p bs = omega arith in
    subst (λ n. 0 < prefix_len (λ b. not (p b)) (drop n (b ∷ bs))) more (others (omega (arith, few)))
next_first p b bs false is few others = rw is (omega arith)

-- where a run ends, one of the others begins
pub next_run : (p : ℕ → Bool) (bs : List ℕ) → prefix_len p bs < length bs → 0 < prefix_len (λ b. not (p b)) (drop (prefix_len p bs) bs)
next_run p [] few = absurd (omega (arith, few))
next_run p (b ∷ bs) few = next_first p b bs (p b) refl few (next_run p bs)
