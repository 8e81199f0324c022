-- The lines of a script.
use Rattle.std.proofs.Common.{◌≡◌, ℕ, suc, ◌+◌, ◌<◌, ◌==◌, Bool, true, false, List, [], ◌∷◌, drop, length, refl, ap, ◌∙◌, arith}
use Rattle.std.specs.Prelude.{not, if◌then◌else◌}
use Rattle.std.specs.List.{prefix_len}
use Rattle.xcalls_check.specs.Halves.{is_inner, is_divider, script_len_from}

-- a line that isn't the mark is one of the script
pub unmarked : (bs : List ℕ) → is_divider bs ≡ false → script_len_from true bs ≡ script_len_from false bs
unmarked [] lacks = refl
unmarked (b ∷ bs) lacks = ap (λ marked. if marked then 0 else suc (script_len_from (b == 10) bs)) lacks

-- what stands behind a line
pub past_line : (bs : List ℕ) (n : ℕ) → n ≡ prefix_len is_inner bs → n < length bs
    → suc n + script_len_from true (drop (suc n) bs) ≡ script_len_from false bs
past_line [] n is within = absurd (omega arith)
past_line (b ∷ bs) n is within = by_end (b == 10) refl n is within (λ k same less. past_line bs k same less)
  where
    by_end : (ends : Bool) → (b == 10) ≡ ends → (n : ℕ) → n ≡ (if not (b == 10) then 1 + prefix_len is_inner bs else 0) → n < suc (length bs)
        → ((k : ℕ) → k ≡ prefix_len is_inner bs → k < length bs
        → suc k + script_len_from true (drop (suc k) bs) ≡ script_len_from false bs)
        → suc n + script_len_from true (drop n bs) ≡ suc (script_len_from (b == 10) bs)
    by_end true e n is within further =
        let none : n ≡ 0 = is ∙ ap (λ t. if not t then 1 + prefix_len is_inner bs else 0) e in
        let one : 1 + script_len_from true bs ≡ suc (script_len_from true bs) = omega arith in
        rw (none, e) one
    by_end false e n is within further =
        let more : n ≡ suc (prefix_len is_inner bs) = is ∙ ap (λ t. if not t then 1 + prefix_len is_inner bs else 0) e ∙ omega arith in
        let behind = further (prefix_len is_inner bs) refl (omega (arith, more, within)) in
        rw (more, e) (omega (arith, behind))

-- a last line without its LF
pub last_line : (bs : List ℕ) → length bs ≡ prefix_len is_inner bs → script_len_from false bs ≡ length bs
last_line [] is = refl
last_line (b ∷ bs) is = by_end (b == 10) refl is (λ same. last_line bs same)
  where
    by_end : (ends : Bool) → (b == 10) ≡ ends → suc (length bs) ≡ (if not (b == 10) then 1 + prefix_len is_inner bs else 0)
        → (length bs ≡ prefix_len is_inner bs → script_len_from false bs ≡ length bs) → suc (script_len_from (b == 10) bs) ≡ suc (length bs)
    by_end true e is further = absurd (omega (arith, is ∙ ap (λ t. if not t then 1 + prefix_len is_inner bs else 0) e))
    by_end false e is further =
        let same = is ∙ ap (λ t. if not t then 1 + prefix_len is_inner bs else 0) e in
        rw e (ap suc (further (omega (arith, same))))
