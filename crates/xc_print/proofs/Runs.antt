-- Bytes that stand for themselves between quotes, several at once.
use Rattle.std.proofs.Common.{◌≡◌, ◌++◌, ◌+◌, ℕ, suc, Bool, true, false, List, [], ◌∷◌}
use Rattle.std.proofs.Common.{take, drop, refl, ap, sym, ◌∙◌, length, arith, rules, append_assoc, append-nil, if◌then◌else◌}
use Rattle.std.specs.List.{prefix_len}
use Rattle.xc_print.specs.Bytes.{is_plain, escaped, escaped_byte}

-- a plain byte is printed as it is
plain_byte : (b : ℕ) → is_plain b ≡ true → escaped_byte b ≡ b ∷ []
plain_byte b e = search rules

-- how many bytes in front are plain
abbrev plain_run : List ℕ → ℕ
plain_run bs = prefix_len is_plain bs

-- plain bytes in front are printed as they are
plain_front : (bs : List ℕ) → escaped bs ≡ take (plain_run bs) bs ++ escaped (drop (plain_run bs) bs)
plain_front [] = refl
plain_front (b ∷ bs) = by_plain (is_plain b) refl (plain_front bs)
  where
    by_plain : (plain : Bool) → is_plain b ≡ plain → escaped bs ≡ take (plain_run bs) bs ++ escaped (drop (plain_run bs) bs)
        → escaped (b ∷ bs) ≡ take (if plain then 1 + plain_run bs else 0) (b ∷ bs) ++ escaped (drop (if plain then 1 + plain_run bs else 0) (b ∷ bs))
    by_plain true e rest =
        let one : suc (plain_run bs) ≡ 1 + plain_run bs = omega arith in
        ap (λ xs. xs ++ escaped bs) (plain_byte b e) ∙ ap (λ xs. b ∷ xs) rest
        ∙ ap (λ n. take n (b ∷ bs) ++ escaped (drop n (b ∷ bs))) one
    by_plain false e rest = refl

-- no bytes
none : (bs : List ℕ) → length bs ≡ 0 → bs ≡ []
none [] e = refl
none (b ∷ bs) e = absurd (omega (arith, e))

-- a run up to the end is all
pub last_run : (out bs : List ℕ) → length (drop (plain_run bs) bs) ≡ 0 → out ++ take (plain_run bs) bs ≡ out ++ escaped bs
last_run out bs end =
    ap (λ xs. out ++ xs)
    (sym (plain_front bs ∙ ap (λ xs. take (plain_run bs) bs ++ escaped xs) (none (drop (plain_run bs) bs) end) ∙ append-nil (take (plain_run bs) bs)))

-- a run, the byte after it, and what is further
pub next_run : (out bs : List ℕ) (b : ℕ) (further : List ℕ) → drop (plain_run bs) bs ≡ b ∷ further
    → out ++ take (plain_run bs) bs ++ escaped_byte b ++ escaped further ≡ out ++ escaped bs
next_run out bs b further split =
    ap (λ xs. xs ++ escaped further) (append_assoc out (take (plain_run bs) bs) (escaped_byte b))
    ∙ append_assoc out (take (plain_run bs) bs ++ escaped_byte b) (escaped further)
    ∙ ap (λ xs. out ++ xs) (append_assoc (take (plain_run bs) bs) (escaped_byte b) (escaped further)
    ∙ sym (plain_front bs ∙ ap (λ xs. take (plain_run bs) bs ++ escaped xs) split))
