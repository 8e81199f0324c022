-- Where a script is cut into lines.
use Rattle.std.proofs.Common.{◌≡◌, ℕ, ◌+◌, ◌<◌, Bool, true, false, zero, suc, List, [], ◌∷◌, length, take, drop, get_or, ◌==◌}
use Rattle.std.proofs.Common.{cond, if◌then◌else◌, refl, ap, sym, ◌∙◌, arith, add-one}
use Rattle.std.proofs.Common.{◌-◌, take_all, length-drop, subst}
use Rattle.std.proofs.lemmas.List.{drop_all}
use Rattle.std.specs.List.{list_all, prefix_len}
use Rattle.std.proofs.lemmas.List.Sums.{prefix_len_passes}
use Rattle.xc_tokens.specs.Lines.{lines_of, in_first, is_line_byte}

-- the first n bytes end no line
abbrev pub NoEnd : ℕ → List ℕ → Type 0
NoEnd n bs = (k : ℕ) → k < n → (get_or bs k 0 == 10) ≡ false

goes_on : (b : ℕ) (bs : List ℕ) → (b == 10) ≡ false → lines_of (b ∷ bs) ≡ in_first b (lines_of bs)
goes_on b bs e = ap (λ t. if t then [] ∷ lines_of bs else in_first b (lines_of bs)) e

ends : (b : ℕ) (bs : List ℕ) → (b == 10) ≡ true → lines_of (b ∷ bs) ≡ [] ∷ lines_of bs
ends b bs e = ap (λ t. if t then [] ∷ lines_of bs else in_first b (lines_of bs)) e

at_end : (n : ℕ) (bs : List ℕ) → n < length bs → NoEnd n bs → (get_or bs n 0 == 10) ≡ true →
    lines_of bs ≡ take n bs ∷ lines_of (drop (suc n) bs)
at_end n [] lt none e = absurd (omega arith)
at_end zero (b ∷ bs) lt none e = ends b bs e
at_end (suc n) (b ∷ bs) lt none e =
    goes_on b bs (none 0 (omega arith)) ∙ ap (in_first b) (at_end n bs (omega arith) (λ k lt. none (suc k) (omega arith)) e)

-- a line is cut at its LF
pub cut_at_end : (n : ℕ) (bs : List ℕ) → n < length bs → NoEnd n bs → (get_or bs n 0 == 10) ≡ true →
    lines_of bs ≡ take n bs ∷ lines_of (drop (n + 1) bs)
cut_at_end n bs lt none e = rw add-one (at_end n bs lt none e)

at_last : (n : ℕ) (bs : List ℕ) → suc n ≡ length bs → NoEnd (suc n) bs → lines_of bs ≡ take (suc n) bs ∷ lines_of (drop (suc (suc n)) bs)
at_last n [] is none = absurd (omega arith)
at_last zero (b ∷ []) is none = goes_on b [] (none 0 (omega arith))
at_last zero (b ∷ c ∷ bs) is none = absurd (omega arith)
at_last (suc n) (b ∷ bs) is none =
    goes_on b bs (none 0 (omega arith)) ∙ ap (in_first b) (at_last n bs (omega arith) (λ k lt. none (suc k) (omega arith)))

-- the last line may lack it
pub cut_at_last : (n : ℕ) (bs : List ℕ) → 0 < n → n ≡ length bs → NoEnd n bs → lines_of bs ≡ take n bs ∷ lines_of (drop (n + 1) bs)
cut_at_last zero bs some is none = absurd (omega arith)
cut_at_last (suc n) bs some is none = rw add-one (at_last n bs is none)

no_end_byte : (b : ℕ) → is_line_byte b ≡ true → (b == 10) ≡ false
no_end_byte b h = grind (arith, h)

-- bytes that may stand in a line end none
pub clean_front : (bs : List ℕ) → NoEnd (prefix_len is_line_byte bs) bs
clean_front bs k lt = no_end_byte (get_or bs k 0) (prefix_len_passes is_line_byte bs k 0 lt)

one_clean : (p : ℕ → Bool) (b : ℕ) (bs : List ℕ) (t : Bool) → p b ≡ t → list_all p (take (prefix_len p bs) bs) ≡ true
    → list_all p (take (cond t (1 + prefix_len p bs) 0) (b ∷ bs)) ≡ true
one_clean p b bs true is behind =
    let more : suc (prefix_len p bs) ≡ 1 + prefix_len p bs = omega arith in
    subst (λ n. list_all p (take n (b ∷ bs)) ≡ true) more (rw is behind)
one_clean p b bs false is behind = refl

-- and all of them may stand in a line
pub all_clean : (bs : List ℕ) → list_all is_line_byte (take (prefix_len is_line_byte bs) bs) ≡ true
all_clean [] = refl
all_clean (b ∷ bs) = one_clean is_line_byte b bs (is_line_byte b) refl (all_clean bs)

-- a clean line that its LF ends, and what stands after it
pub clean_at_end : (n : ℕ) (bs : List ℕ) → n < length bs → NoEnd n bs → (get_or bs n 0 == 10) ≡ true →
    lines_of bs ≡ take n bs ∷ lines_of (take (length bs - (n + 1)) (drop (n + 1) bs))
clean_at_end n bs lt none e =
    let behind = take_all (length bs - (n + 1)) (drop (n + 1) bs) (omega (arith, length-drop (n + 1) bs)) in
    cut_at_end n bs lt none e ∙ ap (λ r. take n bs ∷ lines_of r) (sym behind)

-- a clean line that lacks it
pub clean_at_last : (n : ℕ) (bs : List ℕ) → 0 < n → n ≡ length bs → NoEnd n bs → lines_of bs ≡ take n bs ∷ lines_of (take (length bs - n) (drop n bs))
clean_at_last n bs some is none =
    let behind = take_all (length bs - n) (drop n bs) (omega (arith, length-drop n bs)) in
    let nothing = drop_all (n + 1) bs (omega arith) ∙ sym (drop_all n bs (omega arith)) ∙ sym behind in
    cut_at_last n bs some is none ∙ ap (λ r. take n bs ∷ lines_of r) nothing
