-- Words that are read byte by byte.
use Rattle.std.proofs.Common.{◌≡◌, ℕ, ◌+◌, ◌<◌, ◌==◌, Bool, zero, suc, List, [], ◌∷◌, false, length, take, drop, get_or, arith, add-one}
use Rattle.std.specs.List.{list_any}
use Rattle.xc_tokens.specs.Tokens.{is_blank, run_len}

-- a quote stands in front of the next blank
abbrev pub is_quoted : List ℕ → Bool
is_quoted bs = list_any (λ c. c == 34) (take (run_len bs) bs)

first_plain : (b : ℕ) (bs : List ℕ) → is_blank b ≡ false → (b == 34) ≡ false → is_quoted (b ∷ bs) ≡ is_quoted bs
first_plain b bs blank quote = grind (arith, blank, quote)

plain : (n : ℕ) (bs : List ℕ) → n < length bs → is_blank (get_or bs n 0) ≡ false → (get_or bs n 0 == 34) ≡ false →
    is_quoted (drop n bs) ≡ is_quoted (drop (suc n) bs)
plain n [] lt blank quote = absurd (omega arith)
plain zero (b ∷ bs) lt blank quote = first_plain b bs blank quote
plain (suc n) (b ∷ bs) lt blank quote = plain n bs (omega arith) blank quote

-- a byte that is no blank and no quote changes nothing
pub plain_byte : (n : ℕ) (bs : List ℕ) → n < length bs → is_blank (get_or bs n 0) ≡ false → (get_or bs n 0 == 34) ≡ false →
    is_quoted (drop n bs) ≡ is_quoted (drop (n + 1) bs)
plain_byte n bs lt blank quote = rw add-one (plain n bs lt blank quote)

first_step : (b : ℕ) (bs : List ℕ) → is_blank b ≡ false → run_len (b ∷ bs) ≡ suc (run_len bs)
first_step b bs blank = grind (arith, blank)

step : (n : ℕ) (bs : List ℕ) → n < length bs → is_blank (get_or bs n 0) ≡ false → run_len (drop n bs) ≡ suc (run_len (drop (suc n) bs))
step n [] lt blank = absurd (omega arith)
step zero (b ∷ bs) lt blank = first_step b bs blank
step (suc n) (b ∷ bs) lt blank = step n bs (omega arith) blank

-- a byte that is no blank is one of the run
pub run_byte : (n : ℕ) (bs : List ℕ) → n < length bs → is_blank (get_or bs n 0) ≡ false → run_len (drop n bs) ≡ suc (run_len (drop (n + 1) bs))
run_byte n bs lt blank = rw add-one (step n bs lt blank)
