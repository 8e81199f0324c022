-- Literals that are read piece by piece.
use Rattle.std.proofs.Common.{◌≡◌, ℕ, zero, suc, ◌+◌, ◌-◌, ◌<◌, Bool, true, false, cond, List, [], ◌∷◌, ◌++◌, Option, Some, None}
use Rattle.std.proofs.Common.{length, take, drop, get_or, take_all, append_assoc, add-one, arith, refl, ap, sym, ◌∙◌}
use Rattle.std.specs.List.{prefix_len}
use Rattle.std.specs.Prelude.{option_map, is_some, IsTrue}
use Rattle.xc_tokens.specs.Quoted.{is_itself, then_rest, literal_of, meant_in, measured}

-- what the rest of a literal means, after what it meant so far
abbrev pub behind_bytes : List ℕ → Option (List ℕ × List ℕ) → Option (List ℕ × List ℕ)
behind_bytes meant (Some (rest, behind)) = Some (meant ++ rest, behind)
behind_bytes meant None = None

behind_one_more : (meant : List ℕ) (b : ℕ) (rest : Option (List ℕ × List ℕ)) → behind_bytes (meant ++ b ∷ []) rest ≡ behind_bytes meant (then_rest b rest)
behind_one_more meant b (Some (rest, behind)) = ap (λ bs. Some (bs, behind)) (append_assoc meant (b ∷ []) rest)
behind_one_more meant b None = refl

-- bytes are their first one and the others
pub first_and_rest : (bs : List ℕ) → 0 < length bs → get_or bs 0 0 ∷ take (length bs - 1) (drop 1 bs) ≡ bs
first_and_rest [] some = absurd (omega arith)
first_and_rest (b ∷ bs) some = ap (λ cs. b ∷ cs) (take_all (length (b ∷ bs) - 1) bs (omega arith))

-- a piece more of a literal
pub read_on : (meant : List ℕ) (b : ℕ) (rest next : List ℕ) (all : Option (List ℕ × List ℕ)) → behind_bytes meant (literal_of rest) ≡ all →
    then_rest b (literal_of next) ≡ literal_of rest → behind_bytes (meant ++ b ∷ []) (literal_of next) ≡ all
read_on meant b rest next all e piece = behind_one_more meant b (literal_of next) ∙ ap (behind_bytes meant) piece ∙ e

-- a literal after so many bytes: how many it means in all, and what stands after it
abbrev pub counted_literal : ℕ → Option (List ℕ × List ℕ) → Option (ℕ × List ℕ)
counted_literal n (Some p) = Some (n + length p.0, p.1)
counted_literal n None = None

one_counted : (n b : ℕ) (read : Option (List ℕ × List ℕ)) → counted_literal (n + 1) read ≡ counted_literal n (then_rest b read)
one_counted n b (Some (rest, behind)) = ap (λ m. Some (m, behind)) (omega arith)
one_counted n b None = refl

-- a piece more is one byte more
pub count_on : (n b : ℕ) (rest next : List ℕ) (all : Option (ℕ × List ℕ)) → counted_literal n (literal_of rest) ≡ all →
    then_rest b (literal_of next) ≡ literal_of rest → counted_literal (n + 1) (literal_of next) ≡ all
count_on n b rest next all e piece = one_counted n b (literal_of next) ∙ ap (counted_literal n) piece ∙ e

closed_first : (b : ℕ) (bs : List ℕ) → b ≡ 34 → literal_of (b ∷ bs) ≡ Some ([], bs)
closed_first b bs quote = grind (arith, quote)

itself_first : (b : ℕ) (bs : List ℕ) → is_itself b ≡ true → literal_of (b ∷ bs) ≡ then_rest b (literal_of bs)
itself_first b bs e = grind (arith, e)

goes_on : (b : ℕ) (bs : List ℕ) (n : ℕ) (t : Bool) → is_itself b ≡ t → suc n ≡ prefix_len is_itself (b ∷ bs) →
    (n ≡ prefix_len is_itself bs → literal_of bs ≡ Some (take n bs, drop (suc n) bs)) →
    literal_of (b ∷ bs) ≡ Some (take (suc n) (b ∷ bs), drop (suc (suc n)) (b ∷ bs))
goes_on b bs n true e is others =
    let next : suc n ≡ 1 + prefix_len is_itself bs = is ∙ ap (λ t. cond t (1 + prefix_len is_itself bs) 0) e in
    itself_first b bs e ∙ ap (then_rest b) (others (omega (arith, next)))
goes_on b bs n false e is others =
    let none : suc n ≡ 0 = is ∙ ap (λ t. cond t (1 + prefix_len is_itself bs) 0) e in
    absurd (omega (arith, none))

closed : (bs : List ℕ) (n : ℕ) → n ≡ prefix_len is_itself bs → n < length bs → get_or bs n 0 ≡ 34 → literal_of bs ≡ Some (take n bs, drop (suc n) bs)
closed [] n is within quote = absurd (omega arith)
closed (b ∷ bs) zero is within quote = closed_first b bs quote
closed (b ∷ bs) (suc n) is within quote =
    goes_on b bs n (is_itself b) refl is (λ next. closed bs n next (omega arith) quote)

-- bytes that mean themselves up to a quote are a literal
pub quote_closes : (bs : List ℕ) (n : ℕ) → n ≡ prefix_len is_itself bs → n < length bs → get_or bs n 0 ≡ 34 →
    literal_of bs ≡ Some (take n bs, drop (n + 1) bs)
quote_closes bs n is within quote = rw add-one (closed bs n is within quote)

same_measure : (p q : ℕ × List ℕ) → ◌≡◌ {A = Option (ℕ × List ℕ)} (Some p) (Some q) → p ≡ q
same_measure p q e = cc

-- what stands after a measured literal
pub measured_behind : (read : Option (List ℕ × List ℕ)) (n : ℕ) (behind : List ℕ) → Some (n, behind) ≡ measured read → read ≡ Some (meant_in read, behind)
measured_behind (Some p) n behind e =
    let same : behind ≡ p.1 = ap (λ (q : ℕ × List ℕ). q.1) (same_measure (n, behind) (length p.0, p.1) e) in
    ap (λ bs. Some (p.0, bs)) (sym same)
measured_behind None n behind e = cc

-- how many bytes it means
pub measured_len : (read : Option (List ℕ × List ℕ)) (n : ℕ) (behind : List ℕ) → Some (n, behind) ≡ measured read → n ≡ length (meant_in read)
measured_len (Some p) n behind e = ap (λ (q : ℕ × List ℕ). q.0) (same_measure (n, behind) (length p.0, p.1) e)
measured_len None n behind e = cc

-- it is one
pub measured_some : (read : Option (List ℕ × List ℕ)) (n : ℕ) (behind : List ℕ) → Some (n, behind) ≡ measured read → IsTrue (is_some read)
measured_some (Some p) n behind e = refl
measured_some None n behind e = cc

-- what has no measure is none
pub unmeasured : (read : Option (List ℕ × List ℕ)) → None ≡ measured read → read ≡ None
unmeasured (Some p) e = cc
unmeasured None e = refl

-- the bytes of a literal are what it means
pub meant_all : (read : Option (List ℕ × List ℕ)) (all : List ℕ) → Some all ≡ option_map (λ (p : List ℕ × List ℕ). p.0) read → all ≡ meant_in read
meant_all (Some p) all e = cc
meant_all None all e = cc

-- a literal has some
pub means_some : (read : Option (List ℕ × List ℕ)) → None ≡ option_map (λ (p : List ℕ × List ℕ). p.0) read → IsTrue (is_some read) → ⊥
means_some (Some p) e some = cc
means_some None e some = cc
