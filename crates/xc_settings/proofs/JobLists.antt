-- Lists of job numbers, part by part.
use Rattle.std.proofs.Common.{◌≡◌, ℕ, ◌<◌, ◌≤◌, zero, suc, List, [], ◌∷◌, ◌++◌, length, get_or, map, Bor, Option, None, Some, refl, ap, sym, ◌∙◌, arith}
use Rattle.std.proofs.lemmas.Bool.Decides.{nat_tests}
use Rattle.std.proofs.lemmas.List.{map-append}
use Rattle.xc_settings.specs.Options.{number_in, numbers_in, number_in_front, comma_parts, job_numbers}

front_push : (o : Option ℕ) (rest more : Option (List ℕ)) (ns : List ℕ) (n : ℕ) → number_in_front o rest ≡ Some ns
    → ((ms : List ℕ) → rest ≡ Some ms → more ≡ Some (ms ++ n ∷ [])) → number_in_front o more ≡ Some (ns ++ n ∷ [])
front_push (Some m) (Some ms) more ns n e step = let last = step ms refl in cc
front_push (Some m) None more ns n e step = cc
front_push None rest more ns n e step = cc

-- one more part
pub numbers_in-push : (most : ℕ) (parts : List (List ℕ)) (part : List ℕ) (ns : List ℕ) (n : ℕ) → numbers_in most parts ≡ Some ns
    → number_in most part ≡ Some n → numbers_in most (parts ++ part ∷ []) ≡ Some (ns ++ n ∷ [])
numbers_in-push most [] part ns n read last = cc
numbers_in-push most (first ∷ parts) part ns n read last =
    front_push (number_in most first) _ _ ns n read (λ ms e. numbers_in-push most parts part ms n e last)

-- the same for parts that a text lends
pub numbers_in-more : (most : ℕ) (parts : List (Bor (List ℕ))) (part : Bor (List ℕ)) (ns more : List ℕ) (n : ℕ)
    → numbers_in most (map (λ lent. lent.now) parts) ≡ Some ns → number_in most part.now ≡ Some n → more ≡ ns ++ n ∷ []
    → numbers_in most (map (λ lent. lent.now) (parts ++ part ∷ [])) ≡ Some more
numbers_in-more most parts part ns more n read last is =
    let now : Bor (List ℕ) → List ℕ = λ lent. lent.now in
    ap (numbers_in most) (map-append now parts (part ∷ [])) ∙ numbers_in-push most (map now parts) part.now ns n read last ∙ ap Some (sym is)

no_rest : (o : Option ℕ) → number_in_front o None ≡ None
no_rest (Some n) = refl
no_rest None = refl

-- a part that is no number
pub numbers_in-refused : (most : ℕ) (parts : List (List ℕ)) (at : ℕ) (part : List ℕ) → at < length parts → part ≡ get_or parts at part
    → number_in most part ≡ None → numbers_in most parts ≡ None
numbers_in-refused most [] at part inside is bad = absurd (omega arith)
numbers_in-refused most (first ∷ parts) zero part inside is bad =
    ap (λ o. number_in_front o (numbers_in most parts)) (ap (number_in most) (sym is) ∙ bad)
numbers_in-refused most (first ∷ parts) (suc at) part inside is bad =
    ap (number_in_front (number_in most first)) (numbers_in-refused most parts at part (omega arith) is bad) ∙ no_rest (number_in most first)

-- a text with such a part is no list
pub job_numbers-refused : (text : List ℕ) → numbers_in 1000 (comma_parts text) ≡ None → job_numbers text ≡ None
job_numbers-refused text bad = grind (arith, nat_tests)

-- nor is one with too many parts
pub job_numbers-many : (text : List ℕ) → 10000 < length (comma_parts text) → job_numbers text ≡ None
job_numbers-many text many = grind (arith, nat_tests)

-- all parts are read
pub job_numbers-read : (text : List ℕ) (jobs : List ℕ) (parts : List (List ℕ)) → parts ≡ comma_parts text
    → numbers_in 1000 parts ≡ Some jobs → length (comma_parts text) ≤ 10000 → job_numbers text ≡ Some jobs
job_numbers-read text jobs parts all read few =
    let every : numbers_in 1000 (comma_parts text) ≡ Some jobs = ap (numbers_in 1000) (sym all) ∙ read in
    grind (arith, nat_tests)
