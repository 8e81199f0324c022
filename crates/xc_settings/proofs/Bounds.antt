-- What is chosen keeps the bounds of the options.
use Rattle.std.proofs.Common.{◌≡◌, ℕ, ◌≤◌, ◌==◌, suc, nat_le, leb-true, Bool, true, false, if◌then◌else◌, refl, ap, sym, subst, arith}
use Rattle.std.proofs.Common.{List, [], ◌∷◌, length, Option, None, Some}
use Rattle.std.specs.Prelude.{All, IfSome}
use Rattle.std.specs.Option.{option_and_then, option_map}
use Rattle.std.proofs.lemmas.Bool.Decides.{nat_tests}
use Rattle.std.proofs.lemmas.List.Elements.{All-nil, All-cons}
use Rattle.std.proofs.lemmas.List.Splits.{length-slice_split}
use Rattle.xc_tokens.specs.Numbers.{number_of}
use Rattle.xc_settings.specs.Options.{within, number_in, number_in_front, numbers_in, comma_parts, job_numbers, schedule_in, IsUpTo, AreJobs}

-- a number that counts is within its bounds
within-bounds : (most n m : ℕ) → within most n ≡ Some m → IsUpTo most m
within-bounds most n m e = grind (arith, nat_tests)

number-bounds : (most : ℕ) (o : Option ℕ) (n : ℕ) → option_and_then (within most) o ≡ Some n → IsUpTo most n
number-bounds most (Some m) n e = within-bounds most m n e
number-bounds most None n e = cc

-- numbers within their bounds, one for each word
abbrev AreUpTo : ℕ → List (List ℕ) → List ℕ → Type 0
AreUpTo most words ns = All (IsUpTo most) ns × (length ns ≡ length words)

front-bounds : (most : ℕ) (words : List (List ℕ)) (word : List ℕ) (o : Option ℕ) (rest : Option (List ℕ)) (ns : List ℕ)
    → ((n : ℕ) → o ≡ Some n → IsUpTo most n) → ((ms : List ℕ) → rest ≡ Some ms → AreUpTo most words ms) → number_in_front o rest ≡ Some ns → AreUpTo most
    (word ∷ words) ns
front-bounds most words word (Some n) (Some ms) ns first others e =
    let same : n ∷ ms ≡ ns = cc in
    let rest = others ms refl in
    subst (AreUpTo most (word ∷ words)) same (All-cons (IsUpTo most) n ms (first n refl) rest.0, ap suc rest.1)
front-bounds most words word (Some n) None ns first others e = absurd (cc)
front-bounds most words word None rest ns first others e = absurd (cc)

numbers-bounds : (most : ℕ) (words : List (List ℕ)) (ns : List ℕ) → numbers_in most words ≡ Some ns → AreUpTo most words ns
numbers-bounds most [] ns e = let same : [] ≡ ns = cc in subst (AreUpTo most []) same (All-nil (IsUpTo most), refl)
numbers-bounds most (word ∷ words) ns e =
    front-bounds most words word (number_in most word) (numbers_in most words) ns (number-bounds most (number_of word)) (numbers-bounds most words) e

parts-bounds : (text : List ℕ) (jobs : List ℕ) (t : Bool) → t ≡ nat_le (length (comma_parts text)) 10000
    → (if t then numbers_in 1000 (comma_parts text) else None) ≡ Some jobs → AreJobs jobs
parts-bounds text jobs true few e =
    let read = numbers-bounds 1000 (comma_parts text) jobs e in
    let some = length-slice_split (λ b. b == 44) text in
    let most : length (comma_parts text) ≤ 10000 = leb-true _ _ (sym few) in
    record { count = (omega (arith, read.1, some), omega (arith, read.1, most)); each = read.0 }
parts-bounds text jobs false few e = absurd (cc)

-- a list of jobs has jobs
job_numbers-bounds : (text : List ℕ) (jobs : List ℕ) → job_numbers text ≡ Some jobs → AreJobs jobs
job_numbers-bounds text jobs e = parts-bounds text jobs _ refl e

listed-bounds : (o : Option (List ℕ)) (schedule : Option (List ℕ)) → ((jobs : List ℕ) → o ≡ Some jobs → AreJobs jobs)
    → option_map Some o ≡ Some schedule → IfSome schedule AreJobs
listed-bounds (Some jobs) schedule each e = let same : Some jobs ≡ schedule = cc in subst (λ o. IfSome o AreJobs) same (each jobs refl)
listed-bounds None schedule each e = absurd (cc)

-- and so does the schedule, where there is one
pub schedule_in-bounds : (text : Option (List ℕ)) (schedule : Option (List ℕ)) → schedule_in text ≡ Some schedule → IfSome schedule AreJobs
schedule_in-bounds None schedule e = let same : None ≡ schedule = cc in subst (λ o. IfSome o AreJobs) same tt
schedule_in-bounds (Some text) schedule e = listed-bounds (job_numbers text) schedule (job_numbers-bounds text) e
