-- The numbers and the begins of entries and active transactions, where one of them begins or enters.
use Rattle.std.proofs.Common.{◌≡◌, ◌⊎◌, inl, inr, ℕ, ◌+◌, ◌<◌, ◌≤◌, List, [], ◌∷◌, ◌++◌, length, map, zero, suc, refl, ap, sym, ◌∙◌, subst, arith, append_assoc}
use Rattle.std.specs.Prelude.{Contains, IsPermutation, Option, slice_get, slice_set}
use Rattle.std.specs.declared.option.Option.TheVariants.{None, Some}
use Rattle.std.specs.List.{cons_option}
use Rattle.std.specs.Option.{option_map}
use Rattle.std.proofs.lemmas.List.Sorted.{IsPermutation-append_right, IsPermutation-middle, IsPermutation-sym, IsPermutation-trans, IsPermutation-cons}
use Rattle.std.proofs.lemmas.List.{map-append}
use Rattle.std.proofs.lemmas.List.Elements.{Contains-append_right}
use Rattle.std.proofs.lemmas.List.Sorted.{IsPermutation-map}
use Rattle.std.proofs.lemmas.List.Sorted.{IsPermutation-to_front, length_permutation, Contains-permutation}
use Rattle.std.proofs.Math.ListN.{length-map, length-append}
use Rattle.xc_data.specs.declared.entry.Entry.{Entry}
use Rattle.xc_model.specs.Machine.{counting}
use Rattle.xc_model.specs.Moment.{TxView, JobView, active_of, actives}
use Rattle.xc_model.specs.Stories.{AreBegins, entry_begin, active_begin, begins_of}
use Rattle.xc_model.specs.Movers.{IsActiveAt}
use Rattle.xc_turns.proofs.Lists.{around, contains_cons, contains_map}
use Rattle.xc_turns.proofs.Jobs.{active_listed}

-- the numbers from one on, and one more
counting_more : (from n : ℕ) → counting from (suc n) ≡ counting from n ++ (from + n) ∷ []
counting_more from zero = let e : from ≡ from + 0 = omega arith in ap (λ k. k ∷ []) e
counting_more from (suc n) =
    let e : from + 1 + n ≡ from + suc n = omega arith in
    ap (λ ks. from ∷ ks) (counting_more (from + 1) n ∙ ap (λ k. counting (from + 1) n ++ k ∷ []) e)

-- each of them is below the next
counting_below : (from n k : ℕ) → Contains (counting from n) k → k < from + n
counting_below from zero k (i, lt, e) = absurd (omega arith)
counting_below from (suc n) k (zero, lt, e) = omega arith
counting_below from (suc n) k (suc i, lt, e) = let below = counting_below (from + 1) n k (i, omega arith, e) in omega arith

-- each number is one of those from one on
pub number_below : (journal : List Entry) (begins : List (ℕ × ℕ)) → AreBegins journal begins → (a : ℕ × ℕ) → Contains begins a → a.0 < 1 + length begins
number_below journal begins are a in_it =
    counting_below 1 (length begins) a.0
    (Contains-permutation (map (λ (b : ℕ × ℕ). b.0) begins) (counting 1 (length begins)) a.0 are.numbers (contains_map (λ (b : ℕ × ℕ). b.0) begins a in_it))

-- the same begins in another order, after no fewer entries
pub begins_moved : (journal more : List Entry) (begins moved : List (ℕ × ℕ)) → IsPermutation begins moved → length journal ≤ length more
    → AreBegins journal begins → AreBegins more moved
begins_moved journal more begins moved same longer are =
    let back = IsPermutation-sym begins moved same in
    let firsts = IsPermutation-map (λ (b : ℕ × ℕ). b.0) moved begins back in
    record {
      numbers = subst (λ n. IsPermutation (map (λ (b : ℕ × ℕ). b.0) moved) (counting 1 n)) (sym (length_permutation begins moved same))
          (IsPermutation-trans (map (λ (b : ℕ × ℕ). b.0) moved) (map (λ (b : ℕ × ℕ). b.0) begins) (counting 1 (length begins)) firsts are.numbers);
      order = λ a b in_a in_b lt.
          are.order a b (Contains-permutation moved begins a back in_a) (Contains-permutation moved begins b back in_b) lt;
      by_now = λ a in_a. let now = are.by_now a (Contains-permutation moved begins a back in_a) in omega arith;
    }

-- the next number begins now
begins_numbers : (begins : List (ℕ × ℕ)) (number began : ℕ) → number ≡ length begins + 1
    → IsPermutation (map (λ (b : ℕ × ℕ). b.0) begins) (counting 1 (length begins))
    → IsPermutation (map (λ (b : ℕ × ℕ). b.0) ((number, began) ∷ begins)) (counting 1 (suc (length begins)))
begins_numbers begins number began next are =
    let n = length begins in
    let firsts = map (λ (b : ℕ × ℕ). b.0) begins in
    let last : number ≡ 1 + n = omega arith in
    subst (λ ks. IsPermutation (number ∷ firsts) ks) (sym (counting_more 1 n))
    (subst (λ k. IsPermutation (number ∷ firsts) (counting 1 n ++ k ∷ [])) last
    (IsPermutation-trans (number ∷ firsts) (number ∷ counting 1 n) (counting 1 n ++ number ∷ []) (IsPermutation-cons number firsts (counting 1 n) are)
    (IsPermutation-sym (counting 1 n ++ number ∷ []) (number ∷ counting 1 n) (IsPermutation-to_front (counting 1 n) number))))

begins_order : (journal : List Entry) (begins : List (ℕ × ℕ)) (number began : ℕ) → number ≡ length begins + 1 → began ≡ length journal
    → AreBegins journal begins → (a b : ℕ × ℕ)
    → ((number, began) ≡ a) ⊎ Contains begins a → ((number, began) ≡ b) ⊎ Contains begins b → a.0 < b.0 → a.1 ≤ b.1
begins_order journal begins number began next now are a b (inl p) (inl q) lt =
    let same : a.1 ≡ b.1 = ap (λ (x : ℕ × ℕ). x.1) (sym p ∙ q) in omega arith
begins_order journal begins number began next now are a b (inl p) (inr q) lt =
    let first : number ≡ a.0 = ap (λ (x : ℕ × ℕ). x.0) p in
    let below = number_below journal begins are b q in absurd (omega arith)
begins_order journal begins number began next now are a b (inr p) (inl q) lt =
    let by = are.by_now a p in
    let here : began ≡ b.1 = ap (λ (x : ℕ × ℕ). x.1) q in omega arith
begins_order journal begins number began next now are a b (inr p) (inr q) lt = are.order a b p q lt

begins_by_now : (journal : List Entry) (begins : List (ℕ × ℕ)) (number began : ℕ) → began ≡ length journal → AreBegins journal begins → (a : ℕ × ℕ)
    → ((number, began) ≡ a) ⊎ Contains begins a → a.1 ≤ length journal
begins_by_now journal begins number began now are a (inl p) = let here : began ≡ a.1 = ap (λ (x : ℕ × ℕ). x.1) p in omega arith
begins_by_now journal begins number began now are a (inr p) = are.by_now a p

-- one more begins
pub begins_with : (journal : List Entry) (begins : List (ℕ × ℕ)) (number began : ℕ) → number ≡ length begins + 1 → began ≡ length journal
    → AreBegins journal begins → AreBegins journal ((number, began) ∷ begins)
begins_with journal begins number began next now are =
    record {
      numbers = begins_numbers begins number began next are.numbers;
      order = λ a b in_a in_b lt. begins_order journal begins number began next now are a b (contains_cons (number, began) begins a in_a)
          (contains_cons (number, began) begins b in_b) lt;
      by_now = λ a in_a. begins_by_now journal begins number began now are a (contains_cons (number, began) begins a in_a);
    }

-- an active transaction's begin is among them
pub active_begun : (journal : List Entry) (jobs : List JobView) (j : ℕ) (tx : TxView) → IsActiveAt jobs j tx
    → Contains (begins_of journal jobs) (active_begin tx)
active_begun journal jobs j tx active =
    Contains-append_right (map entry_begin journal) (map active_begin (actives jobs)) (active_begin tx)
    (contains_map active_begin (actives jobs) tx (active_listed jobs j tx active))

-- ---- by what stands in one job's place
abbrev begin_in : Option TxView → Option (ℕ × ℕ)
begin_in o = option_map active_begin o

map_option : (o : Option TxView) (back : List TxView) → map active_begin (cons_option o back) ≡ cons_option (begin_in o) (map active_begin back)
map_option None back = refl
map_option (Some tx) back = refl

-- the begins around one place
begins_at : (front back : List TxView) (o : Option TxView)
    → map active_begin (front ++ cons_option o back) ≡ map active_begin front ++ cons_option (begin_in o) (map active_begin back)
begins_at front back o = map-append active_begin front (cons_option o back) ∙ ap (λ ys. map active_begin front ++ ys) (map_option o back)

-- a job that has the same number and begin as before changes none
pub begins_stay : (jobs : List JobView) (at : ℕ) (job next : JobView) → slice_get jobs at ≡ Some job → begin_in (active_of next) ≡ begin_in (active_of job)
    → map active_begin (actives (slice_set jobs at next)) ≡ map active_begin (actives jobs)
begins_stay jobs at job next stands same =
    let here = around active_of jobs at job stands in
    ap (map active_begin) (here.is next) ∙ begins_at here.front here.back (active_of next)
    ∙ ap (λ b. map active_begin here.front ++ cons_option b (map active_begin here.back)) same ∙ sym (begins_at here.front here.back (active_of job))
    ∙ ap (map active_begin) (sym here.was)

-- as many are active
pub count_stays : (jobs jobs' : List JobView) → map active_begin (actives jobs') ≡ map active_begin (actives jobs)
    → length (actives jobs') ≡ length (actives jobs)
count_stays jobs jobs' same = sym (length-map (actives jobs') active_begin) ∙ ap length same ∙ length-map (actives jobs) active_begin

-- so many have begun
pub begins_count : (journal : List Entry) (jobs : List JobView) → length (begins_of journal jobs) ≡ length journal + length (actives jobs)
begins_count journal jobs =
    length-append (map entry_begin journal) (map active_begin (actives jobs))
    ∙ (let a = length-map journal entry_begin in let b = length-map (actives jobs) active_begin in let e : length (map entry_begin journal)
    + length (map active_begin (actives jobs)) ≡ length journal + length (actives jobs) = omega arith in e)

-- ---- one begins, and one enters
to_front : {A : Type 0} → (es fs bs : List A) (b : A) → IsPermutation (b ∷ (es ++ (fs ++ bs))) (es ++ (fs ++ b ∷ bs))
to_front es fs bs b =
    let middle : IsPermutation ((es ++ fs) ++ b ∷ bs) (b ∷ ((es ++ fs) ++ bs)) = IsPermutation-middle (es ++ fs) b bs in
    let there = subst (λ xs. IsPermutation xs (b ∷ ((es ++ fs) ++ bs))) (append_assoc es fs (b ∷ bs)) middle in
    let both = subst (λ xs. IsPermutation (es ++ (fs ++ b ∷ bs)) (b ∷ xs)) (append_assoc es fs bs) there in
    IsPermutation-sym (es ++ (fs ++ b ∷ bs)) (b ∷ (es ++ (fs ++ bs))) both

to_end : {A : Type 0} → (es fs bs : List A) (b : A) → IsPermutation (es ++ (fs ++ b ∷ bs)) ((es ++ b ∷ []) ++ (fs ++ bs))
to_end es fs bs b =
    subst (λ xs. IsPermutation (es ++ (fs ++ b ∷ bs)) xs) (sym (append_assoc es (b ∷ []) (fs ++ bs)))
    (IsPermutation-append_right es (fs ++ b ∷ bs) (b ∷ (fs ++ bs)) (IsPermutation-middle fs b bs))

-- an active transaction comes into a place that had none
pub begins_begun : (journal : List Entry) (jobs : List JobView) (at : ℕ) (job next : JobView) (tx : TxView) → slice_get jobs at ≡ Some job
    → active_of job ≡ None → active_of next ≡ Some tx
    → IsPermutation (active_begin tx ∷ begins_of journal jobs) (begins_of journal (slice_set jobs at next))
begins_begun journal jobs at job next tx stands none some =
    let here = around active_of jobs at job stands in
    let es = map entry_begin journal in
    let fs = map active_begin here.front in
    let bs = map active_begin here.back in
    let was : map active_begin (actives jobs) ≡ fs ++ bs = ap (map active_begin) here.was ∙ begins_at here.front here.back (active_of job)
    ∙ ap (λ o. fs ++ cons_option (begin_in o) bs) none in
    let is : map active_begin (actives (slice_set jobs at next)) ≡ fs ++ active_begin tx ∷ bs = ap (map active_begin) (here.is next)
    ∙ begins_at here.front here.back (active_of next) ∙ ap (λ o. fs ++ cons_option (begin_in o) bs) some in
    subst (λ xs. IsPermutation (active_begin tx ∷ (es ++ xs)) (begins_of journal (slice_set jobs at next))) (sym was)
    (subst (λ xs. IsPermutation (active_begin tx ∷ (es ++ (fs ++ bs))) (es ++ xs)) (sym is) (to_front es fs bs (active_begin tx)))

-- one goes out of its place, and its entry comes after the journal
pub begins_entered : (journal : List Entry) (jobs : List JobView) (at : ℕ) (job next : JobView) (tx : TxView) (e : Entry) → slice_get jobs at ≡ Some job
    → active_of job ≡ Some tx → active_of next ≡ None → entry_begin e ≡ active_begin tx
    → IsPermutation (begins_of journal jobs) (begins_of (journal ++ e ∷ []) (slice_set jobs at next))
begins_entered journal jobs at job next tx e stands some none same =
    let here = around active_of jobs at job stands in
    let es = map entry_begin journal in
    let fs = map active_begin here.front in
    let bs = map active_begin here.back in
    let was : map active_begin (actives jobs) ≡ fs ++ active_begin tx ∷ bs = ap (map active_begin) here.was ∙ begins_at here.front here.back (active_of job)
    ∙ ap (λ o. fs ++ cons_option (begin_in o) bs) some in
    let is : map active_begin (actives (slice_set jobs at next)) ≡ fs ++ bs = ap (map active_begin) (here.is next)
    ∙ begins_at here.front here.back (active_of next) ∙ ap (λ o. fs ++ cons_option (begin_in o) bs) none in
    let entries : map entry_begin (journal ++ e ∷ []) ≡ es ++ active_begin tx ∷ [] = map-append entry_begin journal (e ∷ [])
    ∙ ap (λ b. es ++ b ∷ []) same in
    subst (λ xs. IsPermutation (es ++ xs) (begins_of (journal ++ e ∷ []) (slice_set jobs at next))) (sym was)
    (subst (λ xs. IsPermutation (es ++ (fs ++ active_begin tx ∷ bs)) (map entry_begin (journal ++ e ∷ []) ++ xs)) (sym is)
    (subst (λ xs. IsPermutation (es ++ (fs ++ active_begin tx ∷ bs)) (xs ++ (fs ++ bs))) (sym entries) (to_end es fs bs (active_begin tx))))
