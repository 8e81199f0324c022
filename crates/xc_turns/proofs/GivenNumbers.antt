-- Each active transaction's number is its own.
use Rattle.std.proofs.Common.{◌≡◌, inl, inr, ℕ, ◌+◌, ◌<◌, ◌≤◌, List, [], ◌∷◌, ◌++◌, length, map, zero, suc, refl, ap, sym, ◌∙◌, subst, arith, false}
use Rattle.std.specs.Prelude.{Contains, Option, nat_eq}
use Rattle.std.specs.List.{cons_option, IsDistinct, AllByRecursion}
use Rattle.std.specs.declared.option.Option.TheVariants.{None, Some}
use Rattle.std.proofs.lemmas.Bool.{eqb-false}
use Rattle.std.proofs.lemmas.List.{map-append}
use Rattle.std.proofs.lemmas.List.Sorted.{Contains-permutation, IsPermutation-sym}
use Rattle.std.proofs.lemmas.Map.Keys.{IsDistinct-head, IsDistinct-tail, IsDistinct-cons, IsDistinct-IsPermutation}
use Rattle.xc_data.specs.declared.entry.Entry.{Entry}
use Rattle.xc_data.specs.declared.entry.Mark.{Mark}
use Rattle.xc_model.specs.Setting.{Setting}
use Rattle.xc_model.specs.Machine.{counting}
use Rattle.xc_model.specs.Moment.{TxView, JobView, active_of, actives}
use Rattle.xc_model.specs.Stories.{AreBegins, StoriesHold, active_begin, begins_of, entry_begin}
use Rattle.xc_model.specs.Movers.{IsActiveAt}
use Rattle.xc_turns.proofs.Lists.{contains_cons, contains_map}
use Rattle.xc_turns.proofs.Jobs.{active_listed}
use Rattle.xc_turns.proofs.StoryBegins.{active_begun, begins_count, number_below}

-- ---- numbers that differ
test_flips : (a b : ℕ) → nat_eq a b ≡ nat_eq b a
test_flips a b = grind arith

test_below : (a b : ℕ) → a < b → nat_eq a b ≡ false
test_below a b lt = grind arith

counting_apart : (k from n : ℕ) → k < from → AllByRecursion (λ y. nat_eq k y ≡ false) (counting from n)
counting_apart k from zero lt = tt
counting_apart k from (suc n) lt = (test_below k from lt, counting_apart k (from + 1) n (omega arith))

none_differ : IsDistinct nat_eq []
unfolding IsDistinct
none_differ = tt

counting_differs : (from n : ℕ) → IsDistinct nat_eq (counting from n)
counting_differs from zero = none_differ
counting_differs from (suc n) =
    IsDistinct-cons nat_eq from (counting (from + 1) n) (counting_apart from (from + 1) n (omega arith)) (counting_differs (from + 1) n)

differ_behind : (xs ys : List ℕ) → IsDistinct nat_eq (xs ++ ys) → IsDistinct nat_eq ys
differ_behind [] ys differ = differ
differ_behind (x ∷ xs) ys differ = differ_behind xs ys (IsDistinct-tail nat_eq x (xs ++ ys) differ)

apart_from : (k : ℕ) (xs : List ℕ) (y : ℕ) → AllByRecursion (λ x. nat_eq k x ≡ false) xs → Contains xs y → k ≡ y → ⊥
apart_from k [] y apart (i, lt, e) same = absurd (omega arith)
apart_from k (x ∷ xs) y apart at same =
    elim (contains_cons x xs y at) [
      | inl here ↦ eqb-false k x apart.0 (same ∙ sym here)
      | inr later ↦ apart_from k xs y apart.1 later same
    ]

counting_above : (from n k : ℕ) → Contains (counting from n) k → from ≤ k
counting_above from zero k (i, lt, e) = absurd (omega arith)
counting_above from (suc n) k at =
    elim (contains_cons from (counting (from + 1) n) k at) [
      | inl here ↦ omega arith
      | inr later ↦ let above = counting_above (from + 1) n k later in omega arith
    ]

-- ---- numbers of active transactions
abbrev firsts : List (ℕ × ℕ) → List ℕ
firsts begins = map (λ (b : ℕ × ℕ). b.0) begins

abbrev tx_numbers : List TxView → List ℕ
tx_numbers txs = firsts (map active_begin txs)

number_in : (jobs : List JobView) (i : ℕ) (t : TxView) → IsActiveAt jobs i t → Contains (tx_numbers (actives jobs)) t.number
number_in jobs i t active = contains_map (λ (b : ℕ × ℕ). b.0) (map active_begin (actives jobs)) (active_begin t)
    (contains_map active_begin (actives jobs) t (active_listed jobs i t active))

head_apart : (o : Option TxView) (txs : List TxView) (t u : TxView) → o ≡ Some t → IsDistinct nat_eq (tx_numbers (cons_option o txs))
    → Contains (tx_numbers txs) u.number → t.number ≡ u.number → ⊥
head_apart None txs t u e differ at same = cc e
head_apart (Some v) txs t u e differ at same =
    let is : v ≡ t = cc e in
    apart_from v.number (tx_numbers txs) u.number (IsDistinct-head nat_eq v.number (tx_numbers txs) differ) at
    (ap (λ (x : TxView). x.number) is ∙ same)

tail_differs : (o : Option TxView) (txs : List TxView) → IsDistinct nat_eq (tx_numbers (cons_option o txs)) → IsDistinct nat_eq (tx_numbers txs)
tail_differs None txs differ = differ
tail_differs (Some v) txs differ = IsDistinct-tail nat_eq v.number (tx_numbers txs) differ

first_active : (job : JobView) (jobs : List JobView) (t : TxView) → IsActiveAt (job ∷ jobs) 0 t → active_of job ≡ Some t
first_active job jobs t (other, there, has) = let same : job ≡ other = cc there in ap active_of same ∙ has

one_place : (jobs : List JobView) (i j : ℕ) (t u : TxView) → IsDistinct nat_eq (tx_numbers (actives jobs)) → IsActiveAt jobs i t → IsActiveAt jobs j u
    → t.number ≡ u.number → i ≡ j
one_place [] i j t u differ (job, there, has) b same = cc there
one_place (job ∷ jobs) zero zero t u differ a b same = refl
one_place (job ∷ jobs) zero (suc j) t u differ a b same =
    absurd (head_apart (active_of job) (actives jobs) t u (first_active job jobs t a) differ (number_in jobs j u b) same)
one_place (job ∷ jobs) (suc i) zero t u differ a b same =
    absurd (head_apart (active_of job) (actives jobs) u t (first_active job jobs u b) differ (number_in jobs i t a) (sym same))
one_place (job ∷ jobs) (suc i) (suc j) t u differ a b same =
    ap suc (one_place jobs i j t u (tail_differs (active_of job) (actives jobs) differ) a b same)

-- numbers that are the first ones in some order differ, those of the active transactions too
numbers_differ : (journal : List Entry) (jobs : List JobView) → AreBegins journal (begins_of journal jobs)
    → IsDistinct nat_eq (tx_numbers (actives jobs))
numbers_differ journal jobs are =
    let begins = begins_of journal jobs in
    let entered = map entry_begin journal in
    let given = counting 1 (length begins) in
    let all : IsDistinct nat_eq (firsts begins) =
    IsDistinct-IsPermutation nat_eq test_flips given (firsts begins) (IsPermutation-sym (firsts begins) given are.numbers)
    (counting_differs 1 (length begins)) in
    differ_behind (firsts entered) (tx_numbers (actives jobs))
    (subst (IsDistinct nat_eq) (map-append (λ (b : ℕ × ℕ). b.0) entered (map active_begin (actives jobs))) all)

-- two active transactions of one number stand in one place
pub given_once : (s : Setting) (words : ℕ) (marks : ℕ → Option Mark) (journal : List Entry) (jobs : List JobView) → StoriesHold s words marks journal jobs
    → (i j : ℕ) (t u : TxView)
    → IsActiveAt jobs i t → IsActiveAt jobs j u → t.number ≡ u.number → i ≡ j
given_once s words marks journal jobs told i j t u = one_place jobs i j t u (numbers_differ journal jobs told.begins)

-- an active transaction's number is one of as many as have begun
pub given_by_now : (s : Setting) (words : ℕ) (marks : ℕ → Option Mark) (journal : List Entry) (jobs : List JobView) → StoriesHold s words marks journal jobs
    → (i : ℕ) (t : TxView)
    → IsActiveAt jobs i t → (1 ≤ t.number) × (t.number ≤ length journal + length (actives jobs))
given_by_now s words marks journal jobs told i t active =
    let begins = begins_of journal jobs in
    let at = active_begun journal jobs i t active in
    let above = counting_above 1 (length begins) t.number
    (Contains-permutation (firsts begins) (counting 1 (length begins)) t.number told.begins.numbers
    (contains_map (λ (b : ℕ × ℕ). b.0) begins (active_begin t) at)) in
    let below = number_below journal begins told.begins (active_begin t) at in
    (above, omega (arith, begins_count journal jobs))
