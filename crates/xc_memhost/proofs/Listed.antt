-- Fault lines by kind, in order and merged list what they listed.
use Rattle.std.proofs.Common.{◌≡◌, ℕ, zero, suc, ◌-◌, ◌<◌, ◌≤◌, max, leb, ◌&&◌, ◌||◌, Bool, true, false, cond, List, [], ◌∷◌}
use Rattle.std.proofs.Common.{length, get_or, add-one, refl, ap, sym, ◌∙◌, arith}
use Rattle.std.specs.List.{list_any, filter, AllWithin, AllAdjacentBelow}
use Rattle.std.specs.List.Sorted.{IsPartitionPoint}
use Rattle.std.proofs.lemmas.Bool.{leb-true, leb-false, lt-leb}
use Rattle.std.proofs.lemmas.Bool.Decides.{nat_tests}
use Rattle.std.proofs.lemmas.List.Sorted.{IsNonDecreasingBy-from_all_adjacent}
use Rattle.xc_data.specs.declared.script.FaultLine.{FaultLine}
use Rattle.xc_data.specs.declared.script.HostCallKind.{HostCallKind}
use Rattle.xc_data.specs.Kinds.{kind_place}
use Rattle.xc_host.proofs.Laws.{same_place}
use Rattle.xc_memhost.specs.Faults.{is_fault_within, any_within, is_line_of}
use Rattle.xc_memhost.specs.Spans.{is_at_place, IsRising, EndsBefore, AreDisjoint}

either_first : (a b c d r : Bool) → r ≡ (c || d) → ((a || b) || r) ≡ ((a || c) || (b || d))
either_first true b c d r e = refl
either_first false true true d r e = refl
either_first false true false d r e = refl
either_first false false c d r e = e

-- one of the elements passes either test where one passes the first or one the second
pub any_either : {X : Type 0} (p q : X → Bool) (xs : List X) → list_any (λ x. p x || q x) xs ≡ (list_any p xs || list_any q xs)
any_either p q [] = refl
any_either p q (x ∷ xs) = either_first (p x) (q x) (list_any p xs) (list_any q xs) _ (any_either p q xs)

either_true : (a b r : Bool) → r ≡ true → r ≡ a → r ≡ (a || b)
either_true true b r t e = e
either_true false b r t e = absurd (cc)

either_false : (a b r : Bool) → a ≡ false → r ≡ b → r ≡ (a || b)
either_false true b r f e = absurd (cc)
either_false false b r f e = e

-- one of the elements passes the first test
pub any_first : {X : Type 0} (p q : X → Bool) (xs : List X) (r : Bool) → r ≡ true → r ≡ list_any p xs → r ≡ list_any (λ x. p x || q x) xs
any_first p q xs r t e = either_true _ _ r t e ∙ sym (any_either p q xs)

-- none passes the first test
pub any_second : {X : Type 0} (p q : X → Bool) (xs : List X) (r : Bool) → list_any p xs ≡ false → r ≡ list_any q xs
    → r ≡ list_any (λ x. p x || q x) xs
any_second p q xs r f e = either_false _ _ r f e ∙ sym (any_either p q xs)

where_first : {X : Type 0} (p q : X → Bool) (x : X) (xs : List X) (b : Bool) → list_any q (filter p xs) ≡ list_any (λ x. p x && q x) xs
    → list_any q (cond b (x ∷ filter p xs) (filter p xs)) ≡ ((b && q x) || list_any (λ x. p x && q x) xs)
where_first p q x xs true e = ap (λ r. q x || r) e
where_first p q x xs false e = e

-- one of those that pass the first test passes the second where one passes both
pub any_where : {X : Type 0} (p q : X → Bool) (xs : List X) → list_any q (filter p xs) ≡ list_any (λ x. p x && q x) xs
any_where p q [] = refl
any_where p q (x ∷ xs) = where_first p q x xs (p x) (any_where p q xs)

-- the lines at a kind's place list what all lines list for it
pub of_place : (kind : HostCallKind) (n : ℕ) (lines : List FaultLine)
    → any_within n (filter (is_at_place (kind_place kind)) lines) ≡ list_any (is_line_of kind n) lines
of_place kind n lines =
    any_where (is_at_place (kind_place kind)) (λ line. is_fault_within line n) lines
    ∙ sym (λ i. list_any (λ line. same_place line.kind kind i && is_fault_within line n) lines)

-- ---- lines that are merged
-- a line that begins inside the one before it becomes a part of that
abbrev pub merge : FaultLine → List FaultLine → List FaultLine
merge top [] = top ∷ []
merge top (line ∷ lines) = cond (leb line.first top.last) (merge (record top { last = max top.last line.last }) lines) (top ∷ merge line lines)

-- each first number is at least the one before it
abbrev pub FirstsRise : ℕ → List FaultLine → Type 0
FirstsRise n [] = Unit {0}
FirstsRise n (line ∷ lines) = (n ≤ line.first) × FirstsRise line.first lines

Rises-less : (m n : ℕ) (lines : List FaultLine) → m ≤ n → FirstsRise n lines → FirstsRise m lines
Rises-less m n [] le r = tt
Rises-less m n (line ∷ lines) le r = (omega (arith, r.0), r.1)

-- a list that rises does so from its head on
pub Rises-from_rising : (line : FaultLine) (lines : List FaultLine) → IsRising (line ∷ lines) → FirstsRise line.first lines
Rises-from_rising line [] h = tt
Rises-from_rising line (next ∷ lines) h =
    (h 0 1 line (omega arith) (omega arith), Rises-from_rising next lines (λ i j d le lt. h (suc i) (suc j) d (omega arith) (omega arith)))

joined : (n : ℕ) (top line : FaultLine) → top.first ≤ line.first → line.first ≤ top.last
    → is_fault_within (record top { last = max top.last line.last }) n ≡ (is_fault_within top n || is_fault_within line n)
joined n top line rises meets = grind (arith, nat_tests)

or_next : (a b c r : Bool) → r ≡ ((a || b) || c) → r ≡ (a || (b || c))
or_next true b c r e = e
or_next false b c r e = e

any_step : (n : ℕ) (top line : FaultLine) (lines : List FaultLine) (b : Bool) → leb line.first top.last ≡ b → top.first ≤ line.first
    → any_within n (merge (record top { last = max top.last line.last }) lines)
    ≡ any_within n (record top { last = max top.last line.last } ∷ lines)
    → any_within n (merge line lines) ≡ any_within n (line ∷ lines)
    → any_within n (cond b (merge (record top { last = max top.last line.last }) lines) (top ∷ merge line lines)) ≡ any_within n (top ∷ (line ∷ lines))
any_step n top line lines true e le meets apart =
    or_next (is_fault_within top n) (is_fault_within line n) (any_within n lines) _
    (meets ∙ ap (λ x. x || any_within n lines) (joined n top line le (leb-true _ _ e)))
any_step n top line lines false e le meets apart = ap (λ x. is_fault_within top n || x) apart

-- merged lines list the numbers that they listed
pub merge-any : (n : ℕ) (top : FaultLine) (lines : List FaultLine) → FirstsRise top.first lines
    → any_within n (merge top lines) ≡ any_within n (top ∷ lines)
merge-any n top [] r = refl
merge-any n top (line ∷ lines) r =
    any_step n top line lines _ refl r.0 (merge-any n (record top { last = max top.last line.last }) lines (Rises-less _ _ lines r.0 r.1))
    (merge-any n line lines r.1)

ends : (a line : FaultLine) (lines : List FaultLine) → a.last < line.first → a.first ≤ line.first → EndsBefore a (merge line lines)
ends a line [] lt le = (lt, le)
ends a line (next ∷ lines) lt le =
    elim (leb next.first line.last) as (λ b.
    EndsBefore a (cond b (merge (record line { last = max line.last next.last }) lines) (line ∷ merge next lines))) [
      | true ↦ ends a (record line { last = max line.last next.last }) lines lt le
      | false ↦ (lt, le)
    ]

-- merged lines stand apart
pub merge-apart : (top : FaultLine) (lines : List FaultLine) → FirstsRise top.first lines → AreDisjoint (merge top lines)
merge-apart top [] r = (tt, tt)
merge-apart top (line ∷ lines) r =
    elim (leb line.first top.last) as (λ b. leb line.first top.last ≡ b
    → AreDisjoint (cond b (merge (record top { last = max top.last line.last }) lines) (top ∷ merge line lines))) [
      | true ↦ λ e. merge-apart (record top { last = max top.last line.last }) lines (Rises-less _ _ lines r.0 r.1)
      | false ↦ λ e. (ends top line lines (leb-false _ _ e) r.0, merge-apart line lines r.1)
    ] refl

-- ---- lines that stand apart
adjacent_rise : (lines : List FaultLine) → AreDisjoint lines → AllAdjacentBelow (λ a b. a.first ≤ b.first) lines (length lines)
adjacent_rise [] h k d lt = absurd (omega (arith, lt))
adjacent_rise (a ∷ []) h k d lt = absurd (omega (arith, lt))
adjacent_rise (a ∷ (b ∷ lines)) h zero d lt = h.0.1
adjacent_rise (a ∷ (b ∷ lines)) h (suc k) d lt = rw (add-one (suc k)) (rw (add-one k) at (adjacent_rise (b ∷ lines) h.1 k d (omega (arith, lt))))

-- they rise
pub rising_from_apart : (lines : List FaultLine) → AreDisjoint lines → IsRising lines
rising_from_apart lines h = IsNonDecreasingBy-from_all_adjacent (λ line. line.first) lines (adjacent_rise lines h)

-- none of the lines from this place on begins at or before the number
abbrev pub BeginBehind : ℕ → ℕ → List FaultLine → Type 0
BeginBehind n i lines = AllWithin (λ line. leb line.first n ≡ false) lines i (length lines)

-- where no line begins at or before the number none lists it
pub none_lists : (n : ℕ) (lines : List FaultLine) → BeginBehind n 0 lines → any_within n lines ≡ false
none_lists n [] h = refl
none_lists n (line ∷ lines) h =
    let here : leb line.first n ≡ false = h 0 line (omega arith) (omega arith) in
    let rest : any_within n lines ≡ false = none_lists n lines (λ k d le lt. h (suc k) d (omega arith) (omega arith)) in
    rw (here, rest) refl

or_none : (b : Bool) → (b || false) ≡ b
or_none true = refl
or_none false = refl

and_none : (b : Bool) → (b && false) ≡ false
and_none true = refl
and_none false = refl

-- of lines that stand apart only the last that begins at or before the number can list it
pub last_lists : (n : ℕ) (lines : List FaultLine) (j : ℕ) (d : FaultLine) → AreDisjoint lines
    → AllWithin (λ line. leb line.first n ≡ true) lines 0 (suc j) → BeginBehind n (suc j) lines → j < length lines
    → any_within n lines ≡ leb n (get_or lines j d).last
last_lists n [] j d h before behind lt = absurd (omega (arith, lt))
last_lists n (line ∷ lines) zero d h before behind lt =
    let here : leb line.first n ≡ true = before 0 line (omega arith) (omega arith) in
    let rest : any_within n lines ≡ false = none_lists n lines (λ k e le less. behind (suc k) e (omega arith) (omega arith)) in
    rw (here, rest) (or_none (leb n line.last))
last_lists n (line ∷ []) (suc j) d h before behind lt = absurd (omega (arith, lt))
last_lists n (line ∷ (next ∷ lines)) (suc j) d h before behind lt =
    let begun : next.first ≤ n = leb-true _ _ (before 1 next (omega arith) (omega arith)) in
    let ended : leb n line.last ≡ false = lt-leb _ _ (omega (arith, h.0.0)) in
    let here : is_fault_within line n ≡ false = rw ended (and_none (leb line.first n)) in
    rw here (last_lists n (next ∷ lines) j d h.1 (λ k e le less. before (suc k) e (omega arith) (omega arith))
    (λ k e le less. behind (suc k) e (omega arith) (omega arith)) (omega (arith, lt)))

-- so many lines begin at or before the number, and no others do
abbrev pub BeginsWithin : ℕ → List FaultLine → ℕ → Type 0
BeginsWithin n = IsPartitionPoint (λ line. leb line.first n ≡ true) (λ line. leb line.first n ≡ false)

-- where none begins at or before the number, none lists it
pub lists_none : (n : ℕ) (lines : List FaultLine) (i : ℕ) → BeginsWithin n lines i → i ≤ 0 → any_within n lines ≡ false
lists_none n lines i h le = none_lists n lines (λ k d _ lt. h.1 k d (omega arith) lt)

-- else the last that does is the one that can
pub lists_last : (n : ℕ) (lines : List FaultLine) (i : ℕ) (d : FaultLine) → AreDisjoint lines → BeginsWithin n lines i → 0 < i → i ≤ length lines
    → any_within n lines ≡ leb n (get_or lines (i - 1) d).last
lists_last n lines i d h point some within =
    last_lists n lines (i - 1) d h (λ k e le lt. point.0 k e le (omega arith)) (λ k e le lt. point.1 k e (omega arith) lt) (omega arith)
