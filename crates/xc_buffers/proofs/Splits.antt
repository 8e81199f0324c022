-- Lists in two parts with an element between, reversed lists, and what a filter keeps of a part.
use Rattle.std.proofs.Common.{◌≡◌, ℕ, ◌+◌, ◌-◌, ◌<◌, ◌≤◌, Bool, true, false, cond, List, [], ◌∷◌, ◌++◌, length, get_or, take, drop, refl, ap, sym}
use Rattle.std.proofs.Common.{◌∙◌, subst, arith}
use Rattle.std.specs.Prelude.{reverse, All}
use Rattle.std.specs.List.{filter, AllWithin, between}
use Rattle.std.proofs.lemmas.List.{append-nil, get_or-reverse, get_or-drop, get_or-take, length-reverse, length-drop, length-take, take-append-drop}
use Rattle.std.proofs.lemmas.List.{reverse-append, append_assoc}
use Rattle.std.proofs.lemmas.List.Edits.{split_between, length-between, get_or-between}
use Rattle.std.proofs.lemmas.List.Elements.{All-nil, All-cons, All-head, All-tail, filter-append}

module _ {X : Type 0} (P : X → Type 0) where
  -- what holds of each element holds of each of the reversed list
  pub All-reverse : (xs : List X) → All P xs → All P (reverse xs)
  All-reverse xs all k d lt =
      let size = length-reverse xs in
      subst P (sym (get_or-reverse xs k d (omega (arith, size)))) (all (length xs - 1 - k) d (omega (arith, size)))

  -- what holds of each element from a place on holds of each of those
  pub All-from : (xs : List X) (at : ℕ) → AllWithin P xs at (length xs) → All P (drop at xs)
  All-from xs at within k d lt =
      let size = length-drop at xs in
      subst P (sym (get_or-drop at xs k d)) (within (at + k) d (omega arith) (omega (arith, size)))

  -- what holds of each element below a place holds of each of those
  pub All-below : (xs : List X) (at : ℕ) → AllWithin P xs 0 at → All P (take at xs)
  All-below xs at within k d lt =
      let size = length-take at xs in
      let less : k < at = omega (arith, size) in
      subst P (sym (get_or-take at xs k d less)) (within k d (omega arith) less)

  -- with an element between two parts
  pub All-between : (xs ys : List X) (t : X) → All P (xs ++ ys) → P t → All P (xs ++ t ∷ ys)
  All-between [] ys t all p = All-cons P t ys p all
  All-between (x ∷ xs) ys t all p =
      All-cons P x (xs ++ t ∷ ys) (All-head P x (xs ++ ys) all) (All-between xs ys t (All-tail P x (xs ++ ys) all) p)

  -- without it
  pub All-without : (xs ys : List X) (t : X) → All P (xs ++ t ∷ ys) → All P (xs ++ ys)
  All-without [] ys t all = All-tail P t ys all
  All-without (x ∷ xs) ys t all =
      All-cons P x (xs ++ ys) (All-head P x (xs ++ t ∷ ys) all) (All-without xs ys t (All-tail P x (xs ++ t ∷ ys) all))

  -- of it alone
  pub All-of : (xs ys : List X) (t : X) → All P (xs ++ t ∷ ys) → P t
  All-of [] ys t all = All-head P t ys all
  All-of (x ∷ xs) ys t all = All-of xs ys t (All-tail P x (xs ++ t ∷ ys) all)

  -- of the first part
  pub All-first : (xs ys : List X) → All P (xs ++ ys) → All P xs
  All-first [] ys all = All-nil P
  All-first (x ∷ xs) ys all = All-cons P x xs (All-head P x (xs ++ ys) all) (All-first xs ys (All-tail P x (xs ++ ys) all))

-- what each element of two tests says of the other
pub All-both : {X : Type 0} (P Q R : X → Type 0) → ((x : X) → P x → Q x → R x) → (xs : List X) → All P xs → All Q xs → All R xs
All-both P Q R h xs p q k d lt = h _ (p k d lt) (q k d lt)

module _ {X : Type 0} (p : X → Bool) where
  kept_none : (x : X) (rest : List X) (b : Bool) → b ≡ false → cond b (x ∷ rest) rest ≡ rest
  kept_none x rest true e = cc
  kept_none x rest false e = refl

  kept_one : (x : X) (rest : List X) (b : Bool) → b ≡ true → cond b (x ∷ rest) rest ≡ x ∷ rest
  kept_one x rest true e = refl
  kept_one x rest false e = cc

  -- nothing is left where no element passes
  pub filter-none : (xs : List X) → All (λ x. p x ≡ false) xs → filter p xs ≡ []
  filter-none [] all = refl
  filter-none (x ∷ xs) all =
      let P : X → Type 0 = λ y. p y ≡ false in
      kept_none x (filter p xs) (p x) (All-head P x xs all) ∙ filter-none xs (All-tail P x xs all)

  -- all are where each passes
  pub filter-all : (xs : List X) → All (λ x. p x ≡ true) xs → filter p xs ≡ xs
  filter-all [] all = refl
  filter-all (x ∷ xs) all =
      let P : X → Type 0 = λ y. p y ≡ true in
      kept_one x (filter p xs) (p x) (All-head P x xs all) ∙ ap (λ ys. x ∷ ys) (filter-all xs (All-tail P x xs all))

  -- where none of the first part passes, the second one's are left
  pub filter-behind : (xs ys : List X) → All (λ x. p x ≡ false) xs → filter p (xs ++ ys) ≡ filter p ys
  filter-behind xs ys all = filter-append p xs ys ∙ ap (λ zs. zs ++ filter p ys) (filter-none xs all)

  -- an element between that passes comes first where none before does
  pub filter-first : (xs ys : List X) (t : X) → All (λ x. p x ≡ false) xs → p t ≡ true → filter p (xs ++ t ∷ ys) ≡ t ∷ filter p (xs ++ ys)
  filter-first xs ys t all e =
      filter-behind xs (t ∷ ys) all ∙ kept_one t (filter p ys) (p t) e ∙ ap (λ zs. t ∷ zs) (sym (filter-behind xs ys all))

  -- an element between that doesn't pass is left out
  pub filter-past : (xs ys : List X) (t : X) → p t ≡ false → filter p (xs ++ t ∷ ys) ≡ filter p (xs ++ ys)
  filter-past xs ys t e =
      filter-append p xs (t ∷ ys) ∙ ap (λ zs. filter p xs ++ zs) (kept_none t (filter p ys) (p t) e) ∙ sym (filter-append p xs ys)

  -- what passes is a part where each element of it does, and no other
  pub filter-part : (xs : List X) (from to : ℕ) → from ≤ to → to ≤ length xs → AllWithin (λ x. p x ≡ false) xs 0 from
      → AllWithin (λ x. p x ≡ true) xs from to → AllWithin (λ x. p x ≡ false) xs to (length xs)
      → filter p xs ≡ between from to xs
  filter-part xs from to le within below part above =
      let size = length-between xs from to within in
      let own : All (λ x. p x ≡ true) (between from to xs) = λ k d lt.
      subst (λ x. p x ≡ true) (sym (get_or-between xs from to k d (omega (arith, size)))) (part (from + k) d (omega arith) (omega (arith, size))) in
      ap (filter p) (split_between xs from to le)
      ∙ filter-behind (take from xs) (between from to xs ++ drop to xs) (All-below (λ x. p x ≡ false) xs from below)
      ∙ filter-append p (between from to xs) (drop to xs)
      ∙ ap (λ zs. filter p (between from to xs) ++ zs) (filter-none (drop to xs) (All-from (λ x. p x ≡ false) xs to above))
      ∙ append-nil (filter p (between from to xs)) ∙ filter-all (between from to xs) own

  -- it comes reversed out of a reversed list
  pub filter-reverse : (xs : List X) → filter p (reverse xs) ≡ reverse (filter p xs)
  filter-reverse [] = refl
  filter-reverse (x ∷ xs) =
      ap (filter p) (reverse-append (x ∷ []) xs) ∙ filter-append p (reverse xs) (x ∷ []) ∙ ap (λ ys. ys ++ filter p (x ∷ [])) (filter-reverse xs)
      ∙ by_test (p x)
    where
      by_test : (b : Bool) → reverse (filter p xs) ++ cond b (x ∷ []) [] ≡ reverse (cond b (x ∷ filter p xs) (filter p xs))
      by_test true = sym (reverse-append (x ∷ []) (filter p xs))
      by_test false = append-nil (reverse (filter p xs))

module _ {X : Type 0} where
  -- a reversed list in the two parts that a place cuts
  pub reverse-cut : (xs : List X) (at : ℕ) → reverse xs ≡ reverse (drop at xs) ++ reverse (take at xs)
  reverse-cut xs at = ap reverse (sym (take-append-drop at xs)) ∙ reverse-append (take at xs) (drop at xs)

  -- with an element between them
  pub reverse-between : (xs ys : List X) (t : X) → reverse (xs ++ t ∷ ys) ≡ reverse ys ++ t ∷ reverse xs
  reverse-between xs ys t =
      reverse-append xs (t ∷ ys) ∙ ap (λ zs. zs ++ reverse xs) (reverse-append (t ∷ []) ys) ∙ append_assoc (reverse ys) (t ∷ []) (reverse xs)

  -- a place of a reversed list
  pub reversed_at : (xs : List X) (k : ℕ) (d : X) → k < length xs → get_or (reverse xs) (length xs - 1 - k) d ≡ get_or xs k d
  reversed_at xs k d lt =
      let same : length xs - 1 - (length xs - 1 - k) ≡ k = omega arith in
      get_or-reverse xs (length xs - 1 - k) d (omega arith) ∙ ap (λ i. get_or xs i d) same
