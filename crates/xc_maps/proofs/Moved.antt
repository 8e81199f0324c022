-- Entries that stand outside a tree, taken out, put there and put away.
use Rattle.std.proofs.Common.{◌≡◌, ℕ, zero, suc, Bool, true, false, cond, Option, Some, None, List, [], ◌∷◌, ◌++◌, ◌<◌, length, get_or}
use Rattle.std.proofs.Common.{refl, ap, sym, ◌∙◌, arith}
use Rattle.std.specs.Prelude.{◌+◌, ◌≤◌, slice_get, is_some, IfSome, IfNone, OnSome, if◌then◌else◌}
use Rattle.std.specs.declared.cmp.Ordering.{Ordering}
use Rattle.std.specs.Cmp.{IsTotalOrder, eq_by_cmp_equiv}
use Rattle.std.specs.List as list
use Rattle.std.specs.BTreeMap.{is_at}
use Rattle.std.specs.Map.{lookup}
use Rattle.std.proofs.lemmas.Option.{slice_get-get_or}
use Rattle.std.proofs.lemmas.Map.Lookups.{CmpEqualImpliesEq}
use Rattle.xc_maps.specs.Moved.{AreNew}
use Rattle.xc_maps.proofs.Laws.{alike, tied}

module _ {K : Type 0} {R : K → K → Ordering} (o : IsTotalOrder R) (same : CmpEqualImpliesEq R) where
  turn : (a b : K) → is_at (R a) b ≡ is_at (R b) a
  turn a b = (eq_by_cmp_equiv o).symm a b

  tie : (a b : K) → is_at (R a) b ≡ true → a ≡ b
  tie a b e = tied o same a b e

-- a tree that differs from another at one key
abbrev pub ChangesAt : {K X : Type 0} → (K → K → Ordering) → K → Option X → List (K × X) → List (K × X) → Type 0
ChangesAt {K = K} R k w es fs = (q : K) → lookup (is_at (R q)) fs ≡ cond (is_at (R k) q) w (lookup (is_at (R q)) es)

module _ {K X : Type 0} {R : K → K → Ordering} (o : IsTotalOrder R) (same : CmpEqualImpliesEq R) where
  -- what two lists, one after the other, have at a key
  abbrev pub at : List (K × X) → List (K × X) → K → Option X
  at es tree q = lookup (is_at (R q)) (es ++ tree)

  parts : (b : Bool) (x : X) (r : Option X) → cond b (Some x) r ≡ None → (b ≡ false) × (r ≡ None)
  parts true x r e = absurd (cc)
  parts false x r e = (refl, e)

  other_at : (es tree : List (K × X)) (k e : K) (x : X) (b : Bool) → is_at (R k) e ≡ b
      → at es tree e ≡ None → at es tree k ≡ Some x → b ≡ false
  other_at es tree k e x true is none some = absurd (let p = sym none ∙ ap (at es tree) (sym (tie o same k e is)) ∙ some in cc)
  other_at es tree k e x false is none some = refl

  passed : (b c : Bool) (w y u v : Option X) → (b ≡ true → c ≡ true → ⊥) → u ≡ cond b w v → cond c y u ≡ cond b w (cond c y v)
  passed true true w y u v h e = absurd (h refl refl)
  passed true false w y u v h e = e
  passed false true w y u v h e = refl
  passed false false w y u v h e = e

  -- a change at one key stands after an entry of another
  step : (k q : K) (e : K × X) (w u v : Option X) → is_at (R k) e.0 ≡ false → u ≡ cond (is_at (R k) q) w v
      → cond (is_at (R q) e.0) (Some e.1) u ≡ cond (is_at (R k) q) w (cond (is_at (R q) e.0) (Some e.1) v)
  step k q e w u v other is =
      passed _ _ w _ u v (λ b c. absurd (let p = sym other ∙ ap (λ a. is_at (R a) e.0) (tie o same k q b) ∙ c in cc)) is

  -- what no entry outside has is what the tree has
  pub tree_behind : (es tree : List (K × X)) (k : K) → lookup (is_at (R k)) es ≡ None → at es tree k ≡ lookup (is_at (R k)) tree
  tree_behind [] tree k none = refl
  tree_behind (e ∷ es) tree k none =
      let p = parts _ _ _ none in
      ap (λ b. cond b (Some e.1) (at es tree k)) p.0 ∙ tree_behind es tree k p.1

  -- an entry that stands outside is what the lists have at its key
  pub found_outside : (es tree : List (K × X)) (i : ℕ) (k : K) (x : X) → AreNew R es tree → slice_get es i ≡ Some (k, x) → at es tree k ≡ Some x
  found_outside [] tree i k x h is = absurd (cc)
  found_outside (e ∷ es) tree zero k x h is =
      let p : e ≡ (k, x) = cc in
      ap (λ (d : K × X). cond (is_at (R k) d.0) (Some d.1) (at es tree k)) p ∙ ap (λ b. cond b (Some x) (at es tree k)) (alike o same k)
  found_outside (e ∷ es) tree (suc i) k x h is =
      let rest = found_outside es tree i k x h.1 is in
      ap (λ b. cond b (Some e.1) (at es tree k)) (other_at es tree k e.0 x _ refl h.0 rest) ∙ rest

  first_cut : (es tree : List (K × X)) (k q : K) (x : X) (b : Bool) → is_at (R k) q ≡ b → at es tree k ≡ None
      → at es tree q ≡ cond b None (cond (is_at (R q) k) (Some x) (at es tree q))
  first_cut es tree k q x true is none = ap (at es tree) (sym (tie o same k q is)) ∙ none
  first_cut es tree k q x false is none = ap (λ b. cond b (Some x) (at es tree q)) (sym (turn o same q k ∙ is))

  -- it is taken out
  pub cut_at : (es tree : List (K × X)) (i : ℕ) (k : K) (x : X) → AreNew R es tree → slice_get es i ≡ Some (k, x)
      → ChangesAt R k None (es ++ tree) (list.remove es i ++ tree)
  cut_at [] tree i k x h is q = absurd (cc)
  cut_at (e ∷ es) tree zero k x h is q =
      let p : e ≡ (k, x) = cc in
      first_cut es tree k q x _ refl (ap (λ (d : K × X). at es tree d.0) (sym p) ∙ h.0)
      ∙ ap (λ (d : K × X). cond (is_at (R k) q) None (cond (is_at (R q) d.0) (Some d.1) (at es tree q))) (sym p)
  cut_at (e ∷ es) tree (suc i) k x h is q =
      step k q e None _ _ (other_at es tree k e.0 x _ refl h.0 (found_outside es tree i k x h.1 is)) (cut_at es tree i k x h.1 is q)

  -- the tree changes at a key that no entry outside has
  pub tree_changed : (es tree next : List (K × X)) (k : K) (w : Option X) → lookup (is_at (R k)) es ≡ None → ChangesAt R k w tree next
      → ChangesAt R k w (es ++ tree) (es ++ next)
  tree_changed [] tree next k w none h q = h q
  tree_changed (e ∷ es) tree next k w none h q =
      let p = parts _ _ _ none in
      step k q e w _ _ p.0 (tree_changed es tree next k w p.1 h q)

  -- an entry of a new key is put outside
  pub put_outside : (es tree : List (K × X)) (k : K) (x : X) → at es tree k ≡ None → ChangesAt R k (Some x) (es ++ tree) ((es ++ (k, x) ∷ []) ++ tree)
  put_outside [] tree k x none q = ap (λ b. cond b (Some x) (lookup (is_at (R q)) tree)) (turn o same q k)
  put_outside (e ∷ es) tree k x none q =
      let p = parts _ _ _ none in
      step k q e (Some x) _ _ p.0 (put_outside es tree k x p.1 q)

  -- the last entry outside is put into the tree
  pub away_at : (es tree next : List (K × X)) (k : K) (x : X) → ChangesAt R k (Some x) tree next → (q : K) → at es next q ≡ at (es ++ (k, x) ∷ []) tree q
  away_at [] tree next k x h q = h q ∙ ap (λ b. cond b (Some x) (lookup (is_at (R q)) tree)) (turn o same k q)
  away_at (e ∷ es) tree next k x h q = ap (cond (is_at (R q) e.0) (Some e.1)) (away_at es tree next k x h q)

  -- ---- each key stands once
  -- nothing, on either side
  pub none_either : (b : Bool) (r : Option X) → r ≡ None → cond b None r ≡ None
  none_either true r e = refl
  none_either false r e = e

  -- after an entry that was taken out
  pub fresh_cut : (es tree : List (K × X)) (i : ℕ) (k : K) (x : X) → AreNew R es tree → slice_get es i ≡ Some (k, x)
      → AreNew R (list.remove es i) tree
  fresh_cut [] tree i k x h is = absurd (cc)
  fresh_cut (e ∷ es) tree zero k x h is = h.1
  fresh_cut (e ∷ es) tree (suc i) k x h is = (cut_at es tree i k x h.1 is e.0 ∙ none_either _ _ h.0, fresh_cut es tree i k x h.1 is)

  -- beside a tree that changed at another key
  pub fresh_changed : (es tree next : List (K × X)) (k : K) (w : Option X) → lookup (is_at (R k)) es ≡ None → ChangesAt R k w tree next
      → AreNew R es tree → AreNew R es next
  fresh_changed [] tree next k w none h fresh = tt
  fresh_changed (e ∷ es) tree next k w none h fresh =
      let p = parts _ _ _ none in
      (tree_changed es tree next k w p.1 h e.0 ∙ ap (λ b. cond b w (at es tree e.0)) p.0 ∙ fresh.0, fresh_changed es tree next k w p.1 h fresh.1)

  -- with an entry of a new key
  pub fresh_put : (es tree : List (K × X)) (k : K) (x : X) → at es tree k ≡ None → AreNew R es tree → AreNew R (es ++ (k, x) ∷ []) tree
  fresh_put [] tree k x none fresh = (none, tt)
  fresh_put (e ∷ es) tree k x none fresh =
      let p = parts _ _ _ none in
      (put_outside es tree k x p.1 e.0 ∙ ap (λ b. cond b (Some x) (at es tree e.0)) p.0 ∙ fresh.0, fresh_put es tree k x p.1 fresh.1)

  -- with the last entry in the tree
  pub fresh_away : (es tree next : List (K × X)) (k : K) (x : X) → ChangesAt R k (Some x) tree next → AreNew R (es ++ (k, x) ∷ []) tree → AreNew R es next
  fresh_away [] tree next k x h fresh = tt
  fresh_away (e ∷ es) tree next k x h fresh = (away_at es tree next k x h e.0 ∙ fresh.0, fresh_away es tree next k x h fresh.1)

  -- the entry that stands at a place, by its key
  pub entry_stands : (es : List (K × X)) (i : ℕ) (k : K) (e : K × X) → i < length es → e ≡ get_or es i e → is_at (R k) e.0 ≡ true
      → slice_get es i ≡ Some (k, e.1)
  entry_stands es i k e lt is tied_to = slice_get-get_or es i e lt ∙ ap Some (sym is ∙ ap (λ a. (a, e.1)) (sym (tie o same k e.0 tied_to)))

  twice_at : (x : X) (g : Option X) (b : Bool) → cond b (Some x) (cond b None g) ≡ cond b (Some x) g
  twice_at x g true = refl
  twice_at x g false = refl

  -- nothing is left where an entry was taken out
  pub none_left : (es tree : List (K × X)) (i : ℕ) (k : K) (x : X) → AreNew R es tree → slice_get es i ≡ Some (k, x)
      → at (list.remove es i) tree k ≡ None
  none_left es tree i k x h is = cut_at es tree i k x h is k ∙ ap (λ b. cond b None (at es tree k)) (alike o same k)

  -- an entry outside has another value
  pub replaced_at : (es tree : List (K × X)) (i : ℕ) (k : K) (x y : X) → AreNew R es tree → slice_get es i ≡ Some (k, x)
      → ChangesAt R k (Some y) (es ++ tree) ((list.remove es i ++ (k, y) ∷ []) ++ tree)
  replaced_at es tree i k x y h is q =
      put_outside (list.remove es i) tree k y (none_left es tree i k x h is) q ∙ ap (cond (is_at (R k) q) (Some y)) (cut_at es tree i k x h is q)
      ∙ twice_at y (at es tree q) (is_at (R k) q)

  -- each key still stands once
  pub fresh_replaced : (es tree : List (K × X)) (i : ℕ) (k : K) (x y : X) → AreNew R es tree → slice_get es i ≡ Some (k, x)
      → AreNew R (list.remove es i ++ (k, y) ∷ []) tree
  fresh_replaced es tree i k x y h is = fresh_put (list.remove es i) tree k y (none_left es tree i k x h is) (fresh_cut es tree i k x h is)

module _ {X : Type 0} where
  -- what is said of a value that is there
  pub some_of : {P : X → Type 0} (r : Option X) → is_some r ≡ true → IfSome r P → (x : X) × P x
  some_of None e h = absurd (cc)
  some_of (Some x) e h = (x, h)

  -- what is said where one is there
  pub on_some : {P : Type 0} (r : Option X) → is_some r ≡ true → OnSome r P → P
  on_some None e h = absurd (cc)
  on_some (Some x) e h = h

  -- what is said where none is there
  pub if_none_holds : {P : Type 0} (r : Option X) → is_some r ≡ false → IfNone r P → P
  if_none_holds None e h = h
  if_none_holds (Some x) e h = absurd (cc)

  -- there is room for one entry more where it is new
  pub room_kept : (old : Option X) (next tree outside capacity : ℕ) → next ≡ tree + (if is_some old then 0 else 1)
      → (old ≡ None → tree + outside < capacity) → tree + outside ≤ capacity → next + outside ≤ capacity
  room_kept None next tree outside capacity e new fits = let lt = new refl in omega arith
  room_kept (Some x) next tree outside capacity e new fits = omega arith
