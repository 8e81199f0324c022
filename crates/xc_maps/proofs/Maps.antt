-- What `BTreeMap`s say of finite maps.
use Rattle.std.proofs.Common.{◌≡◌, ℕ, cond, List, [], ◌∷◌, Option, Some, None, refl, ap, sym, ◌∙◌}
use Rattle.std.specs.declared.cmp.Ordering.{Ordering}
use Rattle.std.specs.declared.cmp.Ordering.TheVariants.{Less, Equal, Greater}
use Rattle.std.specs.Ordering.{nat_cmp, is_eq, eq_by_cmp}
use Rattle.std.specs.Cmp.{IsTotalOrder, nat_cmp_total, eq_by_cmp_equiv}
use Rattle.std.proofs.lemmas.Cmp.{on_total, then_total}
use Rattle.std.proofs.lemmas.Map.Lookups.{CmpEqualImpliesEq, exact_unsigned, exact_pairs}
use Rattle.std.specs.BTreeMap.{is_at}
use Rattle.std.specs.Map.{lookup}
use Rattle.std.specs.FinMap.{FinMap, find, get, insert, remove, from_entries, get-from_entries, get-insert, get-remove, get_tied, same_map}
use Rattle.xc_maps.specs.Keys.{num_cmp}

-- numbers that compare as equal are the same
pub num_exact : CmpEqualImpliesEq num_cmp
num_exact a b h = ap (λ (p : ℕ × ℕ). record { tx = p.0; k = p.1 }) (exact_pairs nat_cmp nat_cmp exact_unsigned exact_unsigned (a.tx, a.k) (b.tx, b.k) h)

-- the order of numbers is total
pub num_total : IsTotalOrder num_cmp
num_total = then_total (on_total (λ n. n.tx) nat_cmp_total) (on_total (λ n. n.k) nat_cmp_total)

module _ {K X : Type 0} {R : K → K → Ordering} (o : IsTotalOrder R) where
  find-lookup : (es : List (K × X)) (q : K) → find R q es ≡ lookup (is_at (R q)) es
  find-lookup [] q = refl
  find-lookup (e ∷ es) q = ap (cond (is_at (R q) e.0) (Some e.1)) (find-lookup es q)

  -- what the map of some entries has at a key
  pub get-lookup : (es : List (K × X)) (q : K) → get (from_entries {R = R} es) q ≡ lookup (is_at (R q)) es
  get-lookup es q = get-from_entries o es q ∙ find-lookup es q

  -- entries that answer alike make one map
  pub alike_map : CmpEqualImpliesEq R → (es fs : List (K × X)) → ((q : K) → lookup (is_at (R q)) fs ≡ lookup (is_at (R q)) es)
      → from_entries {R = R} fs ≡ from_entries es
  alike_map same es fs h = same_map o same _ _ (λ q. get-lookup fs q ∙ h q ∙ sym (get-lookup es q))

  turned_at : (es : List (K × X)) (k q : K) (y : Option X)
      → cond (is_at (R k) q) y (lookup (is_at (R q)) es) ≡ cond (eq_by_cmp R q k) y (get (from_entries {R = R} es) q)
  turned_at es k q y = ap (λ b. cond b y (lookup (is_at (R q)) es)) ((eq_by_cmp_equiv o).symm k q) ∙ ap (cond (eq_by_cmp R q k) y) (sym (get-lookup es q))

  -- entries that differ at one key make maps that differ there
  pub inserted : CmpEqualImpliesEq R → (es fs : List (K × X)) (k : K) (x : X)
      → ((q : K) → lookup (is_at (R q)) fs ≡ cond (is_at (R k) q) (Some x) (lookup (is_at (R q)) es)) → from_entries {R = R} fs ≡ insert (from_entries es) k x
  inserted same es fs k x h = same_map o same _ _ (λ q. get-lookup fs q ∙ h q ∙ turned_at es k q (Some x) ∙ sym (get-insert o (from_entries es) k x q))

  -- entries of which one lacks a key make maps that differ there
  pub removed : CmpEqualImpliesEq R → (es fs : List (K × X)) (k : K) → ((q : K) → lookup (is_at (R q)) fs ≡ cond (is_at (R k) q) None (lookup (is_at (R q)) es))
      → from_entries {R = R} fs ≡ remove (from_entries es) k
  removed same es fs k h = same_map o same _ _ (λ q. get-lookup fs q ∙ h q ∙ turned_at es k q None ∙ sym (get-remove o (from_entries es) k q))

  -- what was inserted at a new key is taken back by its removal
  undone_at : (m : FinMap R X) (k q : K) (x : X) → get m k ≡ None → (r : Ordering) → R q k ≡ r
      → cond (is_eq r) None (cond (is_eq r) (Some x) (get m q)) ≡ get m q
  undone_at m k q x none Less e = refl
  undone_at m k q x none Equal e = sym none ∙ get_tied o m q k e
  undone_at m k q x none Greater e = refl

  -- a new key that is inserted and then removed leaves the map as it was
  pub insert_undone : CmpEqualImpliesEq R → (m : FinMap R X) (k : K) (x : X) → get m k ≡ None → remove (insert m k x) k ≡ m
  insert_undone same m k x none = same_map o same _ _ (λ q.
      get-remove o (insert m k x) k q ∙ ap (cond (eq_by_cmp R q k) None) (get-insert o m k x q) ∙ undone_at m k q x none (R q k) refl)
