-- Laws of maps by number, for the crates above.
-- ---- Maps: What `BTreeMap`s say of finite maps.
-- numbers that compare as equal are the same
pub use Rattle.xc_maps.proofs.Maps.{num_exact}
-- the order of numbers is total
pub use Rattle.xc_maps.proofs.Maps.{num_total}
-- what the map of some entries has at a key
pub use Rattle.xc_maps.proofs.Maps.{get-lookup}
-- entries that differ at one key make maps that differ there
pub use Rattle.xc_maps.proofs.Maps.{inserted}
-- entries of which one lacks a key make maps that differ there
pub use Rattle.xc_maps.proofs.Maps.{removed}
-- a new key that is inserted and then removed leaves the map as it was
pub use Rattle.xc_maps.proofs.Maps.{insert_undone}
use Rattle.std.proofs.Common.{◌≡◌, ◌≢◌, ◌⊎◌, inl, inr, Bool, true, false, cond, Option, Some, None, refl, ap, sym, ◌∙◌}
use Rattle.std.specs.declared.cmp.Ordering.{Ordering}
use Rattle.std.specs.declared.cmp.Ordering.TheVariants.{Less, Equal, Greater}
use Rattle.std.specs.Ordering.{is_eq, eq_by_cmp}
use Rattle.std.specs.Cmp.{IsTotalOrder, eq_by_cmp_equiv}
use Rattle.std.proofs.lemmas.Map.Lookups.{CmpEqualImpliesEq}
use Rattle.std.specs.FinMap.{FinMap, get, insert, remove, get-insert, get-remove, same_map}

module _ {K : Type 0} {R : K → K → Ordering} (o : IsTotalOrder R) (same : CmpEqualImpliesEq R) where
  apart_at : (a b : K) → (a ≢ b) → (r : Ordering) → R a b ≡ r → is_eq r ≡ false
  apart_at a b ne Less e = refl
  apart_at a b ne Equal e = absurd (ne (same a b e))
  apart_at a b ne Greater e = refl

  -- two keys that aren't one don't tie
  pub apart : (a b : K) → (a ≢ b) → eq_by_cmp R a b ≡ false
  apart a b ne = apart_at a b ne (R a b) refl

  -- a key compares as equal to itself
  pub alike : (a : K) → eq_by_cmp R a a ≡ true
  alike a = (eq_by_cmp_equiv o).refl a

  tied_at : (u v : K) (r : Ordering) → R u v ≡ r → is_eq r ≡ true → u ≡ v
  tied_at u v Less e t = cc
  tied_at u v Equal e t = same u v e
  tied_at u v Greater e t = cc

  -- keys that tie are one
  pub tied : (u v : K) → eq_by_cmp R u v ≡ true → u ≡ v
  tied u v t = tied_at u v (R u v) refl t

module _ {K X : Type 0} {R : K → K → Ordering} (o : IsTotalOrder R) (same : CmpEqualImpliesEq R) where
  -- a map has the inserted value at its key
  pub get-insert_same : (m : FinMap R X) (k : K) (x : X) → get (insert m k x) k ≡ Some x
  get-insert_same m k x = get-insert o m k x k ∙ ap (λ b. cond b (Some x) (get m k)) (alike o same k)

  -- an insertion leaves every other key
  pub get-insert_other : (m : FinMap R X) (k q : K) (x : X) → (q ≢ k) → get (insert m k x) q ≡ get m q
  get-insert_other m k q x ne = get-insert o m k x q ∙ ap (λ b. cond b (Some x) (get m q)) (apart o same q k ne)

  -- a removal leaves every other key
  pub get-remove_other : (m : FinMap R X) (k q : K) → (q ≢ k) → get (remove m k) q ≡ get m q
  get-remove_other m k q ne = get-remove o m k q ∙ ap (λ b. cond b None (get m q)) (apart o same q k ne)

  twice_at : (x y : X) (g : Option X) (b : Bool) → cond b (Some y) (cond b (Some x) g) ≡ cond b (Some y) g
  twice_at x y g true = refl
  twice_at x y g false = refl

  -- of two insertions at one key the later counts
  pub insert-insert_same : (m : FinMap R X) (k : K) (x y : X) → insert (insert m k x) k y ≡ insert m k y
  insert-insert_same m k x y = same_map o same _ _ (λ q.
      get-insert o _ k y q ∙ ap (cond (eq_by_cmp R q k) (Some y)) (get-insert o m k x q) ∙ twice_at x y (get m q) (eq_by_cmp R q k)
      ∙ sym (get-insert o m k y q))

  both_at : (x y : X) (g : Option X) (b c : Bool) → (b ≡ true → c ≡ true → ⊥) → cond c (Some y) (cond b (Some x) g) ≡ cond b (Some x) (cond c (Some y) g)
  both_at x y g true true h = absurd (h refl refl)
  both_at x y g true false h = refl
  both_at x y g false true h = refl
  both_at x y g false false h = refl

  -- insertions at two keys go in either order
  pub insert-insert_other : (m : FinMap R X) (a b : K) (x y : X) → (a ≢ b) → insert (insert m a x) b y ≡ insert (insert m b y) a x
  insert-insert_other m a b x y ne = same_map o same _ _ (λ q.
      get-insert o _ b y q ∙ ap (cond (eq_by_cmp R q b) (Some y)) (get-insert o m a x q)
      ∙ both_at x y (get m q) (eq_by_cmp R q a) (eq_by_cmp R q b) (λ p r. ne (sym (tied o same q a p) ∙ tied o same q b r))
      ∙ ap (cond (eq_by_cmp R q a) (Some x)) (sym (get-insert o m b y q)) ∙ sym (get-insert o _ a x q))

  -- what an insertion leaves at a key: the new value at its own, the old one elsewhere
  cases_at : (m : FinMap R X) (k q : K) (x : X) (b : Bool) → eq_by_cmp R q k ≡ b
      → ((q ≡ k) × (get (insert m k x) q ≡ Some x)) ⊎ (get (insert m k x) q ≡ get m q)
  cases_at m k q x true e = inl (tied o same q k e, get-insert o m k x q ∙ ap (λ b. cond b (Some x) (get m q)) e)
  cases_at m k q x false e = inr (get-insert o m k x q ∙ ap (λ b. cond b (Some x) (get m q)) e)

  -- an insertion leaves the new value at its own key, and the old one elsewhere
  pub get-insert_cases : (m : FinMap R X) (k q : K) (x : X) → ((q ≡ k) × (get (insert m k x) q ≡ Some x)) ⊎ (get (insert m k x) q ≡ get m q)
  get-insert_cases m k q x = cases_at m k q x (eq_by_cmp R q k) refl

  back_at : (m : FinMap R X) (k q : K) (x : X) (g : Option X) → get m k ≡ Some x → (b : Bool) → eq_by_cmp R q k ≡ b
      → (b ≡ false → g ≡ get m q) → cond b (Some x) g ≡ get m q
  back_at m k q x g there true e h = sym there ∙ ap (get m) (sym (tied o same q k e))
  back_at m k q x g there false e h = h refl

  -- what a key has is put there
  pub insert-get_same : (m : FinMap R X) (k : K) (x : X) → get m k ≡ Some x → insert m k x ≡ m
  insert-get_same m k x there = same_map o same _ _ (λ q.
      get-insert o m k x q ∙ back_at m k q x (get m q) there (eq_by_cmp R q k) refl (λ _. refl))

  -- what a key had before its removal is put there
  pub insert-remove_same : (m : FinMap R X) (k : K) (x : X) → get m k ≡ Some x → insert (remove m k) k x ≡ m
  insert-remove_same m k x there = same_map o same _ _ (λ q.
      get-insert o (remove m k) k x q
      ∙ back_at m k q x (get (remove m k) q) there (eq_by_cmp R q k) refl (λ no. get-remove o m k q ∙ ap (λ b. cond b None (get m q)) no))
