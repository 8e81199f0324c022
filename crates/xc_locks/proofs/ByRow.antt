-- What the rows of objects that aren't words say of the finite map that contracts see.
use Rattle.std.proofs.Common.{◌≡◌, ℕ, Bool, true, false, cond, Option, Some, None, List, [], ◌∷◌, refl, ap, sym, ◌∙◌, subst}
use Rattle.std.specs.Ordering.{nat_cmp, ordering_then, is_eq, eq_by_cmp}
use Rattle.std.specs.Cmp.{nat_cmp_total, tied_itself, eq_by_cmp_equiv}
use Rattle.std.specs.BTreeMap.{is_at}
use Rattle.std.specs.List.{AllByRecursion, IsDistinct}
use Rattle.std.specs.Map.{lookup, keys_of}
use Rattle.std.specs.FinMap as map
use Rattle.xc_data.specs.declared.claim.Mode.{Mode}
use Rattle.xc_maps.proofs.Laws.{get-lookup}
use Rattle.xc_locks.specs.declared.key.Other.{Other}
use Rattle.xc_locks.specs.Keys.{holder_of, other_cmp, holder_cmp}
use Rattle.xc_locks.specs.Rows.{mode_among, with_mode}
use Rattle.xc_locks.specs.Hashed.{Row, is_other, HaveOwnObjects, laid_out, others_of}
use Rattle.xc_locks.proofs.Orders.{other_total, other_exact, holder_total, holder_exact, same_other, others_apart}
use Rattle.xc_locks.proofs.Rows.{found_in, held_in, own, passed, two_objects}

-- the holders of an object, in its row
abbrev pub row_of : List Row → Other → Option (List (ℕ × Mode))
row_of rows o = lookup (is_other o) rows

-- ---- one entry of the map is one of the object's row
-- an object that is of none of these rows has no row
absent : (o : Other) (rows : List Row) → AllByRecursion (λ p. is_other o p ≡ false) (keys_of rows) → row_of rows o ≡ None
absent o [] all = refl
absent o (r ∷ rs) all = ap (λ b. cond b (Some r.1) (row_of rs o)) all.0 ∙ absent o rs all.1

-- nothing is found of an object without a row
nothing : (o : Other) (n : ℕ) (rows : List Row) → AllByRecursion (λ p. is_other o p ≡ false) (keys_of rows) → found_in other_cmp o n (laid_out rows) ≡ None
nothing o n [] all = refl
nothing o n (r ∷ rs) all =
    passed other_cmp other_exact o r.0 n r.1 (laid_out rs) (others_apart o r.0 all.0) ∙ nothing o n rs all.1

-- what is found of an object is in its row
placed : (o : Other) (n : ℕ) (rows : List Row) → HaveOwnObjects rows → found_in other_cmp o n (laid_out rows) ≡ held_in (row_of rows o) n
unfolding IsDistinct
placed o n [] apart = refl
placed o n (r ∷ rs) apart = by (is_other o r.0) refl (placed o n rs apart.1)
  where
    by : (b : Bool) → is_other o r.0 ≡ b → found_in other_cmp o n (laid_out rs) ≡ held_in (row_of rs o) n
        → found_in other_cmp o n (laid_out (r ∷ rs)) ≡ held_in (cond b (Some r.1) (row_of rs o)) n
    by true e rest =
        let same : r.0 ≡ o = sym (same_other o r.0 e) in
        let none = subst (λ p. AllByRecursion (λ q. is_other p q ≡ false) (keys_of rs)) same apart.0 in
        ap (λ p. found_in other_cmp o n (laid_out ((p, r.1) ∷ rs))) same ∙ own other_cmp other_total o n r.1 (laid_out rs) (nothing o n rs none)
    by false e rest = passed other_cmp other_exact o r.0 n r.1 (laid_out rs) (others_apart o r.0 e) ∙ rest

-- the finite map has at a holder what the object's row has at the transaction
pub get-others_of : (rows : List Row) (o : Other) (n : ℕ) → HaveOwnObjects rows → map.get (others_of rows) (holder_of o n) ≡ held_in (row_of rows o) n
get-others_of rows o n apart = get-lookup holder_total (laid_out rows) (holder_of o n) ∙ placed o n rows apart

-- rows that say the same of each holder are seen as that map
pub seen_as : (rows : List Row) (t : map.FinMap holder_cmp Mode) → HaveOwnObjects rows
    → ((o : Other) (n : ℕ) → held_in (row_of rows o) n ≡ map.get t (holder_of o n)) → others_of rows ≡ t
seen_as rows t apart same =
    map.same_map holder_total holder_exact (others_of rows) t (λ q. get-others_of rows q.0 q.1 apart ∙ same q.0 q.1)

-- ---- one row changes, at one transaction
module _ (rows rows' : List Row) (k : Other) (tx : ℕ) (w : Option (List (ℕ × Mode))) (x : Option Mode)
    (changes : (o : Other) → row_of rows' o ≡ cond (is_other k o) w (row_of rows o))
    (at : (n : ℕ) → held_in w n ≡ cond (is_at (nat_cmp tx) n) x (held_in (row_of rows k) n)) where
  -- the object's holders differ at the transaction
  here : (n : ℕ) → held_in w n ≡ cond (eq_by_cmp holder_cmp (holder_of k n) (holder_of k tx)) x (held_in (row_of rows k) n)
  here n =
      at n ∙ ap (λ b. cond b x (held_in (row_of rows k) n)) ((eq_by_cmp_equiv nat_cmp_total).symm tx n)
      ∙ ap (λ r. cond (is_eq (ordering_then r (nat_cmp n tx))) x (held_in (row_of rows k) n)) (sym (tied_itself other_total k))

  -- all holders differ there alone
  pub one_changed : (o : Other) (n : ℕ)
      → held_in (row_of rows' o) n ≡ cond (eq_by_cmp holder_cmp (holder_of o n) (holder_of k tx)) x (held_in (row_of rows o) n)
  one_changed o n = by (is_other k o) refl
    where
      by : (b : Bool) → is_other k o ≡ b
          → held_in (row_of rows' o) n ≡ cond (eq_by_cmp holder_cmp (holder_of o n) (holder_of k tx)) x (held_in (row_of rows o) n)
      by true e =
          ap (λ m. held_in m n) (changes o ∙ ap (λ b. cond b w (row_of rows o)) e)
          ∙ subst (λ p. held_in w n ≡ cond (eq_by_cmp holder_cmp (holder_of p n) (holder_of k tx)) x (held_in (row_of rows p) n)) (same_other k o e) (here n)
      by false e =
          ap (λ m. held_in m n) (changes o ∙ ap (λ b. cond b w (row_of rows o)) e)
          ∙ ap (λ b. cond b x (held_in (row_of rows o) n))
          (sym (two_objects other_cmp other_exact o k (other_cmp o k) (nat_cmp n tx) refl (λ same. others_apart k o e (sym same))))

module _ (rows : List Row) (t : map.FinMap holder_cmp Mode) (is : others_of rows ≡ t) (apart : HaveOwnObjects rows) where
  -- the row of an object has its holders
  pub got : (o : Other) (n : ℕ) → held_in (row_of rows o) n ≡ map.get t (holder_of o n)
  got o n = sym (get-others_of rows o n apart) ∙ ap (λ s. map.get s (holder_of o n)) is

  -- nobody holds an object without a row
  pub lacks : (o : Other) → None ≡ row_of rows o → (n : ℕ) → map.get t (holder_of o n) ≡ None
  lacks o none n = sym (got o n) ∙ ap (λ m. held_in m n) (sym none)

module _ (rows rows' : List Row) (t : map.FinMap holder_cmp Mode) (is : others_of rows ≡ t) (apart : HaveOwnObjects rows) (apart' : HaveOwnObjects rows')
    (k : Other) (w : Option (List (ℕ × Mode)))
    (changes : (o : Other) → row_of rows' o ≡ cond (is_other k o) w (row_of rows o)) where
  -- it has the same holders
  pub put_same : ((n : ℕ) → held_in w n ≡ held_in (row_of rows k) n) → others_of rows' ≡ t
  put_same at = seen_as rows' t apart' (λ o n. by o n (is_other k o) refl ∙ got rows t is apart o n)
    where
      by : (o : Other) (n : ℕ) (b : Bool) → is_other k o ≡ b → held_in (row_of rows' o) n ≡ held_in (row_of rows o) n
      by o n true e =
          ap (λ m. held_in m n) (changes o ∙ ap (λ b. cond b w (row_of rows o)) e) ∙ at n
          ∙ ap (λ p. held_in (row_of rows p) n) (same_other k o e)
      by o n false e = ap (λ m. held_in m n) (changes o ∙ ap (λ b. cond b w (row_of rows o)) e)

  -- it gets a mode
  put_mode : (tx : ℕ) (mode : Mode) → ((n : ℕ) → held_in w n ≡ cond (is_at (nat_cmp tx) n) (Some mode) (held_in (row_of rows k) n))
      → others_of rows' ≡ map.insert t (holder_of k tx) mode
  put_mode tx mode at =
      seen_as rows' (map.insert t (holder_of k tx) mode) apart' (λ o n.
      one_changed rows rows' k tx w (Some mode) changes at o n
      ∙ ap (cond (eq_by_cmp holder_cmp (holder_of o n) (holder_of k tx)) (Some mode)) (got rows t is apart o n)
      ∙ sym (map.get-insert holder_total t (holder_of k tx) mode (holder_of o n)))

  -- or the stronger one
  pub put_raised : (tx : ℕ) (mode : Mode)
      → ((n : ℕ) → held_in w n ≡ cond (is_at (nat_cmp tx) n) (Some (with_mode (held_in (row_of rows k) tx) mode)) (held_in (row_of rows k) n))
      → others_of rows' ≡ map.insert t (holder_of k tx) (with_mode (map.get t (holder_of k tx)) mode)
  put_raised tx mode at =
      put_mode tx (with_mode (held_in (row_of rows k) tx) mode) at
      ∙ ap (λ was. map.insert t (holder_of k tx) (with_mode was mode)) (got rows t is apart k tx)

  -- or has none any longer
  pub put_none : (tx : ℕ) → ((n : ℕ) → held_in w n ≡ cond (is_at (nat_cmp tx) n) None (held_in (row_of rows k) n))
      → others_of rows' ≡ map.remove t (holder_of k tx)
  put_none tx at =
      seen_as rows' (map.remove t (holder_of k tx)) apart' (λ o n.
      one_changed rows rows' k tx w None changes at o n
      ∙ ap (cond (eq_by_cmp holder_cmp (holder_of o n) (holder_of k tx)) None) (got rows t is apart o n)
      ∙ sym (map.get-remove holder_total t (holder_of k tx) (holder_of o n)))

  -- the transaction is taken out of the row that was there
  pub taken : (tx : ℕ) (was : List (ℕ × Mode)) → Some was ≡ row_of rows k
      → ((n : ℕ) → held_in w n ≡ cond (is_at (nat_cmp tx) n) None (mode_among was n)) → others_of rows' ≡ map.remove t (holder_of k tx)
  taken tx was there at = put_none tx (λ n. at n ∙ ap (λ m. cond (is_at (nat_cmp tx) n) None (held_in m n)) there)
