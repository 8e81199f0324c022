-- Keys of which one stands beside the others.
use Rattle.std.proofs.Common.{◌≡◌, ◌≢◌, ℕ, Bool, true, false, cond, Option, Some, None, Result, Ok, Err, OnOk, refl, ap, sym, ◌∙◌}
use Rattle.std.specs.Ordering.{nat_cmp, eq_by_cmp}
use Rattle.std.proofs.lemmas.Cmp.{nat_cmp_total}
use Rattle.std.proofs.lemmas.Map.Lookups.{exact_unsigned}
use Rattle.std.specs.FinMap.{FinMap, get, insert, remove, get-insert, get-remove, same_map}
use Rattle.xc_maps.proofs.Laws.{get-insert_same, get-insert_other, insert-insert_same, insert-insert_other, tied}
use Rattle.xc_sentinel.specs.Keys.{with_key}

abbrev Keys : Type 0
Keys = FinMap nat_cmp ℕ

gone : (x : ℕ) (g : Option ℕ) (b : Bool) → cond b None (cond b (Some x) g) ≡ cond b None g
gone x g true = refl
gone x g false = refl

-- an insertion is taken back by a removal of its key
remove-insert_same : (m : Keys) (k x : ℕ) → remove (insert m k x) k ≡ remove m k
remove-insert_same m k x = same_map nat_cmp_total exact_unsigned _ _ (λ q.
    get-remove nat_cmp_total _ k q ∙ ap (cond (eq_by_cmp nat_cmp q k) None) (get-insert nat_cmp_total m k x q)
    ∙ gone x (get m q) (eq_by_cmp nat_cmp q k) ∙ sym (get-remove nat_cmp_total m k q))

either : (x : ℕ) (g : Option ℕ) (a b : Bool) → (a ≡ true → b ≡ true → ⊥) → cond b None (cond a (Some x) g) ≡ cond a (Some x) (cond b None g)
either x g true true h = absurd (h refl refl)
either x g true false h = refl
either x g false true h = refl
either x g false false h = refl

-- an insertion and a removal of another key go in either order
remove-insert_other : (m : Keys) (a b x : ℕ) → (a ≢ b) → remove (insert m a x) b ≡ insert (remove m b) a x
remove-insert_other m a b x ne = same_map nat_cmp_total exact_unsigned _ _ (λ q.
    get-remove nat_cmp_total _ b q ∙ ap (cond (eq_by_cmp nat_cmp q b) None) (get-insert nat_cmp_total m a x q)
    ∙ either x (get m q) (eq_by_cmp nat_cmp q a) (eq_by_cmp nat_cmp q b)
    (λ p r. ne (sym (tied nat_cmp_total exact_unsigned q a p) ∙ tied nat_cmp_total exact_unsigned q b r))
    ∙ ap (cond (eq_by_cmp nat_cmp q a) (Some x)) (sym (get-remove nat_cmp_total m b q)) ∙ sym (get-insert nat_cmp_total _ a x q))

-- the key of the one that stands beside
pub get_key_beside : (m : Keys) (o : Option (ℕ × ℕ)) (n k q : ℕ) → o ≡ Some (n, k) → n ≡ q → get (with_key o m) q ≡ Some k
get_key_beside m o n k q is same =
    ap (λ e. get (with_key e m) q) is ∙ ap (get (insert m n k)) (sym same) ∙ get-insert_same nat_cmp_total exact_unsigned m n k

-- and of another
pub get_other : (m : Keys) (o : Option (ℕ × ℕ)) (n k q : ℕ) → o ≡ Some (n, k) → (n ≢ q) → get (with_key o m) q ≡ get m q
get_other m o n k q is other =
    ap (λ e. get (with_key e m) q) is ∙ get-insert_other nat_cmp_total exact_unsigned m n q k (λ e. other (sym e))

-- the one beside becomes another of its number
pub put_beside : (m : Keys) (o : Option (ℕ × ℕ)) (n k q x : ℕ) → o ≡ Some (n, k) → n ≡ q
    → insert m q x ≡ insert (with_key o m) q x
put_beside m o n k q x is same =
    sym (ap (λ e. insert (with_key e m) q x) is ∙ ap (λ a. insert (insert m a k) q x) same
    ∙ insert-insert_same nat_cmp_total exact_unsigned m q k x)

-- another is put to the rest
put_other : (m : Keys) (o : Option (ℕ × ℕ)) (n k q x : ℕ) → o ≡ Some (n, k) → (n ≢ q)
    → with_key o (insert m q x) ≡ insert (with_key o m) q x
put_other m o n k q x is other =
    ap (λ e. with_key e (insert m q x)) is
    ∙ sym (insert-insert_other nat_cmp_total exact_unsigned m n q k x other)
    ∙ sym (ap (λ e. insert (with_key e m) q x) is)

-- where there was memory for it
pub put_other_ok : {A E : Type 0} (r : Result A E) (m m' was : Keys) (o : Option (ℕ × ℕ)) (n k q x : ℕ) → o ≡ Some (n, k) → (n ≢ q)
    → with_key o m ≡ was → OnOk r (m' ≡ insert m q x) → OnOk r (with_key o m' ≡ insert was q x)
put_other_ok (Ok a) m m' was o n k q x is other view put =
    ap (with_key o) put ∙ put_other m o n k q x is other ∙ ap (λ v. insert v q x) view
put_other_ok (Err e) m m' was o n k q x is other view put = put

-- the one beside goes
pub take_beside : (m : Keys) (o : Option (ℕ × ℕ)) (n k q : ℕ) → o ≡ Some (n, k) → n ≡ q → remove m q ≡ remove (with_key o m) q
take_beside m o n k q is same =
    sym (ap (λ e. remove (with_key e m) q) is ∙ ap (λ a. remove (insert m a k) q) same ∙ remove-insert_same m q k)

-- another goes
pub take_other : (m : Keys) (o : Option (ℕ × ℕ)) (n k q : ℕ) → o ≡ Some (n, k) → (n ≢ q)
    → with_key o (remove m q) ≡ remove (with_key o m) q
take_other m o n k q is other =
    ap (λ e. with_key e (remove m q)) is ∙ sym (remove-insert_other m n q k other) ∙ sym (ap (λ e. remove (with_key e m) q) is)
