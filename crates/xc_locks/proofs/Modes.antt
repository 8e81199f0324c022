-- What a change of the table at one object does to the modes.
use Rattle.std.proofs.Common.{◌≡◌, ◌≢◌, ℕ, Bool, true, false, cond, Option, Some, None, Result, Ok, Err, OnOk, OnErr, IsSome, is_some, refl, ap, sym, ◌∙◌}
use Rattle.std.specs.declared.cmp.Ordering.{Ordering}
use Rattle.std.specs.Cmp.{IsTotalOrder}
use Rattle.std.specs.FinMap as map
use Rattle.std.proofs.lemmas.Map.Lookups.{CmpEqualImpliesEq}
use Rattle.xc_data.specs.declared.object.Object.{Object}
use Rattle.xc_data.specs.declared.claim.Mode.{Mode}
use Rattle.xc_data.specs.Claims.{is_object}
use Rattle.xc_maps.proofs.Laws as laws
use Rattle.xc_locks.specs.declared.key.LockKey.{LockKey}
use Rattle.xc_locks.specs.declared.key.LockKey.TheVariants as kind
use Rattle.xc_locks.specs.Keys.{WordHolder, Holder, kind_of, holder_of, holder_cmp, word_holder, word_holder_cmp}
use Rattle.xc_locks.specs.Table.{Table, mode_at, held_mode, set_entry, set_at, set_mode}
use Rattle.xc_locks.proofs.Orders.{holder_total, holder_exact, word_holder_total, word_holder_exact}
use Rattle.xc_locks.proofs.Orders.{object_of, kind_of-object_of, kind_of-same}
use Rattle.xc_data.proofs.Laws.{same_object, other_object}

-- what holds anyway holds on an error
pub on_err : {A B P : Type 0} (r : Result A B) → P → OnErr r P
on_err (Ok x) p = tt
on_err (Err e) p = p

-- what fails only where nothing is does not fail where something is
pub ok_there : {A E X : Type 0} {P : Type 0} (old : Option X) (r : Result A E) → IsSome old → OnOk r P → OnErr r (old ≡ None) → P
ok_there old (Ok x) there ok absent = ok
ok_there old (Err e) there ok absent =
    let clash : false ≡ true = sym (ap is_some absent) ∙ there in
    absurd (cc)

-- what isn't there is nothing
pub none_there : {X : Type 0} (o : Option X) → is_some o ≡ false → o ≡ None
none_there None e = refl
none_there (Some x) e = absurd (cc)

-- tables with the same modes are the same
pub same_table : (s t : Table) → ((n : ℕ) (o : Object) → held_mode s n o ≡ held_mode t n o) → s ≡ t
same_table s t same =
    let words = map.same_map word_holder_total word_holder_exact s.words t.words (λ h. at_kind h.1 (kind.Word h.0)) in
    let others = map.same_map holder_total holder_exact s.others t.others (λ h. at_kind h.1 (kind.Other h.0)) in
    λ i. record { words = words i; others = others i }
  where
    at_kind : (n : ℕ) (k : LockKey) → mode_at s n k ≡ mode_at t n k
    at_kind n k = sym (ap (mode_at s n) (kind_of-object_of k)) ∙ same n (object_of k) ∙ ap (mode_at t n) (kind_of-object_of k)

empty_at : (t : Table) (n : ℕ) (k : LockKey) → t.words ≡ map.empty → t.others ≡ map.empty → mode_at t n k ≡ None
empty_at t n (kind.Word at) w o =
    ap (λ (m : map.FinMap word_holder_cmp Mode). map.get m (word_holder at n)) w ∙ map.get-empty word_holder_cmp (word_holder at n)
empty_at t n (kind.Other p) w o =
    ap (λ (m : map.FinMap holder_cmp Mode). map.get m (holder_of p n)) o ∙ map.get-empty holder_cmp (holder_of p n)

-- nobody holds anything in an empty table
pub mode_of-empty : (t : Table) (n : ℕ) (o : Object) → t.words ≡ map.empty → t.others ≡ map.empty → held_mode t n o ≡ None
mode_of-empty t n o words others = empty_at t n (kind_of o) words others

-- ---- one entry of a map
module _ {K : Type 0} {R : K → K → Ordering} (total : IsTotalOrder R) (exact : CmpEqualImpliesEq R) (m : map.FinMap R Mode) where
  entry_there : (k : K) (mode : Option Mode) → map.get (set_entry m k mode) k ≡ mode
  entry_there k (Some x) = laws.get-insert_same total exact m k x
  entry_there k None = map.get-remove total m k k ∙ ap (λ b. cond b None (map.get m k)) (laws.alike total exact k)

  entry_elsewhere : (k q : K) (mode : Option Mode) → q ≢ k → map.get (set_entry m k mode) q ≡ map.get m q
  entry_elsewhere k q (Some x) ne = laws.get-insert_other total exact m k q x ne
  entry_elsewhere k q None ne = laws.get-remove_other total exact m k q ne

-- ---- the mode for a word or another object
at_there : (t : Table) (k : LockKey) (tx : ℕ) (m : Option Mode) → mode_at (set_at t tx k m) tx k ≡ m
at_there t (kind.Word at) tx m = entry_there word_holder_total word_holder_exact t.words (word_holder at tx) m
at_there t (kind.Other o) tx m = entry_there holder_total holder_exact t.others (holder_of o tx) m

at_elsewhere : (t : Table) (k q : LockKey) (tx n : ℕ) (m : Option Mode) → (q ≡ k → n ≡ tx → ⊥) → mode_at (set_at t tx k m) n q ≡ mode_at t n q
at_elsewhere t (kind.Word a) (kind.Word b) tx n m ne =
    entry_elsewhere word_holder_total word_holder_exact t.words (word_holder a tx) (word_holder b n) m
    (λ e. ne (ap (λ (h : WordHolder). kind.Word h.0) e) (ap (λ (h : WordHolder). h.1) e))
at_elsewhere t (kind.Other a) (kind.Other b) tx n m ne =
    entry_elsewhere holder_total holder_exact t.others (holder_of a tx) (holder_of b n) m
    (λ e. ne (ap (λ (h : Holder). kind.Other h.0) e) (ap (λ (h : Holder). h.1) e))
at_elsewhere t (kind.Word a) (kind.Other b) tx n m ne = refl
at_elsewhere t (kind.Other a) (kind.Word b) tx n m ne = refl

-- ---- the mode of an object
-- others stay
pub mode_of-set_other : (t : Table) (p o : Object) (tx n : ℕ) (m : Option Mode) → n ≢ tx → held_mode (set_mode t tx p m) n o ≡ held_mode t n o
mode_of-set_other t p o tx n m ne = at_elsewhere t (kind_of p) (kind_of o) tx n m (λ _ e. ne e)

by_object : (t : Table) (p o : Object) (tx : ℕ) (m : Option Mode) (b : Bool) → is_object p o ≡ b
    → held_mode (set_mode t tx p m) tx o ≡ cond b m (held_mode t tx o)
by_object t p o tx m true e = ap (held_mode (set_mode t tx p m) tx) (sym (same_object p o e)) ∙ at_there t (kind_of p) tx m
by_object t p o tx m false e = at_elsewhere t (kind_of p) (kind_of o) tx tx m (λ same _. other_object p o e (kind_of-same p o (sym same)))

-- the object has the mode, and the transaction's other objects stay
pub mode_of-set : (t : Table) (p o : Object) (tx : ℕ) (m : Option Mode)
    → held_mode (set_mode t tx p m) tx o ≡ cond (is_object p o) m (held_mode t tx o)
mode_of-set t p o tx m = by_object t p o tx m (is_object p o) refl
