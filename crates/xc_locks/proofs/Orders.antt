-- The orders of holders, and what kinds and objects have to do with each other.
use Rattle.std.proofs.Common.{◌≡◌, ◌≢◌, true, false, refl, ap, sym, ◌∙◌, subst, arith}
use Rattle.std.specs.Ordering.{nat_cmp}
use Rattle.std.specs.Cmp.{IsTotalOrder}
use Rattle.std.specs.Cmp.Lexicographic.{same_text}
use Rattle.std.proofs.lemmas.Cmp.{nat_list_eq_equiv, nat_cmp_total, on_total, then_total}
use Rattle.std.proofs.lemmas.Map.Lookups.{CmpEqualImpliesEq, exact_bytes, exact_unsigned, exact_pairs}
use Rattle.xc_data.specs.declared.object.Num.{Num}
use Rattle.xc_data.specs.declared.object.Object.{Object}
use Rattle.xc_data.specs.declared.object.Object.TheVariants as object
use Rattle.xc_maps.proofs.Laws.{num_exact}
use Rattle.xc_locks.specs.declared.key.LockKey.{LockKey}
use Rattle.xc_locks.specs.declared.key.LockKey.TheVariants as kind
use Rattle.xc_locks.specs.declared.key.Other.{Other}
use Rattle.xc_locks.specs.declared.key.Other.TheVariants as other
use Rattle.xc_locks.specs.contracts.key.OtherOrd.TheImpl.Laws as other_laws
use Rattle.xc_locks.specs.Keys.{kind_of, other_cmp, holder_cmp, word_holder_cmp}
use Rattle.xc_locks.specs.Hashed.{is_other}

-- ---- objects
-- ---- kinds
-- the object of a kind
pub object_of : LockKey → Object
object_of (kind.Word at) = object.Word at
object_of (kind.Other (other.Name name)) = object.Name name
object_of (kind.Other (other.File num)) = object.File num
object_of (kind.Other (other.Pipe num)) = object.Pipe num
object_of (kind.Other (other.Pair num)) = object.Pair num
object_of (kind.Other other.Jobs) = object.Jobs

object_of-kind_of : (o : Object) → object_of (kind_of o) ≡ o
unfolding object_of
object_of-kind_of (object.Word at) = refl
object_of-kind_of (object.Name name) = refl
object_of-kind_of (object.File num) = refl
object_of-kind_of (object.Pipe num) = refl
object_of-kind_of (object.Pair num) = refl
object_of-kind_of object.Jobs = refl

-- each kind is that of its object
pub kind_of-object_of : (k : LockKey) → kind_of (object_of k) ≡ k
unfolding object_of
kind_of-object_of (kind.Word at) = refl
kind_of-object_of (kind.Other (other.Name name)) = refl
kind_of-object_of (kind.Other (other.File num)) = refl
kind_of-object_of (kind.Other (other.Pipe num)) = refl
kind_of-object_of (kind.Other (other.Pair num)) = refl
kind_of-object_of (kind.Other other.Jobs) = refl

-- two objects differ as words or others too
pub kind_of-same : (a b : Object) → kind_of a ≡ kind_of b → a ≡ b
kind_of-same a b e = sym (object_of-kind_of a) ∙ ap object_of e ∙ object_of-kind_of b

-- ---- the orders
-- the order of objects that aren't words is total
pub other_total : IsTotalOrder other_cmp
other_total = other_laws.total-law

-- the order of the holders of words is total
pub word_holder_total : IsTotalOrder word_holder_cmp
word_holder_total = then_total (on_total (λ h. h.0) nat_cmp_total) (on_total (λ h. h.1) nat_cmp_total)

-- the order of the other holders is total
pub holder_total : IsTotalOrder holder_cmp
holder_total = then_total (on_total (λ h. h.0) other_total) (on_total (λ h. h.1) nat_cmp_total)

-- objects that compare as equal are the same
pub other_exact : CmpEqualImpliesEq other_cmp
other_exact (other.Name a) (other.Name b) e = ap other.Name (exact_bytes a b e)
other_exact (other.File a) (other.File b) e = ap other.File (num_exact a b e)
other_exact (other.Pipe a) (other.Pipe b) e = ap other.Pipe (num_exact a b e)
other_exact (other.Pair a) (other.Pair b) e = ap other.Pair (num_exact a b e)
other_exact other.Jobs other.Jobs e = refl
other_exact _ _ e = cc

-- holders of words that compare as equal are the same
pub word_holder_exact : CmpEqualImpliesEq word_holder_cmp
word_holder_exact = exact_pairs nat_cmp nat_cmp exact_unsigned exact_unsigned

-- other holders that compare as equal are the same
pub holder_exact : CmpEqualImpliesEq holder_cmp
holder_exact = exact_pairs other_cmp nat_cmp other_exact exact_unsigned

-- ---- objects that aren't words and are told apart
same_file : (n m : Num) → is_other (other.File n) (other.File m) ≡ true → n ≡ m
same_file n m e = grind arith

-- those that the test calls equal are the same
pub same_other : (a b : Other) → is_other a b ≡ true → a ≡ b
same_other (other.Name n) (other.Name m) e = ap other.Name (same_text n m (sym e))
same_other (other.File n) (other.File m) e = ap other.File (same_file n m e)
same_other (other.Pipe n) (other.Pipe m) e = ap other.Pipe (same_file n m e)
same_other (other.Pair n) (other.Pair m) e = ap other.Pair (same_file n m e)
same_other other.Jobs other.Jobs e = refl
same_other a b e = cc

file_itself : (n : Num) → is_other (other.File n) (other.File n) ≡ true
file_itself n = grind arith

-- the test calls one equal to itself
pub other_itself : (o : Other) → is_other o o ≡ true
other_itself (other.Name n) = nat_list_eq_equiv.refl n
other_itself (other.File n) = file_itself n
other_itself (other.Pipe n) = file_itself n
other_itself (other.Pair n) = file_itself n
other_itself other.Jobs = refl

-- those that the test tells apart differ
pub others_apart : (a b : Other) → is_other a b ≡ false → a ≢ b
others_apart a b e same =
    let yes : is_other a b ≡ true = subst (λ x. is_other a x ≡ true) same (other_itself a) in
    let clash = sym yes ∙ e in
    absurd (cc)
