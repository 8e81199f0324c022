-- Objects that the test of equality tells apart or not.
use Rattle.std.proofs.Common.{◌≡◌, ◌≢◌, true, false, refl, ap, sym, ◌∙◌, subst, arith}
use Rattle.std.specs.Cmp.Lexicographic.{same_text}
use Rattle.std.proofs.lemmas.Cmp.{nat_list_eq_equiv}
use Rattle.xc_data.specs.declared.object.Num.{Num}
use Rattle.xc_data.specs.declared.object.Object.{Object}
use Rattle.xc_data.specs.declared.object.Object.TheVariants as object
use Rattle.xc_data.specs.Claims.{is_object}

same_num : (n m : Num) → is_object (object.File n) (object.File m) ≡ true → n ≡ m
same_num n m e = grind arith

-- objects that the test calls equal are the same
pub same_object : (a b : Object) → is_object a b ≡ true → a ≡ b
same_object (object.Word i) (object.Word j) e = grind arith
same_object (object.Name n) (object.Name m) e = ap object.Name (same_text n m (sym e))
same_object (object.File n) (object.File m) e = ap object.File (same_num n m e)
same_object (object.Pipe n) (object.Pipe m) e = ap object.Pipe (same_num n m e)
same_object (object.Pair n) (object.Pair m) e = ap object.Pair (same_num n m e)
same_object object.Jobs object.Jobs e = refl
same_object a b e = cc

itself_num : (n : Num) → is_object (object.File n) (object.File n) ≡ true
itself_num n = grind arith

-- the test calls an object equal to itself
pub itself : (o : Object) → is_object o o ≡ true
itself (object.Word i) = grind arith
itself (object.Name n) = nat_list_eq_equiv.refl n
itself (object.File n) = itself_num n
itself (object.Pipe n) = itself_num n
itself (object.Pair n) = itself_num n
itself object.Jobs = refl

-- objects that the test tells apart differ
pub other_object : (a b : Object) → is_object a b ≡ false → a ≢ b
other_object a b e same =
    let yes : is_object a b ≡ true = subst (λ x. is_object a x ≡ true) same (itself a) in
    let clash = sym yes ∙ e in
    absurd (cc)
