-- What is so of a value in one of its cases.
use Rattle.std.proofs.Common.{◌≡◌, Bool, true, false, Option, Some, None, refl, subst}
use Rattle.std.specs.Prelude.{MatchBool, MatchOption, MatchResult, Result, Ok, Err}

-- what is found is so
pub found_some : {X : Type 0} (o : Option X) (x : X) (P : Type 0) (Q : X → Type 0) → o ≡ Some x → MatchOption o P Q → Q x
found_some o x P Q is found = subst (λ z. MatchOption z P Q) is found

-- where nothing is found that is so
pub found_nothing : {X : Type 0} (o : Option X) (P : Type 0) (Q : X → Type 0) → o ≡ None → MatchOption o P Q → P
found_nothing o P Q is found = subst (λ z. MatchOption z P Q) is found

-- the same where no value is found
pub found_none : {X : Type 0} (o : Option X) (P : Type 0) (Q : X → Type 0) → ((x : X) → o ≡ Some x → ⊥) → MatchOption o P Q → P
found_none None P Q none found = found
found_none (Some x) P Q none found = absurd (none x refl)

-- what a test says where it is true
pub tested_true : (b : Bool) (P Q : Type 0) → b ≡ true → MatchBool b P Q → P
tested_true b P Q is so = subst (λ z. MatchBool z P Q) is so

-- what it says where it is false
pub tested_false : (b : Bool) (P Q : Type 0) → b ≡ false → MatchBool b P Q → Q
tested_false b P Q is so = subst (λ z. MatchBool z P Q) is so

-- what a result has is so
pub found_ok : {X E : Type 0} (r : Result X E) (x : X) (P : X → Type 0) (Q : E → Type 0) → r ≡ Ok x → MatchResult r P Q → P x
found_ok r x P Q is found = subst (λ z. MatchResult z P Q) is found

-- and what its error has
pub found_err : {X E : Type 0} (r : Result X E) (e : E) (P : X → Type 0) (Q : E → Type 0) → r ≡ Err e → MatchResult r P Q → Q e
found_err r e P Q is found = subst (λ z. MatchResult z P Q) is found
