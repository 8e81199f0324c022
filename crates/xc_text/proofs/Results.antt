-- What holds of results.
use Rattle.std.proofs.Common.{Result, Ok, Err, IfOk}
use Rattle.xc_tokens.specs.Answers.{and_then, seen}

-- what holds of all holds of a result
pub for_any : {A E : Type 0} (P : A → Type 0) (a : Result A E) → ((x : A) → P x) → IfOk a P
for_any P (Ok x) h = h x
for_any P (Err e) h = tt

-- what follows of a result of which P holds
pub then_keeps : {A B E : Type 0} (P : A → Type 0) (Q : B → Type 0) (a : Result A E) (f : A → Result B E) →
    IfOk a P → ((x : A) → P x → IfOk (f x) Q) → IfOk (and_then a f) Q
then_keeps P Q (Ok x) f h g = g x h
then_keeps P Q (Err e) f h g = tt

-- a result of which P holds, as it is seen
pub seen_keeps : {A B E : Type 0} (P : A → Type 0) (Q : B → Type 0) (f : A → B) (a : Result A E) →
    IfOk a P → ((x : A) → P x → Q (f x)) → IfOk (seen f a) Q
seen_keeps P Q f (Ok x) h g = g x h
seen_keeps P Q f (Err e) h g = tt
