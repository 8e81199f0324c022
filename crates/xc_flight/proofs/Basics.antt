-- What a transaction has and owns: decisions, and how claims grow.
use Rattle.std.proofs.Common.{◌≡◌, ◌≢◌, ℕ, ◌⊎◌, inl, inr, Bool, true, false, ◌||◌, List, [], ◌∷◌, refl}
use Rattle.std.specs.Prelude.{Contains, if◌then◌else◌}
use Rattle.std.specs.List.{list_any, cons_option}
use Rattle.std.specs.declared.option.Option.TheVariants.{None, Some}
use Rattle.std.proofs.lemmas.Map.Views.{Contains-from_any}
use mathlib.Core.Logic.{dite}
use native.Mathlib.Decide.{ℕ_discrete}
use Rattle.xc_data.specs.declared.object.Object.{Object}
use Rattle.xc_data.specs.declared.object.Object.TheVariants as object
use Rattle.xc_data.specs.declared.claim.Claim.{Claim}
use Rattle.xc_data.specs.Claims.{is_object, exclusive, objects, owned}
use Rattle.xc_world.specs.Own.{IsNumbered, Sees, Owns}
use Rattle.xc_world.proofs.Laws.{found, decide}
use Rattle.xc_data.proofs.Laws.{same_object}
use Rattle.xc_flight.specs.Active.{Tx, Has, Own, Covers}

-- ---- decisions
of_number : (a b : ℕ) → (a ≡ b) ⊎ (a ≢ b)
of_number a b = dite (ℕ_discrete a b) (λ e. inl e) (λ ne. inr ne)

numbered_decide : (tx : ℕ) (o : Object) → IsNumbered tx o ⊎ (IsNumbered tx o → ⊥)
numbered_decide tx (object.File num) = of_number num.tx tx
numbered_decide tx (object.Pipe num) = of_number num.tx tx
numbered_decide tx (object.Pair num) = of_number num.tx tx
numbered_decide tx (object.Word at) = inr (λ e. e)
numbered_decide tx (object.Name name) = inr (λ e. e)
numbered_decide tx object.Jobs = inr (λ e. e)

either_decide : {P Q : Type 0} → P ⊎ (P → ⊥) → Q ⊎ (Q → ⊥) → (P ⊎ Q) ⊎ ((P ⊎ Q) → ⊥)
either_decide (inl p) q = inl (inl p)
either_decide (inr none) (inl q) = inl (inr q)
either_decide {P = P} {Q = Q} (inr none) (inr lacks) = inr at
  where
    at : (P ⊎ Q) → ⊥
    at (inl p) = none p
    at (inr q) = lacks q

-- it has an object, or not
pub has_decide : (t : Tx) (o : Object) → Has t o ⊎ (Has t o → ⊥)
has_decide t o = either_decide (decide (objects t.held) o) (numbered_decide t.number o)

-- it owns it, or not
pub own_decide : (t : Tx) (o : Object) → Own t o ⊎ (Own t o → ⊥)
own_decide t o = either_decide (decide (owned t.held) o) (numbered_decide t.number o)

-- ---- what is owned is had
any_behind : (b c : Bool) → c ≡ true → (b || c) ≡ true
any_behind true c e = refl
any_behind false c e = e

any_same : (b c d : Bool) → (c ≡ true → d ≡ true) → (b || c) ≡ true → (b || d) ≡ true
any_same true c d more e = refl
any_same false c d more e = more e

any_of_mode : (c : Claim) (o : Object) (os : List Object) (seen : Bool) → (list_any (is_object o) os ≡ true → seen ≡ true) → (b : Bool)
    → list_any (is_object o) (cons_option (if b then Some c.object else None) os) ≡ true → (is_object o c.object || seen) ≡ true
any_of_mode c o os seen more true e = any_same (is_object o c.object) (list_any (is_object o) os) seen more e
any_of_mode c o os seen more false e = any_behind (is_object o c.object) seen (more e)

any_owned : (cs : List Claim) (o : Object) → list_any (is_object o) (owned cs) ≡ true → list_any (is_object o) (objects cs) ≡ true
any_owned [] o e = e
any_owned (c ∷ cs) o e = any_of_mode c o (owned cs) (list_any (is_object o) (objects cs)) (any_owned cs o) (exclusive c) e

owned_held : (cs : List Claim) (o : Object) → Contains (owned cs) o → Contains (objects cs) o
owned_held cs o at = Contains-from_any same_object o (objects cs) (any_owned cs o (found (owned cs) o at))

-- it has what it owns
pub owns_has : (t : Tx) (o : Object) → Own t o → Has t o
owns_has t o (inl at) = inl (owned_held t.held o at)
owns_has t o (inr numbered) = inr numbered

-- ---- what a body sees and owns by its claims, its transaction has and owns
pub sees_has : (t : Tx) (claims : List Claim) → Covers t.held claims → (o : Object) → Sees t.number claims o → Has t o
sees_has t claims covers o (inl at) = inl (covers.objects o at)
sees_has t claims covers o (inr numbered) = inr numbered

-- what its claims own, it owns
pub owns_own : (t : Tx) (claims : List Claim) → Covers t.held claims → (o : Object) → Owns t.number claims o → Own t o
owns_own t claims covers o (inl at) = inl (covers.owned o at)
owns_own t claims covers o (inr numbered) = inr numbered
