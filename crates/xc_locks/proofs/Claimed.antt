-- Modes after claims, and loops over them.
use Rattle.std.proofs.Common.{◌≡◌, ℕ, Bool, true, false, cond, ◌||◌, Option, Some, None, IsSome, List, [], ◌∷◌, ◌++◌, refl, ap, sym, ◌∙◌, subst}
use Rattle.std.proofs.Common.{take, ◌+◌, ◌<◌, suc, length, get_or, drop, drop-cons, add-one, arith}
use Rattle.std.specs.Prelude.{All, if◌then◌else◌}
use Rattle.std.proofs.Math.Seq.{take-suc}
use Rattle.std.proofs.lemmas.List.{take-append-drop}
use Rattle.std.proofs.lemmas.List.Elements.{All-tail, All-weaker}
use Rattle.xc_data.specs.declared.object.Object.{Object}
use Rattle.xc_data.specs.declared.claim.Mode.{Mode}
use Rattle.xc_data.specs.declared.claim.Claim.{Claim}
use Rattle.xc_data.specs.Claims.{is_object}
use Rattle.xc_locks.specs.Rows.{with_mode}
use Rattle.xc_locks.specs.Table.{has, Table, held_mode, set_mode, claimed, KeepsOthers}
use Rattle.xc_data.proofs.Laws.{same_object, itself}
use Rattle.xc_locks.proofs.Modes.{mode_of-set, mode_of-set_other}

-- what is left of a list begins with the next one
pub rest-cons : {X : Type 0} (xs : List X) (i : ℕ) (x : X) → i < length xs → x ≡ get_or xs i x → drop i xs ≡ x ∷ drop (i + 1) xs
rest-cons xs i x lt e = rw add-one (drop-cons xs i x lt ∙ ap (λ y. y ∷ drop (suc i) xs) (sym e))

-- what is seen of it ends with the last one
pub take-more : {X : Type 0} (xs : List X) (i : ℕ) (x : X) → i < length xs → x ≡ get_or xs i x → take (i + 1) xs ≡ take i xs ++ x ∷ []
take-more xs i x lt e = rw add-one (take-suc xs i x lt ∙ ap (λ y. take i xs ++ y ∷ []) (sym e))

-- the whole list: what was seen, the next one, and the others
pub parts : {X : Type 0} (xs : List X) (i : ℕ) (x : X) → i < length xs → x ≡ get_or xs i x → xs ≡ take i xs ++ x ∷ drop (i + 1) xs
parts xs i x lt e = sym (take-append-drop i xs) ∙ ap (λ ys. take i xs ++ ys) (rest-cons xs i x lt e)

-- a list of one element is that element
pub single_element : {X : Type 0} (xs : List X) (x : X) → length xs ≡ 1 → x ≡ get_or xs 0 x → x ∷ [] ≡ xs
single_element [] x one e = absurd (omega arith)
single_element (y ∷ []) x one e = ap (λ z. z ∷ []) e
single_element (y ∷ z ∷ zs) x one e = absurd (omega arith)

-- ---- one claim
-- an object that a claim isn't on keeps its mode
pub claimed_on : (was : Option Mode) (c : Claim) (o : Object) (b : Bool) → is_object c.object o ≡ b
    → claimed was (c ∷ []) o ≡ cond b (Some (with_mode was c.mode)) was
claimed_on was c o b e = ap (λ x. if x then Some (with_mode was c.mode) else was) e

raised_by : (t : Table) (tx : ℕ) (c : Claim) (o : Object) (b : Bool) → is_object c.object o ≡ b
    → cond b (Some (with_mode (held_mode t tx c.object) c.mode)) (held_mode t tx o) ≡ cond b (Some (with_mode (held_mode t tx o) c.mode)) (held_mode t tx o)
raised_by t tx c o true e = ap (λ (p : Object). Some (with_mode (held_mode t tx p) c.mode)) (same_object c.object o e)
raised_by t tx c o false e = refl

-- a claim on what is held gives it the stronger of both modes
raised : (t : Table) (tx : ℕ) (c : Claim) (o : Object)
    → held_mode (set_mode t tx c.object (Some (with_mode (held_mode t tx c.object) c.mode))) tx o ≡ claimed (held_mode t tx o) (c ∷ []) o
raised t tx c o =
    mode_of-set t c.object o tx (Some (with_mode (held_mode t tx c.object) c.mode))
    ∙ raised_by t tx c o (is_object c.object o) refl ∙ sym (claimed_on (held_mode t tx o) c o (is_object c.object o) refl)

-- of a table that a claim on one object was written into
module _ (t u : Table) (tx : ℕ) (c : Claim) (written : u ≡ set_mode t tx c.object (Some (with_mode (held_mode t tx c.object) c.mode))) where
  -- the transaction holds what is claimed too
  pub claimed_own : (o : Object) → held_mode u tx o ≡ claimed (held_mode t tx o) (c ∷ []) o
  claimed_own o = ap (λ (s : Table). held_mode s tx o) written ∙ raised t tx c o

  -- and all others hold what they did
  pub claimed_others : KeepsOthers tx t u
  claimed_others n o ne =
      ap (λ (s : Table). held_mode s n o) written
      ∙ mode_of-set_other t c.object o tx n (Some (with_mode (held_mode t tx c.object) c.mode)) ne

-- what is held before a claim is held after it
still_held : (was : Option Mode) (c : Claim) (o : Object) → IsSome was → IsSome (claimed was (c ∷ []) o)
still_held was c o there = by (is_object c.object o) refl
  where
    by : (b : Bool) → is_object c.object o ≡ b → IsSome (if b then Some (with_mode was c.mode) else was)
    by true e = refl
    by false e = there

-- ---- the loop over the claims
-- the claims that are left make of these modes what all make of the first ones
pub record Raising (tx : ℕ) (was now : Table) (claims left : List Claim) : Type 0 where
  pub own : (o : Object) → claimed (held_mode now tx o) left o ≡ claimed (held_mode was tx o) claims o
  pub others : KeepsOthers tx was now
  pub held : All (λ (c : Claim). IsSome (held_mode now tx c.object)) left

-- a claim more is done
pub raising_more : (tx : ℕ) (was now next : Table) (claims rest : List Claim) (c : Claim) → Raising tx was now claims (c ∷ rest)
    → ((o : Object) → held_mode next tx o ≡ claimed (held_mode now tx o) (c ∷ []) o) → KeepsOthers tx now next → Raising tx was next claims rest
raising_more tx was now next claims rest c r own others = record {
  own = λ o. ap (λ (m : Option Mode). claimed m rest o) (own o) ∙ r.own o;
  others = λ n o ne. others n o ne ∙ r.others n o ne;
  held = still rest (All-tail (λ (d : Claim). IsSome (held_mode now tx d.object)) c rest r.held);
}
  where
    still : (cs : List Claim) → All (λ (d : Claim). IsSome (held_mode now tx d.object)) cs → All (λ (d : Claim). IsSome (held_mode next tx d.object)) cs
    still cs h =
        All-weaker (λ (d : Claim). IsSome (held_mode now tx d.object)) (λ (d : Claim). IsSome (held_mode next tx d.object))
        (λ d there. subst IsSome (sym (own d.object)) (still_held (held_mode now tx d.object) c d.object there)) cs h

-- ---- the loop over objects that are taken out
-- without the objects that are left the transaction holds what it held at first without all
pub record Removing (tx : ℕ) (was now : Table) (objects left : List Object) : Type 0 where
  pub own : (o : Object) → cond (has left o) None (held_mode now tx o) ≡ cond (has objects o) None (held_mode was tx o)
  pub others : KeepsOthers tx was now

-- what is without one and then without another is without either
pub without : (b c : Bool) (m : Option Mode) → cond c None (cond b None m) ≡ cond (b || c) None m
without true true m = refl
without true false m = refl
without false true m = refl
without false false m = refl

turned_object : (a b : Object) (x y : Bool) → is_object a b ≡ x → is_object b a ≡ y → x ≡ y
turned_object a b true true e f = refl
turned_object a b false false e f = refl
turned_object a b true false e f =
    let yes : is_object b a ≡ true = subst (λ (x : Object). is_object x a ≡ true) (same_object a b e) (itself a) in
    sym yes ∙ f
turned_object a b false true e f =
    let yes : is_object a b ≡ true = subst (λ (x : Object). is_object x b ≡ true) (same_object b a f) (itself b) in
    sym e ∙ yes

-- the test may be asked either way
pub is_object-swap : (a b : Object) → is_object a b ≡ is_object b a
is_object-swap a b = turned_object a b (is_object a b) (is_object b a) refl refl

-- an object more is taken out
pub removing_more : (tx : ℕ) (was now : Table) (objects rest : List Object) (p : Object) → Removing tx was now objects (p ∷ rest)
    → Removing tx was (set_mode now tx p None) objects rest
removing_more tx was now objects rest p r = record {
  own = λ o.
      ap (λ (m : Option Mode). cond (has rest o) None m) (mode_of-set now p o tx None ∙ ap (λ b. cond b None (held_mode now tx o)) (is_object-swap p o))
      ∙ without (is_object o p) (has rest o) (held_mode now tx o) ∙ r.own o;
  others = λ n o ne. mode_of-set_other now p o tx n None ne ∙ r.others n o ne;
}
