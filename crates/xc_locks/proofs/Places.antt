-- Room for claims: one claim more, all of them, and what is taken back.
use Rattle.std.proofs.Common.{◌≡◌, ◌≢◌, ℕ, Bool, true, false, cond, ◌||◌, Some, None, IsSome, is_some, List, [], ◌∷◌, ◌++◌, refl, ap, ap₂, sym, ◌∙◌}
use Rattle.std.specs.Prelude.{◌==◌, if◌then◌else◌}
use Rattle.std.proofs.lemmas.Bool.{eqb-true, eqb-false}
use Rattle.std.proofs.lemmas.List.Folds.{list_any-append}
use Rattle.std.proofs.lemmas.List.Elements.{All-nil, All-cons, All-weaker, All-append}
use Rattle.xc_data.specs.declared.object.Object.{Object}
use Rattle.xc_data.specs.declared.claim.Mode.TheVariants.{Shared}
use Rattle.xc_data.specs.declared.claim.Claim.{Claim}
use Rattle.xc_data.specs.Claims.{is_object}
use Rattle.xc_locks.specs.Placing.{IsPlaced, is_claimed}
use Rattle.xc_locks.specs.Table.{has, Table, held_mode, set_mode, claimed, KeepsOthers}
use Rattle.xc_data.proofs.Laws.{same_object, itself}
use Rattle.xc_locks.proofs.Modes.{same_table, mode_of-set, mode_of-set_other}
use Rattle.xc_locks.proofs.Claimed.{is_object-swap}

-- ---- tests
or_none : (a : Bool) → (a || false) ≡ a
or_none true = refl
or_none false = refl

-- either of two tests holds where the second does
pub or_last : (a : Bool) → (a || true) ≡ true
or_last true = refl
or_last false = refl

-- whether an object is in one of two lists
pub has-append : (a b : List Object) (o : Object) → has (a ++ b) o ≡ (has a o || has b o)
has-append a b o = list_any-append (is_object o) a b

-- ---- one claim
-- it is new
pub placed_new : (tx : ℕ) (c : Claim) (t : Table) → held_mode t tx c.object ≡ None
    → IsPlaced tx (c ∷ []) t (set_mode t tx c.object (Some Shared)) (c.object ∷ [])
placed_new tx c t lacks = record {
  new = λ o e. ap (held_mode t tx) (same_object o c.object (own o e)) ∙ lacks;
  shared = λ o e. inserted o true (is_object-swap c.object o ∙ own o e);
  asked = λ o e. or_none (is_object c.object o) ∙ is_object-swap c.object o ∙ own o e;
  kept = λ o e. inserted o false (is_object-swap c.object o ∙ sym (or_none (is_object o c.object)) ∙ e);
  held =
      All-cons (λ (d : Claim). IsSome (held_mode put tx d.object)) c [] (ap is_some (inserted c.object true (itself c.object)))
      (All-nil (λ (d : Claim). IsSome (held_mode put tx d.object)));
  others = λ n o ne. mode_of-set_other t c.object o tx n (Some Shared) ne;
}
  where
    put : Table
    put = set_mode t tx c.object (Some Shared)

    own : (o : Object) → has (c.object ∷ []) o ≡ true → is_object o c.object ≡ true
    own o e = sym (or_none (is_object o c.object)) ∙ e

    inserted : (o : Object) (b : Bool) → is_object c.object o ≡ b
        → held_mode (set_mode t tx c.object (Some Shared)) tx o ≡ cond b (Some Shared) (held_mode t tx o)
    inserted o b e = mode_of-set t c.object o tx (Some Shared) ∙ ap (λ x. cond x (Some Shared) (held_mode t tx o)) e

-- ---- claims after claims
module _ (tx : ℕ) (xs ys : List Claim) (s t u : Table) (f g : List Object) (p : IsPlaced tx xs s t f) (q : IsPlaced tx ys t u g) where
  both : (o : Object) (a b : Bool) → has f o ≡ a → has g o ≡ b → has (f ++ g) o ≡ (a || b)
  both o a b e k = has-append f g o ∙ ap₂ (λ x y. x || y) e k

  apart : (o : Object) → has f o ≡ true → has g o ≡ false
  apart o e = by (has g o) refl
    where
      by : (b : Bool) → has g o ≡ b → b ≡ false
      by false k = refl
      by true k =
          let clash : Some Shared ≡ None = sym (p.shared o e) ∙ q.new o k in
          absurd (cc)

  new_by : (o : Object) (a b : Bool) → has f o ≡ a → has g o ≡ b → (a || b) ≡ true → held_mode s tx o ≡ None
  new_by o true b e k either = p.new o e
  new_by o false true e k either = sym (p.kept o e) ∙ q.new o k
  new_by o false false e k either = absurd (cc)

  shared_by : (o : Object) (a b : Bool) → has f o ≡ a → has g o ≡ b → (a || b) ≡ true → held_mode u tx o ≡ Some Shared
  shared_by o true b e k either = q.kept o (apart o e) ∙ p.shared o e
  shared_by o false true e k either = q.shared o k
  shared_by o false false e k either = absurd (cc)

  asked_by : (o : Object) (a b : Bool) → has f o ≡ a → has g o ≡ b → (a || b) ≡ true → is_claimed (xs ++ ys) o ≡ true
  asked_by o true b e k either =
      list_any-append (λ (c : Claim). is_object c.object o) xs ys ∙ ap (λ x. x || is_claimed ys o) (p.asked o e)
  asked_by o false true e k either =
      list_any-append (λ (c : Claim). is_object c.object o) xs ys ∙ ap (λ x. is_claimed xs o || x) (q.asked o k) ∙ or_last (is_claimed xs o)
  asked_by o false false e k either = absurd (cc)

  kept_by : (o : Object) (a b : Bool) → has f o ≡ a → has g o ≡ b → (a || b) ≡ false → held_mode u tx o ≡ held_mode s tx o
  kept_by o false false e k neither = q.kept o k ∙ p.kept o e
  kept_by o true b e k neither = absurd (cc)
  kept_by o false true e k neither = absurd (cc)

  stays : (o : Object) → IsSome (held_mode t tx o) → IsSome (held_mode u tx o)
  stays o there = by (has g o) refl
    where
      by : (b : Bool) → has g o ≡ b → IsSome (held_mode u tx o)
      by true e = ap is_some (q.shared o e)
      by false e = ap is_some (q.kept o e) ∙ there

  split : (o : Object) (r : Bool) → has (f ++ g) o ≡ r → (has f o || has g o) ≡ r
  split o r e = sym (has-append f g o) ∙ e

  -- all of them have their places
  pub placed-append : IsPlaced tx (xs ++ ys) s u (f ++ g)
  placed-append = record {
    new = λ o e. new_by o (has f o) (has g o) refl refl (split o true e);
    shared = λ o e. shared_by o (has f o) (has g o) refl refl (split o true e);
    asked = λ o e. asked_by o (has f o) (has g o) refl refl (split o true e);
    kept = λ o e. kept_by o (has f o) (has g o) refl refl (split o false e);
    held =
        All-append (λ (d : Claim). IsSome (held_mode u tx d.object)) xs ys
        (All-weaker (λ (d : Claim). IsSome (held_mode t tx d.object)) (λ (d : Claim). IsSome (held_mode u tx d.object))
        (λ d there. stays d.object there) xs p.held)
        q.held;
    others = λ n o ne. q.others n o ne ∙ p.others n o ne;
  }

-- ---- what is taken back
module _ (tx : ℕ) (claims : List Claim) (s t u : Table) (f : List Object) (p : IsPlaced tx claims s t f) where
  -- without what was added, all is as before
  pub taken_back : ((o : Object) → held_mode u tx o ≡ cond (has f o) None (held_mode t tx o)) → KeepsOthers tx t u → u ≡ s
  taken_back own others = same_table u s (λ n o. by_number n o (n == tx) refl)
    where
      back : (o : Object) (b : Bool) → has f o ≡ b → cond b None (held_mode t tx o) ≡ held_mode s tx o
      back o true e = sym (p.new o e)
      back o false e = p.kept o e

      by_number : (n : ℕ) (o : Object) (b : Bool) → (n == tx) ≡ b → held_mode u n o ≡ held_mode s n o
      by_number n o false e = let ne : n ≢ tx = eqb-false n tx e in others n o ne ∙ p.others n o ne
      by_number n o true e =
          let same : n ≡ tx = eqb-true n tx e in
          ap (λ k. held_mode u k o) same ∙ own o ∙ back o (has f o) refl ∙ ap (λ k. held_mode s k o) (sym same)

-- ---- the modes after the claims
from_shared_by : (c : Claim) (cs : List Claim) (o : Object) (b : Bool) → is_object c.object o ≡ b → (b || is_claimed cs o) ≡ true
    → (is_claimed cs o ≡ true → claimed (Some Shared) cs o ≡ claimed None cs o) → claimed (Some Shared) (c ∷ cs) o ≡ claimed None (c ∷ cs) o
from_shared_by c cs o true e either rest =
    ap (λ b. claimed (if b then Some c.mode else Some Shared) cs o) e ∙ sym (ap (λ b. claimed (if b then Some c.mode else None) cs o) e)
from_shared_by c cs o false e either rest =
    ap (λ b. claimed (if b then Some c.mode else Some Shared) cs o) e ∙ rest either ∙ sym (ap (λ b. claimed (if b then Some c.mode else None) cs o) e)

from_shared : (cs : List Claim) (o : Object) → is_claimed cs o ≡ true → claimed (Some Shared) cs o ≡ claimed None cs o
from_shared [] o e = absurd (cc)
from_shared (c ∷ cs) o e = from_shared_by c cs o (is_object c.object o) refl e (from_shared cs o)

module _ (tx : ℕ) (claims : List Claim) (s t : Table) (f : List Object) (p : IsPlaced tx claims s t f) where
  -- the claims make of the places what they make of what was held
  pub placed_claimed : (o : Object) → claimed (held_mode t tx o) claims o ≡ claimed (held_mode s tx o) claims o
  placed_claimed o = by (has f o) refl
    where
      by : (b : Bool) → has f o ≡ b → claimed (held_mode t tx o) claims o ≡ claimed (held_mode s tx o) claims o
      by false e = ap (λ m. claimed m claims o) (p.kept o e)
      by true e =
          ap (λ m. claimed m claims o) (p.shared o e) ∙ from_shared claims o (p.asked o e) ∙ ap (λ m. claimed m claims o) (sym (p.new o e))
