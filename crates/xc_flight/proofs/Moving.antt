-- A move of one transaction keeps what is true of all; and where none is active the station's world is the journal's.
use Rattle.std.proofs.Common.{◌≡◌, ◌≢◌, ℕ, ◌<◌, ◌≤◌, ◌⊎◌, inr, ⊎_elim, suc, zero, List, [], ◌∷◌, Option, Some, None, get_or, ap, sym, ◌∙◌, subst, refl, arith}
use Rattle.std.specs.Prelude.{slice_set, length}
use mathlib.Core.Logic.{dite}
use native.Mathlib.Decide.{ℕ_discrete}
use Rattle.xc_data.specs.declared.object.Object.{Object}
use Rattle.xc_data.specs.declared.object.Object.TheVariants as object
use Rattle.xc_world.specs.Laws.{AgreeAt}
use Rattle.xc_world.proofs.Laws.{agree_back, agree_on, worlds_same}
use Rattle.xc_flight.specs.Active.{Tx, Has, Own, IsBelow}
use Rattle.xc_flight.specs.Flight.{Flight}
use Rattle.xc_flight.specs.State.{FlightState, active_at, IsActive, HasSome, OwnSome, HasAt, OwnAt, InFlight, Move}
use Rattle.xc_flight.proofs.Basics.{own_decide, owns_has}
use Rattle.xc_flight.proofs.Frames.{flight_kept}

-- ---- what a job has
pub own_at_decide : (s : FlightState) (job : ℕ) (o : Object) → OwnAt s job o ⊎ (OwnAt s job o → ⊥)
own_at_decide s job o = at (active_at s job)
  where
    at : (t : Option Tx) → OwnSome t o ⊎ (OwnSome t o → ⊥)
    at None = inr (λ e. e)
    at (Some t) = own_decide t o

own_some_has : (t : Option Tx) (o : Object) → OwnSome t o → HasSome t o
own_some_has None o e = e
own_some_has (Some t) o e = owns_has t o e

-- a job has what it owns
pub own_at_has : (s : FlightState) (job : ℕ) (o : Object) → OwnAt s job o → HasAt s job o
own_at_has s job o e = own_some_has (active_at s job) o e

-- of a job whose active transaction is known
pub has_it : (s : FlightState) (job : ℕ) (t : Tx) (o : Object) → IsActive s job t → Has t o → HasAt s job o
has_it s job t o active e = subst (λ x. HasSome x o) (sym active) e

-- it owns what its transaction owns
pub own_it : (s : FlightState) (job : ℕ) (t : Tx) (o : Object) → IsActive s job t → Own t o → OwnAt s job o
own_it s job t o active e = subst (λ x. OwnSome x o) (sym active) e

-- its transaction has what it has
pub it_has : (s : FlightState) (job : ℕ) (t : Tx) (o : Object) → IsActive s job t → HasAt s job o → Has t o
it_has s job t o active e = subst (λ x. HasSome x o) active e

-- its transaction owns what it owns
pub it_owns : (s : FlightState) (job : ℕ) (t : Tx) (o : Object) → IsActive s job t → OwnAt s job o → Own t o
it_owns s job t o active e = subst (λ x. OwnSome x o) active e

-- ---- below
pub below_more : (m n : ℕ) (o : Object) → m ≤ n → IsBelow m o → IsBelow n o
below_more m n (object.File q) le lt = omega (arith, le, lt)
below_more m n (object.Pipe q) le lt = omega (arith, le, lt)
below_more m n (object.Pair q) le lt = omega (arith, le, lt)
below_more m n (object.Word at) le lt = tt
below_more m n (object.Name name) le lt = tt
below_more m n object.Jobs le lt = tt

-- ---- a move
module _ (s s' : FlightState) (job : ℕ) (h : InFlight s) (m : Move s s' job) where
  before : (j : ℕ) (t : Tx) → j ≢ job → IsActive s' j t → IsActive s j t
  before j t ne active = sym (m.others j ne) ∙ active

  same_has : (j : ℕ) (o : Object) → j ≢ job → HasAt s' j o → HasAt s j o
  same_has j o ne e = subst (λ x. HasSome x o) (m.others j ne) e

  same_own : (j : ℕ) (o : Object) → j ≢ job → OwnAt s' j o → OwnAt s j o
  same_own j o ne e = subst (λ x. OwnSome x o) (m.others j ne) e

  own_again : (j : ℕ) (o : Object) → j ≢ job → OwnAt s j o → OwnAt s' j o
  own_again j o ne e = subst (λ x. OwnSome x o) (sym (m.others j ne)) e

  flight_after : (j : ℕ) (t : Tx) → IsActive s' j t → Flight s'.state s'.now t
  flight_after j t active = dite (ℕ_discrete j job)
      (λ (e : j ≡ job). m.mine t (subst (λ k. IsActive s' k t) e active))
      (λ (ne : j ≢ job). flight_kept (OwnAt s job) s.state s'.state s.now s'.now t m.state m.now
      (λ o p q. h.apart job j o (λ e. ne (sym e)) p (has_it s j t o (before j t ne active) q)) (h.flights j t (before j t ne active)))

  apart_after : (i j : ℕ) (o : Object) → i ≢ j → OwnAt s' i o → HasAt s' j o → ⊥
  apart_after i j o ne p q = dite (ℕ_discrete i job)
      (λ (e : i ≡ job). let away : j ≢ job = λ f. ne (e ∙ sym f) in m.gains j o away (subst (λ k. OwnAt s' k o) e p) (same_has j o away q))
      (λ (a : i ≢ job). dite (ℕ_discrete j job)
      (λ (e : j ≡ job). m.joins i o a (subst (λ k. HasAt s' k o) e q) (same_own i o a p))
      (λ (b : j ≢ job). h.apart i j o ne (same_own i o a p) (same_has j o b q)))

  free_after : (o : Object) → ((j : ℕ) → OwnAt s' j o → ⊥) → AgreeAt s'.now s'.state o
  free_after o nobody = ⊎_elim (λ (e : OwnAt s job o). m.free o e (nobody job)) (λ (lacks : OwnAt s job o → ⊥).
      let none : (j : ℕ) → OwnAt s j o → ⊥ = λ j e. dite (ℕ_discrete j job) (λ (q : j ≡ job). lacks (subst (λ k. OwnAt s k o) q e))
      (λ (ne : j ≢ job). nobody j (own_again j o ne e)) in
      agree_on s'.now s.now s'.state o (agree_back s.now s'.now o (m.now.others o lacks))
      (agree_on s.now s.state s'.state o (h.free o none) (m.state.others o lacks)))
      (own_at_decide s job o)

  single_after : (i j : ℕ) (t u : Tx) → IsActive s' i t → IsActive s' j u → t.number ≡ u.number → i ≡ j
  single_after i j t u a b e = dite (ℕ_discrete i job)
      (λ (p : i ≡ job). dite (ℕ_discrete j job)
      (λ (q : j ≡ job). p ∙ sym q)
      (λ (q : j ≢ job). absurd (m.single j u t q (before j u q b) (subst (λ k. IsActive s' k t) p a) (sym e))))
      (λ (p : i ≢ job). dite (ℕ_discrete j job)
      (λ (q : j ≡ job). absurd (m.single i t u p (before i t p a) (subst (λ k. IsActive s' k u) q b) e))
      (λ (q : j ≢ job). h.single i j t u (before i t p a) (before j u q b) e))

  begun_after : (j : ℕ) (t : Tx) → IsActive s' j t → t.number < s'.next
  begun_after j t a = dite (ℕ_discrete j job)
      (λ (e : j ≡ job). m.begun t (subst (λ k. IsActive s' k t) e a))
      (λ (ne : j ≢ job). let lt = h.begun j t (before j t ne a) in let le = m.rises in omega (arith, lt, le))

  names_after : (j : ℕ) (o : Object) → HasAt s' j o → IsBelow s'.next o
  names_after j o q = dite (ℕ_discrete j job)
      (λ (e : j ≡ job). m.names o (subst (λ k. HasAt s' k o) e q))
      (λ (ne : j ≢ job). below_more s.next s'.next o m.rises (h.names j o (same_has j o ne q)))

  -- a move keeps what is true of all
  pub move_keeps : InFlight s'
  move_keeps =
      record {
        count = m.now.count ∙ h.count ∙ sym m.state.count;
        blocks = m.now.blocks ∙ h.blocks ∙ sym m.state.blocks;
        flights = flight_after;
        apart = apart_after;
        free = free_after;
        single = single_after;
        begun = begun_after;
        names = names_after;
        future = m.future;
      }

-- where nobody is active, the two worlds are one
pub all_free : (s : FlightState) → InFlight s → ((job : ℕ) → active_at s job ≡ None) → s.now ≡ s.state
all_free s h none = worlds_same s.now s.state (λ o. h.free o (λ job e. subst (λ x. OwnSome x o) (none job) e)) h.blocks

-- ---- the list of active transactions with one put
pub active_set_same : (xs : List (Option Tx)) (i : ℕ) (x : Option Tx) → i < length xs → get_or (slice_set xs i x) i None ≡ x
active_set_same [] i x lt = let no = lt in absurd (omega (arith, no))
active_set_same (y ∷ ys) zero x lt = refl
active_set_same (y ∷ ys) (suc i) x lt = active_set_same ys i x (omega (arith, lt))

-- the others stay
pub active_set_other : (xs : List (Option Tx)) (i j : ℕ) (x : Option Tx) → j ≢ i → get_or (slice_set xs i x) j None ≡ get_or xs j None
active_set_other [] i j x ne = refl
active_set_other (y ∷ ys) zero zero x ne = absurd (ne refl)
active_set_other (y ∷ ys) zero (suc j) x ne = refl
active_set_other (y ∷ ys) (suc i) zero x ne = refl
active_set_other (y ∷ ys) (suc i) (suc j) x ne = active_set_other ys i j x (λ e. ne (ap suc e))

-- a job with an active transaction is in the list
pub is_inside : (xs : List (Option Tx)) (i : ℕ) (t : Tx) → get_or xs i None ≡ Some t → i < length xs
is_inside [] i t e = cc e
is_inside (y ∷ ys) zero t e = omega arith
is_inside (y ∷ ys) (suc i) t e = let lt = is_inside ys i t e in omega (arith, lt)

-- a job has one at most
pub one_active : (s : FlightState) (job : ℕ) (t u : Tx) → IsActive s job t → IsActive s job u → t ≡ u
one_active s job t u a b = some_same t u (sym a ∙ b)
  where
    some_same : (t u : Tx) → Some t ≡ Some u → t ≡ u
    some_same t u e = cc e
