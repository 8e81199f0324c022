-- What is kept of active transactions under their numbers, with another job in one place.
use Rattle.std.proofs.Common.{◌≡◌, ◌≢◌, ◌⊎◌, inl, inr, ℕ, ◌<◌, List, refl, ap, sym, ◌∙◌, subst, arith}
use Rattle.std.specs.Prelude.{Option, slice_get, slice_set}
use Rattle.std.specs.declared.option.Option.TheVariants.{None, Some}
use mathlib.Core.Logic.{dite}
use native.Mathlib.Decide.{ℕ_discrete}
use Rattle.xc_model.specs.Moment.{TxView, JobView, active_of}
use Rattle.xc_model.specs.Movers.{IsActiveAt}
use Rattle.xc_station.specs.Moments.{AreSingle, AreTracked}
use Rattle.xc_turns.proofs.Laws.{active_was, active_is, active_here, active_before, active_after}

-- what is found after a turn is the new job's, or was there before and wasn't the old one's
abbrev pub IsTracked : {X : Type 0} → (ℕ → Option X) → JobView → JobView → ℕ → X → Type 0
IsTracked found job job' n x =
    ((t : TxView) × (active_of job' ≡ Some t) × (t.number ≡ n))
    ⊎ ((found n ≡ Some x) × ((t : TxView) → active_of job ≡ Some t → t.number ≢ n))

module _ {X : Type 0} (found : ℕ → Option X) (has : TxView → Option X) (jobs : List JobView) (was : AreTracked found has jobs) where
  -- at a number above those of all active transactions nothing is found
  pub nobody : (n : ℕ) → ((j : ℕ) (t : TxView) → IsActiveAt jobs j t → t.number < n) → found n ≡ None
  nobody n above = by_value (found n) refl
    where
      by_value : (o : Option X) → found n ≡ o → found n ≡ None
      by_value None e = e
      by_value (Some x) e =
          let k = was.known n x e in
          let below = above k.0 k.1 k.2 in
          let num = k.3 in
          absurd (omega (arith, below, num))

  module _ (found' : ℕ → Option X) (at : ℕ) (job job' : JobView) (stands : slice_get jobs at ≡ Some job) where
    tracked_set : ((t : TxView) → active_of job' ≡ Some t → found' t.number ≡ has t)
        → ((j : ℕ) (t : TxView) → j ≢ at → IsActiveAt jobs j t → found' t.number ≡ found t.number)
        → ((n : ℕ) (x : X) → found' n ≡ Some x → IsTracked found job job' n x) → AreTracked found' has (slice_set jobs at job')
    tracked_set mine others known =
        record {
          held = λ j t a. dite (ℕ_discrete j at)
              (λ (q : j ≡ at). mine t (active_is jobs at job stands job' t (subst (λ k. IsActiveAt (slice_set jobs at job') k t) q a)))
              (λ (ne : j ≢ at). let before = active_before jobs at j job' t ne a in others j t ne before ∙ was.held j t before);
          known = λ n x e. elim (known n x e) [
            | inl here ↦ (at, here.0, active_here jobs at job stands job' here.0 here.1, here.2)
            | inr there ↦
                let k = was.known n x there.0 in
                dite (ℕ_discrete k.0 at)
                (λ (q : k.0 ≡ at). absurd (there.1 k.1 (active_was jobs at job stands k.1 (subst (λ i. IsActiveAt jobs i k.1) q k.2)) k.3))
                (λ (ne : k.0 ≢ at). (k.0, k.1, active_after jobs at k.0 job' k.1 ne k.2, k.3))
          ];
        }

    -- neither job has an active transaction
    pub tracked_still : ((n : ℕ) → found' n ≡ found n) → active_of job ≡ None → active_of job' ≡ None → AreTracked found' has (slice_set jobs at job')
    tracked_still same none none' =
        tracked_set
        (λ t is. let lacks : None ≡ Some t = sym none' ∙ is in cc lacks)
        (λ j t ne a. same t.number)
        (λ n x e. inr (sym (same n) ∙ e, λ t is. let lacks : None ≡ Some t = sym none ∙ is in cc lacks))

    -- its transaction has just begun, with a number above all others
    pub tracked_begun : (tx : TxView) → active_of job ≡ None → active_of job' ≡ Some tx → found' tx.number ≡ has tx
        → ((n : ℕ) → n ≢ tx.number → found' n ≡ found n) → ((j : ℕ) (t : TxView) → IsActiveAt jobs j t → t.number < tx.number)
        → AreTracked found' has (slice_set jobs at job')
    tracked_begun tx none is' mine others above =
        tracked_set
        (λ t is. let one : tx ≡ t = cc (is', is) in subst (λ (u : TxView). found' u.number ≡ has u) one mine)
        (λ j t ne a. others t.number (λ e. let low = above j t a in omega (arith, low, e)))
        (λ n x e. dite (ℕ_discrete n tx.number)
        (λ (q : n ≡ tx.number). inl (tx, is', sym q))
        (λ (ne : n ≢ tx.number). inr (sym (others n ne) ∙ e, λ t is. let lacks : None ≡ Some t = sym none ∙ is in cc lacks)))

    module _ (single : AreSingle jobs) (tx : TxView) (is : active_of job ≡ Some tx) (others : (n : ℕ) → n ≢ tx.number → found' n ≡ found n) where
      elsewhere : (j : ℕ) (t : TxView) → j ≢ at → IsActiveAt jobs j t → found' t.number ≡ found t.number
      elsewhere j t ne a = others t.number (λ num. ne (single j at t tx a (job, stands, is) num))

      not_here : (n : ℕ) → n ≢ tx.number → (t : TxView) → active_of job ≡ Some t → t.number ≢ n
      not_here n ne t there num = let one : tx ≡ t = cc (is, there) in ne (sym num ∙ ap (λ (u : TxView). u.number) (sym one))

      -- its transaction goes on with the same number
      pub tracked_on : (tx' : TxView) → active_of job' ≡ Some tx' → tx'.number ≡ tx.number → found' tx.number ≡ has tx'
          → AreTracked found' has (slice_set jobs at job')
      tracked_on tx' is' number mine =
          tracked_set
          (λ t e. let one : tx' ≡ t = cc (is', e) in subst (λ (u : TxView). found' u.number ≡ has u) one (ap found' number ∙ mine))
          elsewhere
          (λ n x e. dite (ℕ_discrete n tx.number)
          (λ (q : n ≡ tx.number). inl (tx', is', number ∙ sym q))
          (λ (ne : n ≢ tx.number). inr (sym (others n ne) ∙ e, not_here n ne)))

      -- its transaction has ended
      pub tracked_ended : active_of job' ≡ None → found' tx.number ≡ None → AreTracked found' has (slice_set jobs at job')
      tracked_ended none gone =
          tracked_set
          (λ t e. let lacks : None ≡ Some t = sym none ∙ e in cc lacks)
          elsewhere
          (λ n x e. inr (dite (ℕ_discrete n tx.number)
          (λ (q : n ≡ tx.number). let lacks : None ≡ Some x = sym gone ∙ ap found' (sym q) ∙ e in cc lacks)
          (λ (ne : n ≢ tx.number). (sym (others n ne) ∙ e, not_here n ne))))
