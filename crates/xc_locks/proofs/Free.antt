-- Whether the other holders of an object let a transaction have it.
use Rattle.std.proofs.Common.{◌≡◌, ℕ, ◌≤◌, Bool, true, false, Option, Some, None, [], ◌∷◌, ltb, refl, ap, sym, ◌∙◌}
use Rattle.std.specs.Prelude.{All, ◌==◌}
use Rattle.std.proofs.lemmas.Bool.{ltb-true, ltb-false, eqb-true, eqb-false}
use Rattle.std.proofs.lemmas.List.Elements.{All-nil, All-cons}
use Rattle.xc_data.specs.declared.object.Object.{Object}
use Rattle.xc_data.specs.declared.claim.Mode.{Mode}
use Rattle.xc_data.specs.declared.claim.Claim.{Claim}
use Rattle.xc_data.specs.Claims.{compatible}
use Rattle.xc_locks.specs.Met.{Meets, IsMet, IsNotMet, IsCause}
use Rattle.xc_locks.specs.declared.refusal.ClaimErr.TheVariants.{Met}
use Rattle.xc_locks.specs.Others.{IsFirstBut, IsFirstOther, MayHold, IsMetBy}
use Rattle.xc_locks.specs.Table.{Table, held_mode, modes_of, AreCompatible}

-- modes that are the same for each transaction are the same
pub same_modes : (a b : ℕ → Option Mode) → ((n : ℕ) → a n ≡ b n) → a ≡ b
same_modes a b same = λ i n. same n i

-- where nobody holds the object, nobody is in the way
pub free_none : (modes : ℕ → Option Mode) (tx : ℕ) (mode : Mode) → ((n : ℕ) → modes n ≡ None) → MayHold modes tx mode
free_none modes tx mode none = record { first = None; is_first = λ n _. none n; fits = λ h e. absurd (cc) }

module _ (t : Table) (tx : ℕ) (c : Claim) where
  -- nobody that meets the claim is below the first other holder
  not_below : (n k : ℕ) (mode : Mode) (b : Bool) → ltb k n ≡ b → IsFirstOther (modes_of t c.object) tx n mode → Meets t c tx k → n ≤ k
  not_below n k mode true e first m =
      let none : held_mode t k c.object ≡ None = first.smallest k m.other (ltb-true k n e) in
      let clash : None ≡ Some m.held_as = sym none ∙ m.holds in
      absurd (cc)
  not_below n k mode false e first m = ltb-false k n e

  -- the holder that doesn't let tx have the object is the one that meets the claim
  met : (n : ℕ) → IsMetBy (modes_of t c.object) tx c.mode n → IsMet t c tx n
  met n by = record {
    meets = record { other = by.is_first.other; held_as = by.held_as; holds = by.is_first.holds; clash = (refl, by.clash) };
    smallest = λ k m. not_below n k by.held_as (ltb k n) refl by.is_first m;
  }

  -- which is then the cause
  pub met_cause : (o : Object) (n : ℕ) → o ≡ c.object → IsMetBy (modes_of t c.object) tx c.mode n → IsCause t (c ∷ []) tx (Met o n)
  met_cause o n same by = record {
    before = [];
    claim = c;
    after = [];
    parts = refl;
    free = All-nil (IsNotMet t tx);
    object_is = sym same;
    met = met n by;
  }

  module _ (compatible_before : AreCompatible t) where
    -- all other holders have the first one's mode
    one_mode : (n k : ℕ) (a b : Mode) (r : Bool) → (n == k) ≡ r → held_mode t n c.object ≡ Some a → held_mode t k c.object ≡ Some b → a ≡ b
    one_mode n k a b true e mine other =
        let same : Some a ≡ Some b = sym mine ∙ ap (λ j. held_mode t j c.object) (eqb-true n k e) ∙ other in
        cc
    one_mode n k a b false e mine other =
        let both = compatible_before n k c.object a b (eqb-false n k e) mine other in
        both.0 ∙ sym both.1

    unmet_by : (first : Option (ℕ × Mode)) → IsFirstBut (modes_of t c.object) tx first
        → ((h : ℕ × Mode) → first ≡ Some h → compatible c.mode h.1 ≡ true) → IsNotMet t tx c
    unmet_by None none fits n m =
        let clash : None ≡ Some m.held_as = sym (none n m.other) ∙ m.holds in
        absurd (cc)
    unmet_by (Some h) is fits n m =
        let same : m.held_as ≡ h.1 = one_mode n h.0 m.held_as h.1 (n == h.0) refl m.holds is.holds in
        let clash : true ≡ false = sym (fits h refl) ∙ ap (compatible c.mode) (sym same) ∙ m.clash.1 in
        absurd (cc)

    -- a claim that all let tx have is not met
    pub unmet : MayHold (modes_of t c.object) tx c.mode → All (IsNotMet t tx) (c ∷ [])
    unmet free = All-cons (IsNotMet t tx) c [] (unmet_by free.first free.is_first free.fits) (All-nil (IsNotMet t tx))
