-- What the table keeps: compatible modes.
use Rattle.std.proofs.Common.{◌≡◌, ◌≢◌, ℕ, Bool, true, false, Option, Some, None, List, [], ◌∷◌, refl, ap, sym, ◌∙◌, subst}
use Rattle.std.specs.Prelude.{All, ◌==◌, if◌then◌else◌}
use Rattle.std.proofs.lemmas.Bool.{eqb-true, eqb-false}
use Rattle.std.proofs.lemmas.List.Elements.{All-head, All-tail}
use Rattle.xc_data.specs.declared.object.Object.{Object}
use Rattle.xc_data.specs.declared.claim.Mode.{Mode}
use Rattle.xc_data.specs.declared.claim.Mode.TheVariants.{Shared, Exclusive}
use Rattle.xc_data.specs.declared.claim.Claim.{Claim}
use Rattle.xc_data.specs.Claims.{is_object, compatible, stronger}
use Rattle.xc_locks.specs.Met.{IsNotMet}
use Rattle.xc_locks.specs.Rows.{with_mode}
use Rattle.xc_locks.specs.Table.{Table, held_mode, claimed, KeepsOthers, AreCompatible}
use Rattle.xc_data.proofs.Laws.{same_object}

-- ---- modes
both_shared : (a b : Mode) → compatible a b ≡ true → (a ≡ Shared) × (b ≡ Shared)
both_shared Shared Shared e = (refl, refl)
both_shared Shared Exclusive e = absurd (cc)
both_shared Exclusive b e = absurd (cc)

are_compatible : (a b : Mode) → (a ≡ Shared) × (b ≡ Shared) → compatible a b ≡ true
are_compatible a b both = ap (λ x. compatible x b) both.0 ∙ ap (compatible Shared) both.1

turned : (a b : Mode) → compatible a b ≡ true → compatible b a ≡ true
turned Shared Shared e = refl
turned Shared Exclusive e = absurd (cc)
turned Exclusive b e = absurd (cc)

joined : (a m b : Mode) → compatible a b ≡ true → compatible m b ≡ true → compatible (stronger a m) b ≡ true
joined Shared m b e f = f
joined Exclusive m b e f = e

-- ---- a claim keeps the modes compatible
-- what another holds is compatible with each claim that isn't met
beside_claim : (t : Table) (tx n : ℕ) (c : Claim) (b : Mode) → n ≢ tx → IsNotMet t tx c → held_mode t n c.object ≡ Some b → compatible c.mode b ≡ true
beside_claim t tx n c b ne free holds = by (compatible c.mode b) refl
  where
    by : (r : Bool) → compatible c.mode b ≡ r → r ≡ true
    by true e = refl
    by false e = absurd (free n (record { other = ne; held_as = b; holds = holds; clash = (refl, e) }))

-- what this one holds of an object, if it does, is compatible with another's mode
IsBeside : Mode → Option Mode → Type 0
IsBeside b m = (a : Mode) → m ≡ Some a → compatible a b ≡ true

with_beside : (b m : Mode) (was : Option Mode) → IsBeside b was → compatible m b ≡ true → compatible (with_mode was m) b ≡ true
unfolding IsBeside
with_beside b m None beside e = e
with_beside b m (Some a) beside e = joined a m b (beside a refl) e

one_beside : (t : Table) (tx n : ℕ) (o : Object) (c : Claim) (b : Mode) (was : Option Mode) (r : Bool) → n ≢ tx → held_mode t n o ≡ Some b → IsNotMet t tx c
    → is_object c.object o ≡ r → IsBeside b was → IsBeside b (if r then Some (with_mode was c.mode) else was)
unfolding IsBeside
one_beside t tx n o c b was true ne holds free e beside a is =
    let at : held_mode t n c.object ≡ Some b = ap (held_mode t n) (same_object c.object o e) ∙ holds in
    let fits = with_beside b c.mode was beside (beside_claim t tx n c b ne free at) in
    let same : with_mode was c.mode ≡ a = cc in
    subst (λ x. compatible x b ≡ true) same fits
one_beside t tx n o c b was false ne holds free e beside a is = beside a is

all_beside : (t : Table) (tx n : ℕ) (o : Object) (cs : List Claim) (b : Mode) (was : Option Mode) → n ≢ tx → held_mode t n o ≡ Some b
    → All (IsNotMet t tx) cs → IsBeside b was → IsBeside b (claimed was cs o)
all_beside t tx n o [] b was ne holds free beside = beside
all_beside t tx n o (c ∷ cs) b was ne holds free beside =
    all_beside t tx n o cs b (if is_object c.object o then Some (with_mode was c.mode) else was) ne holds (All-tail (IsNotMet t tx) c cs free)
    (one_beside t tx n o c b was (is_object c.object o) ne holds (All-head (IsNotMet t tx) c cs free) refl beside)

module _ (t u : Table) (tx : ℕ) (claims : List Claim) (compatible_before : AreCompatible t) (free : All (IsNotMet t tx) claims)
    (own : (o : Object) → held_mode u tx o ≡ claimed (held_mode t tx o) claims o) (others : KeepsOthers tx t u) where
  beside_other : (k : ℕ) (o : Object) (a b : Mode) → k ≢ tx → held_mode u tx o ≡ Some a → held_mode u k o ≡ Some b → compatible a b ≡ true
  unfolding IsBeside
  beside_other k o a b ne mine other =
      let holds : held_mode t k o ≡ Some b = sym (others k o ne) ∙ other in
      all_beside t tx k o claims b (held_mode t tx o) ne holds free
      (λ m is. are_compatible m b (compatible_before tx k o m b (λ e. ne (sym e)) is holds)) a (sym (own o) ∙ mine)

  -- claims that aren't met leave the modes compatible
  pub coherent_claim : AreCompatible u
  coherent_claim n k o a b ne mine other = by (n == tx) (k == tx) refl refl
    where
      by : (x y : Bool) → (n == tx) ≡ x → (k == tx) ≡ y → (a ≡ Shared) × (b ≡ Shared)
      by true true e f = absurd (ne (eqb-true n tx e ∙ sym (eqb-true k tx f)))
      by true false e f =
          both_shared a b (beside_other k o a b (eqb-false k tx f) (ap (λ j. held_mode u j o) (sym (eqb-true n tx e)) ∙ mine) other)
      by false true e f =
          both_shared a b (turned b a (beside_other n o b a (eqb-false n tx e) (ap (λ j. held_mode u j o) (sym (eqb-true k tx f)) ∙ other) mine))
      by false false e f =
          compatible_before n k o a b ne (sym (others n o (eqb-false n tx e)) ∙ mine) (sym (others k o (eqb-false k tx f)) ∙ other)

-- a table of nothing is compatible
pub coherent_empty : (t : Table) → ((n : ℕ) (o : Object) → held_mode t n o ≡ None) → AreCompatible t
coherent_empty t empty n k o a b ne mine other =
    let clash : None ≡ Some a = sym (empty n o) ∙ mine in
    absurd (cc)
