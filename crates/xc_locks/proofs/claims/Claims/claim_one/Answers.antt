use Rattle.std.proofs.Common.{◌≡◌, ℕ, Result, Ok, Err, IfErr, OnOk, OnErr, [], ◌∷◌, rules, sym, subst}
use Rattle.xc_data.specs.declared.object.Object.{Object}
use Rattle.xc_data.specs.declared.claim.Claim.{Claim}
use Rattle.xc_locks.specs.declared.refusal.ClaimErr.TheVariants.{Met, NoMemory}
use Rattle.xc_locks.specs.Met.{IsCause}
use Rattle.xc_locks.specs.Others.{MayHold, IsReason}
use Rattle.xc_locks.specs.declared.refusal.Refusal.{Refusal}
use Rattle.xc_locks.specs.declared.refusal.Refusal.TheVariants as refusal
use Rattle.xc_locks.specs.Table.{Table, AreCompatible, KeepsOthers, claimed, held_mode, modes_of}
use Rattle.xc_locks.proofs.Free.{met_cause, unmet}
use Rattle.xc_locks.proofs.Whole.{coherent_claim}
use Rattle.xc_locks.proofs.claims.Claims.claim_one.Goals.{in-Ok, in-Err-Met, in-Err-NoMemory}
use Rattle.xc_locks.proofs.claims.Claims.claim_one.Goals as goal

-- whether the claim is granted or not, the modes stay compatible
either : {A E : Type 0} (t u : Table) (tx : ℕ) (c : Claim) (r : Result A E) → AreCompatible t → OnOk r (MayHold (modes_of t c.object) tx c.mode)
    → OnOk r ((o : Object) → held_mode u tx o ≡ claimed (held_mode t tx o) (c ∷ []) o) → OnOk r (KeepsOthers tx t u) → OnErr r (u ≡ t) → AreCompatible u
either t u tx c (Ok x) before free own others err = coherent_claim t u tx (c ∷ []) before (unmet t tx c before free) own others
either t u tx c (Err e) before free own others err = subst AreCompatible (sym err) before

pub invariant_of-self : goal.invariant_of-self
invariant_of-self c =
    either c.self.inside.holders c.claim_object.new.holders c.args.tx c.args.claim.now c.claim_object.result c.self.invariant
    c.claim_object.ensures.free c.claim_object.ensures.own c.claim_object.ensures.others c.claim_object.ensures.err

pub returns-clause-coherent : goal.returns-clause-coherent
returns-clause-coherent c =
    either c.self.inside.holders c.claim_object.new.holders c.args.tx c.args.claim.now c.claim_object.result c.self.invariant
    c.claim_object.ensures.free c.claim_object.ensures.own c.claim_object.ensures.others c.claim_object.ensures.err

-- an error has what holds of it
of_err : {A E : Type 0} (r : Result A E) (P : E → Type 0) (e : E) → r ≡ Err e → P e → IfErr r P
of_err r P e is p = subst (λ x. IfErr x P) (sym is) p

module _ (t u : Table) (is : t ≡ u) (tx : ℕ) (c : Claim) where
  -- the reason is the cause
  cause_met : (r : Refusal) (o : Object) (n : ℕ) → r ≡ refusal.Met n → o ≡ c.object → IsReason (modes_of t c.object) tx c.mode r
      → IsCause u (c ∷ []) tx (Met o n)
  cause_met r o n e same reason =
      subst (λ (x : Table). IsCause x (c ∷ []) tx (Met o n)) is
      (met_cause t tx c o n same (subst (IsReason (modes_of t c.object) tx c.mode) e reason))

  cause_memory : (r : Refusal) → r ≡ refusal.NoMemory → AreCompatible t → IsReason (modes_of t c.object) tx c.mode r → IsCause u (c ∷ []) tx NoMemory
  cause_memory r e before reason =
      subst (λ (x : Table). IsCause x (c ∷ []) tx NoMemory) is
      (unmet t tx c before (subst (IsReason (modes_of t c.object) tx c.mode) e reason))

pub returns-clause-cause : goal.returns-clause-cause
returns-clause-cause c =
    let cause = IsCause c.args.self.now (c.args.claim.now ∷ []) c.args.tx in
    elim c.match-claim_object.branch [
      | in-Ok w ↦ search rules
      | in-Err-Met w ↦
          let refused = w.in-Err-Met in
          of_err c.match-claim_object.result cause (Met w.again.result refused.holder) w.result-is
          (cause_met c.self.inside.holders c.args.self.now c.self.view_is c.args.tx c.args.claim.now refused.field-0 w.again.result refused.holder
          refused.field-0-is w.again.ensures refused.ensures.reason)
      | in-Err-NoMemory w ↦
          let refused = w.in-Err-NoMemory in
          of_err c.match-claim_object.result cause NoMemory w.result-is
          (cause_memory c.self.inside.holders c.args.self.now c.self.view_is c.args.tx c.args.claim.now refused.field-0 refused.field-0-is
          c.self.invariant refused.ensures.reason)
    ]
