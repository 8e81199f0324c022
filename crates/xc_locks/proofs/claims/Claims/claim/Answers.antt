use Rattle.std.proofs.Common.{List, OnOk, sym, subst, arith}
use Rattle.std.specs.Prelude.{All}
use Rattle.xc_data.specs.declared.claim.Claim.{Claim}
use Rattle.xc_locks.specs.Met.{IsNotMet}
use Rattle.xc_locks.specs.Table.{Table, AreCompatible}
use Rattle.xc_locks.proofs.Claimed.{single_element}
use Rattle.xc_locks.proofs.Whole.{coherent_claim}
use Rattle.xc_locks.proofs.claims.Claims.claim.Goals as goal

pub returns-in-len1-clause-unmet : goal.returns-in-len1-clause-unmet
returns-in-len1-clause-unmet c =
    subst (λ (claims : List Claim). OnOk c.claim_one.result (All (IsNotMet c.args.self.now c.args.tx) claims))
    (single_element c.args.claims.now c.claim-item.result (omega arith) c.claim-item.is) c.claim_one.ensures.unmet

coherent : (c : goal.After-hold) → AreCompatible c.hold_all.new.holders
coherent c =
    coherent_claim c.self.inside.holders c.hold_all.new.holders c.args.tx c.args.claims.now c.self.invariant
    (subst (λ (t : Table). All (IsNotMet t c.args.tx) c.args.claims.now) (sym c.self.view_is) c.in_ok-check.ensures)
    c.in_ok-hold_all.ensures.own c.in_ok-hold_all.ensures.others

pub invariant_of-self-2 : goal.invariant_of-self-2
invariant_of-self-2 c = coherent c

pub returns-clause-coherent : goal.returns-clause-coherent
returns-clause-coherent c = coherent c
