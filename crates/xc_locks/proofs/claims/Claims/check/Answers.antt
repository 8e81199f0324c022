use Rattle.std.proofs.Common.{◌+◌, List, take, drop, sym, subst, take_all, arith}
use Rattle.std.specs.Prelude.{All}
use Rattle.std.proofs.lemmas.List.Elements.{All-push}
use Rattle.xc_data.specs.declared.claim.Claim.{Claim}
use Rattle.xc_locks.specs.Met.{IsNotMet}
use Rattle.xc_locks.proofs.Claimed.{take-more, parts}
use Rattle.xc_locks.proofs.claims.Claims.check.Goals as goal

pub returns-in-Some : goal.returns-in-Some
returns-in-Some c =
    record {
      before = take c.loop-claim.claim-index c.args.claims.now;
      claim = c.claim-item.result;
      after = drop (c.loop-claim.claim-index + 1) c.args.claims.now;
      parts = parts c.args.claims.now c.loop-claim.claim-index c.claim-item.result c.loop-claim-test.true c.claim-item.is;
      free = c.loop-claim.invariant;
      object_is = sym c.again.ensures;
      met = c.in-Some.ensures.met;
    }

pub loop-claim-preserved : goal.loop-claim-preserved
loop-claim-preserved c =
    subst (λ (seen : List Claim). All (IsNotMet c.args.self.now c.args.tx) seen)
    (sym (take-more c.args.claims.now c.loop-claim.claim-index c.claim-item.result c.loop-claim-test.true c.claim-item.is))
    (All-push (IsNotMet c.args.self.now c.args.tx) (take c.loop-claim.claim-index c.args.claims.now) c.claim-item.result c.loop-claim.invariant
    c.in_default.ensures.met)

pub returns : goal.returns
returns c =
    subst (λ (seen : List Claim). All (IsNotMet c.args.self.now c.args.tx) seen)
    (take_all c.loop-claim.claim-index c.args.claims.now (omega arith)) c.loop-claim.invariant
