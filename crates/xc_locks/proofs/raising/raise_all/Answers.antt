use Rattle.std.proofs.Common.{subst, drop, ◌+◌, List}
use Rattle.xc_data.specs.declared.claim.Claim.{Claim}
use Rattle.xc_locks.proofs.Claimed.{Raising, rest-cons, raising_more}
use Rattle.xc_locks.proofs.raising.raise_all.Goals as goal

pub loop-claim-preserved : goal.loop-claim-preserved
loop-claim-preserved g c =
    let claims = c.args.claims.now in
    let i = c.loop-claim.claim-index in
    raising_more c.args.tx c.args.holders.now c.loop-claim.holders c.raise.new.holders claims (drop (i + 1) claims) c.claim-item.result
    (subst (λ (left : List Claim). Raising c.args.tx c.args.holders.now c.loop-claim.holders claims left)
    (rest-cons claims i c.claim-item.result c.loop-claim-test.true c.claim-item.is) c.loop-claim.invariant)
    c.raise.ensures.own c.raise.ensures.others
