use Rattle.std.proofs.lemmas.Result.{on_ok_weaker}
use Rattle.xc_locks.proofs.Claimed.{claimed_own, claimed_others}
use Rattle.xc_locks.proofs.claiming.claim_object.Goals as goal

pub returns-clause-own : goal.returns-clause-own
returns-clause-own g c =
    on_ok_weaker c.claim.result (claimed_own c.args.holders.now c.claim.new.self c.args.tx c.args.claim.now) c.claim.ensures.ok

pub returns-clause-others : goal.returns-clause-others
returns-clause-others g c =
    on_ok_weaker c.claim.result (claimed_others c.args.holders.now c.claim.new.self c.args.tx c.args.claim.now) c.claim.ensures.ok
