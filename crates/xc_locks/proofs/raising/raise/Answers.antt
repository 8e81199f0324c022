use Rattle.xc_locks.specs.Table.{held_mode}
use Rattle.xc_locks.proofs.Claimed.{claimed_own, claimed_others}
use Rattle.xc_locks.proofs.Modes.{ok_there}
use Rattle.xc_locks.proofs.raising.raise.Goals as goal

pub returns-clause-own : goal.returns-clause-own
returns-clause-own g c =
    claimed_own c.args.holders.now c.hold.new.self c.args.tx c.args.claim.now
    (ok_there (held_mode c.args.holders.now c.args.tx c.args.claim.now.object) c.hold.result c.requires c.hold.ensures.ok c.hold.ensures.absent)

pub returns-clause-others : goal.returns-clause-others
returns-clause-others g c =
    claimed_others c.args.holders.now c.hold.new.self c.args.tx c.args.claim.now
    (ok_there (held_mode c.args.holders.now c.args.tx c.args.claim.now.object) c.hold.result c.requires c.hold.ensures.ok c.hold.ensures.absent)
