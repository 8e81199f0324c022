use Rattle.std.proofs.Common.{◌∙◌}
use Rattle.xc_locks.proofs.Places.{placed_claimed}
use Rattle.xc_locks.proofs.placing.hold_all.Goals as goal

pub returns-clause-own : goal.returns-clause-own
returns-clause-own g c o =
    let placed = c.in_ok-place_all.ensures.ok in
    c.raise_all.ensures.own o
    ∙ placed_claimed c.args.tx c.args.claims.now c.args.holders.now c.place_all.new.holders placed.0 placed.1 o
