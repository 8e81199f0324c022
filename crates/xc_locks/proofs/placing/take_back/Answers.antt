use Rattle.std.proofs.Common.{subst, drop, ◌+◌, sym, List}
use Rattle.xc_data.specs.declared.object.Object.{Object}
use Rattle.xc_locks.specs.Table.{Table}
use Rattle.xc_locks.proofs.Claimed.{Removing, rest-cons, removing_more}
use Rattle.xc_locks.proofs.placing.take_back.Goals as goal

pub loop-object-preserved : goal.loop-object-preserved
loop-object-preserved g c =
    let objects = c.args.objects.now in
    let i = c.loop-object.object-index in
    let rest = drop (i + 1) objects in
    subst (λ (t : Table). Removing c.args.tx c.args.holders.now t objects rest) (sym c.take.ensures.removed)
    (removing_more c.args.tx c.args.holders.now c.loop-object.holders objects rest c.object-item.result
    (subst (λ (left : List Object). Removing c.args.tx c.args.holders.now c.loop-object.holders objects left)
    (rest-cons objects i c.object-item.result c.loop-object-test.true c.object-item.is) c.loop-object.invariant))
