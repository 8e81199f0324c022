use Rattle.std.proofs.Common.{sym, subst}
use Rattle.xc_data.specs.Claims.{AreOnceAtMost, objects}
use Rattle.xc_locks.proofs.holding.Holding.make_room.Goals as goal

pub invariant_of-self : goal.invariant_of-self
invariant_of-self c = subst (λ items. AreOnceAtMost (objects items)) (sym c.reserve.ensures.items) c.self.invariant
