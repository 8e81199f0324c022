use Rattle.std.proofs.Common.{sym, ◌∙◌, subst}
use Rattle.xc_data.specs.Claims.{AreOnceAtMost, objects}
use Rattle.xc_locks.proofs.holding.Holding.into_claims.Goals as goal

pub returns-clause-once : goal.returns-clause-once
returns-clause-once c = subst (λ items. AreOnceAtMost (objects items)) (sym (c.into_vec.ensures ∙ c.into_items.ensures)) c.self.invariant
