use Rattle.std.proofs.Common.{◌≡◌, ◌<◌, ◌+◌, ◌-◌, ◌∙◌, length, ap, arith, sym}
use Rattle.xc_compensate.proofs.Listing.{some_pending, newest}
use Rattle.xc_compensate.proofs.Keeping.{keeps_covered, keeps_older}
use Rattle.xc_compensate.proofs.stack.Stack.trim.Goals as goal

pub invariant_of-self : goal.invariant_of-self
invariant_of-self c =
    let stack = c.self.invariant in
    let at = c.self.inside.pending - 1 in
    let some : 0 < c.self.inside.pending = some_pending _ _ c.args.self.now c.self.view_is c.requires.some in
    let there : at < length c.self.inside.records.items = omega (arith, some, stack.within) in
    keeps_older _ at c.self.inside.pending _ c.remove.result there c.remove.ensures.value (omega (arith, some)) stack _ c.remove.ensures.by_index.2

pub invariant_of-self-else-n-eq0 : goal.invariant_of-self-else-n-eq0
invariant_of-self-else-n-eq0 c =
    let stack = c.self.invariant in
    let at = c.self.inside.pending - 1 in
    let r = c.index_mut.result.now in
    let some : 0 < c.self.inside.pending = some_pending _ _ c.args.self.now c.self.view_is c.requires.some in
    let there : at < length c.self.inside.records.items = omega (arith, some, stack.within) in
    let after : c.self.inside.pending ≡ at + 1 = omega (arith, some) in
    keeps_covered _ at c.self.inside.pending _ r there c.index_mut.ensures.value after stack _ c.args.n c.cover.ensures
    (omega (arith, c.if-n-eq0.false))
    (c.requires.within _ r.0 (ap (λ view. view.pending) (sym c.self.view_is ∙ newest _ at there r _ c.index_mut.ensures.value after)))
