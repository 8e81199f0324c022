use Rattle.std.proofs.Common.{ap, sym, ◌∙◌}
use Rattle.std.specs.FinMap as map
use Rattle.xc_sentinel.specs.Keys.{with_key}
use Rattle.xc_sentinel.proofs.Beside.{get_key_beside, get_other, take_beside, take_other}
use Rattle.xc_sentinel.proofs.keys.Keys.remove.Goals as goal

pub returns-in-Some-clause-value : goal.returns-in-Some-clause-value
returns-in-Some-clause-value c =
    let was = c.self.inside in
    sym (get_key_beside was.tree was.beside c.in-Some.number c.in-Some.key c.args.tx c.in-Some.is c.if-number-tx.true)
    ∙ ap (λ m. map.get m c.args.tx) c.self.view_is

pub returns-in-Some-clause-removed : goal.returns-in-Some-clause-removed
returns-in-Some-clause-removed c =
    let was = c.self.inside in
    c.remove-kept.ensures.removed
    ∙ take_beside was.tree was.beside c.in-Some.number c.in-Some.key c.args.tx c.in-Some.is c.if-number-tx.true
    ∙ ap (λ m. map.remove m c.args.tx) c.self.view_is

pub returns-in_default-clause-value : goal.returns-in_default-clause-value
returns-in_default-clause-value c =
    let was = c.self.inside in
    c.remove-kept.ensures.value
    ∙ sym (get_other was.tree was.beside c.in-Some.number c.in-Some.key c.args.tx c.in-Some.is c.if-number-tx.false)
    ∙ ap (λ m. map.get m c.args.tx) c.self.view_is

pub returns-in_default-clause-removed : goal.returns-in_default-clause-removed
returns-in_default-clause-removed c =
    let was = c.self.inside in
    ap (with_key was.beside) c.remove-kept.ensures.removed
    ∙ take_other was.tree was.beside c.in-Some.number c.in-Some.key c.args.tx c.in-Some.is c.if-number-tx.false
    ∙ ap (λ m. map.remove m c.args.tx) c.self.view_is
