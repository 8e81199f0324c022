use Rattle.std.proofs.Common.{ap, sym, ◌∙◌}
use Rattle.std.specs.FinMap as map
use Rattle.xc_sentinel.specs.Keys.{with_key}
use Rattle.xc_sentinel.proofs.Beside.{get_key_beside, get_other}
use Rattle.xc_sentinel.proofs.keys.Keys.get.Goals as goal
use Rattle.xc_sentinel.proofs.keys.Keys.get.Goals.{in_default-via-in-Some+else-number-tx, in_default-via-in_default}

pub returns-in-Some : goal.returns-in-Some
returns-in-Some c =
    let was = c.self.inside in
    sym (get_key_beside was.tree was.beside c.in-Some.number c.in-Some.key c.args.tx c.in-Some.is c.if-number-tx.true)
    ∙ ap (λ m. map.get m c.args.tx) c.self.view_is

pub returns-in_default : goal.returns-in_default
returns-in_default c =
    let was = c.self.inside in
    c.get.ensures
    ∙ elim c.in_default.branch [
      | in_default-via-in-Some+else-number-tx w ↦ sym (get_other was.tree was.beside _ _ c.args.tx w.in-Some.is w.if-number-tx.false)
      | in_default-via-in_default w ↦ sym (ap (λ e. map.get (with_key e was.tree) c.args.tx) w.in_default.is)
    ]
    ∙ ap (λ m. map.get m c.args.tx) c.self.view_is
