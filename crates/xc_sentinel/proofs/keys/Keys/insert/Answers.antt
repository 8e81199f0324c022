use Rattle.std.proofs.Common.{ap, sym, ◌∙◌}
use Rattle.std.specs.FinMap as map
use Rattle.xc_sentinel.specs.Keys.{with_key}
use Rattle.xc_sentinel.proofs.Beside.{put_beside, put_other_ok}
use Rattle.xc_sentinel.proofs.keys.Keys.insert.Goals as goal
use Rattle.xc_sentinel.proofs.keys.Keys.insert.Goals.{in_default-via-in-Some+else-number-tx, in_default-via-in_default}

pub returns-in-Some-clause-ok : goal.returns-in-Some-clause-ok
returns-in-Some-clause-ok c =
    let was = c.self.inside in
    put_other_ok c.insert.result was.tree c.insert.new.self _ was.beside c.in-Some.number c.in-Some.field-0-1 c.args.tx c.args.key
    c.in-Some.is c.if-number-tx.true c.self.view_is c.insert.ensures.ok

pub returns-in_default-clause-ok : goal.returns-in_default-clause-ok
returns-in_default-clause-ok c =
    let was = c.self.inside in
    elim c.in_default.branch [
      | in_default-via-in-Some+else-number-tx w ↦ put_beside was.tree was.beside _ _ c.args.tx c.args.key w.in-Some.is w.if-number-tx.false
      | in_default-via-in_default w ↦ sym (ap (λ e. map.insert (with_key e was.tree) c.args.tx c.args.key) w.in_default.is)
    ]
    ∙ ap (λ m. map.insert m c.args.tx c.args.key) c.self.view_is
