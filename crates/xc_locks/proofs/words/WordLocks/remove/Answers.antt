use Rattle.std.proofs.Common.{sym, ◌∙◌}
use Rattle.xc_locks.specs.Keys.{word_holder}
use Rattle.xc_locks.proofs.ByWord.{none_beyond, mode_there, put_none}
use Rattle.xc_locks.proofs.Orders.{word_holder_total, word_holder_exact}
use Rattle.xc_locks.proofs.Rows.{removed_absent}
use Rattle.xc_locks.proofs.words.WordLocks.remove.Goals as goal

pub returns-in_err-get_mut-clause-value : goal.returns-in_err-get_mut-clause-value
returns-in_err-get_mut-clause-value c =
    c.from_residual.ensures
    ∙ sym (none_beyond c.self.inside.holders.items c.args.self.now c.self.view_is c.args.at c.args.tx c.in_err-get_mut.ensures.item.3)

pub returns-in_err-get_mut-clause-removed : goal.returns-in_err-get_mut-clause-removed
returns-in_err-get_mut-clause-removed c =
    c.self.view_is
    ∙ sym (removed_absent word_holder_total word_holder_exact c.args.self.now (word_holder c.args.at c.args.tx)
    (none_beyond c.self.inside.holders.items c.args.self.now c.self.view_is c.args.at c.args.tx c.in_err-get_mut.ensures.item.3))

pub returns-clause-value : goal.returns-clause-value
returns-clause-value c =
    let item = c.in_ok-get_mut.ensures.item in
    c.remove.ensures.value
    ∙ sym (mode_there c.self.inside.holders.items c.args.self.now c.self.view_is c.args.at c.in_ok-get_mut.field-0.now item.3.0 item.1 c.args.tx)

pub returns-clause-removed : goal.returns-clause-removed
returns-clause-removed c =
    let item = c.in_ok-get_mut.ensures.item in
    put_none c.self.inside.holders.items c.args.self.now c.self.view_is c.args.at c.in_ok-get_mut.field-0.now item.3.0 item.1
    c.remove.new.self c.args.tx c.remove.ensures.removed
