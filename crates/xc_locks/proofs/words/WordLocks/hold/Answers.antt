use Rattle.std.proofs.Common.{◌∙◌}
use Rattle.xc_locks.proofs.Modes.{on_err}
use Rattle.xc_locks.proofs.ByWord.{none_beyond, mode_there, word_put_same, word_put_raised}
use Rattle.xc_locks.proofs.words.WordLocks.hold.Goals as goal

pub returns-in_err-grow-clause-absent : goal.returns-in_err-grow-clause-absent
returns-in_err-grow-clause-absent c =
    on_err c.from_residual.result
    (none_beyond c.grow.new.holders.items c.args.self.now (c.in_err-grow.ensures.same ∙ c.self.view_is) c.args.at c.args.tx c.in_err-grow.ensures.beyond)

pub returns-clause-ok : goal.returns-clause-ok
returns-clause-ok c =
    word_put_raised c.grow.new.holders.items c.args.self.now (c.in_ok-grow.ensures.same ∙ c.self.view_is) c.args.at c.index_mut.result.now
    c.in_ok-grow.ensures.reach c.index_mut.ensures.value c.hold.new.self c.args.tx c.args.mode c.in_ok-hold.ensures.ok

pub returns-in_err-hold-clause-err : goal.returns-in_err-hold-clause-err
returns-in_err-hold-clause-err c =
    on_err c.from_residual-in_err-hold.result
    (word_put_same c.grow.new.holders.items c.args.self.now (c.in_ok-grow.ensures.same ∙ c.self.view_is) c.args.at c.index_mut.result.now
    c.in_ok-grow.ensures.reach c.index_mut.ensures.value c.hold.new.self c.in_err-hold.ensures.err)

pub returns-in_err-hold-clause-absent : goal.returns-in_err-hold-clause-absent
returns-in_err-hold-clause-absent c =
    on_err c.from_residual-in_err-hold.result
    (mode_there c.grow.new.holders.items c.args.self.now (c.in_ok-grow.ensures.same ∙ c.self.view_is) c.args.at c.index_mut.result.now
    c.in_ok-grow.ensures.reach c.index_mut.ensures.value c.args.tx ∙ c.in_err-hold.ensures.absent)
