use Rattle.std.proofs.Common.{◌≡◌, ℕ, Option, OnOk, IfErr, rules, sym, subst, ◌∙◌}
use Rattle.std.specs.FinMap as map
use Rattle.std.proofs.lemmas.Result.{IfOk-weaker, on_ok_weaker, on_err_weaker}
use Rattle.xc_data.specs.declared.claim.Mode.{Mode}
use Rattle.xc_locks.specs.Keys.{word_holder}
use Rattle.xc_locks.specs.Others.{MayHold, IsReason}
use Rattle.xc_locks.specs.Rows.{mode_among}
use Rattle.xc_locks.proofs.ByWord.{none_beyond, mode_there, modes_there, word_put_same, word_put_raised}
use Rattle.xc_locks.proofs.Free.{free_none}
use Rattle.xc_locks.proofs.words.WordLocks.claim.Goals as goal

pub returns-in_err-grow-clause-reason : goal.returns-in_err-grow-clause-reason
returns-in_err-grow-clause-reason c =
    let free =
    free_none (λ n. map.get c.args.self.now (word_holder c.args.at n)) c.args.tx c.args.mode
    (λ n. none_beyond c.grow.new.holders.items c.args.self.now (c.in_err-grow.ensures.same ∙ c.self.view_is) c.args.at n c.in_err-grow.ensures.beyond) in
    search (rules, free)

pub returns-clause-was : goal.returns-clause-was
returns-clause-was c =
    IfOk-weaker c.claim.result (λ was. was ≡ mode_among c.index_mut.result.now c.args.tx)
    (λ was. was ≡ map.get c.args.self.now (word_holder c.args.at c.args.tx))
    (λ was is. is ∙ sym (mode_there c.grow.new.holders.items c.args.self.now (c.in_ok-grow.ensures.same ∙ c.self.view_is) c.args.at c.index_mut.result.now
    c.in_ok-grow.ensures.reach c.index_mut.ensures.value c.args.tx))
    c.claim.ensures.was

pub returns-clause-free : goal.returns-clause-free
returns-clause-free c =
    subst (λ (modes : ℕ → Option Mode). OnOk c.claim.result (MayHold modes c.args.tx c.args.mode))
    (modes_there c.grow.new.holders.items c.args.self.now (c.in_ok-grow.ensures.same ∙ c.self.view_is) c.args.at c.index_mut.result.now
    c.in_ok-grow.ensures.reach c.index_mut.ensures.value)
    c.claim.ensures.free

pub returns-clause-ok : goal.returns-clause-ok
returns-clause-ok c =
    on_ok_weaker c.claim.result
    (word_put_raised c.grow.new.holders.items c.args.self.now (c.in_ok-grow.ensures.same ∙ c.self.view_is) c.args.at c.index_mut.result.now
    c.in_ok-grow.ensures.reach c.index_mut.ensures.value c.claim.new.self c.args.tx c.args.mode)
    c.claim.ensures.ok

pub returns-clause-err : goal.returns-clause-err
returns-clause-err c =
    on_err_weaker c.claim.result
    (word_put_same c.grow.new.holders.items c.args.self.now (c.in_ok-grow.ensures.same ∙ c.self.view_is) c.args.at c.index_mut.result.now
    c.in_ok-grow.ensures.reach c.index_mut.ensures.value c.claim.new.self)
    c.claim.ensures.err

pub returns-clause-reason : goal.returns-clause-reason
returns-clause-reason c =
    subst (λ (modes : ℕ → Option Mode). IfErr c.claim.result (IsReason modes c.args.tx c.args.mode))
    (modes_there c.grow.new.holders.items c.args.self.now (c.in_ok-grow.ensures.same ∙ c.self.view_is) c.args.at c.index_mut.result.now
    c.in_ok-grow.ensures.reach c.index_mut.ensures.value)
    c.claim.ensures.reason
