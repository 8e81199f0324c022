use Rattle.std.proofs.Common.{Bool, IsTrue, ap, arith, refl, subst, sym, ◌∙◌}
use Rattle.xc_model.specs.Live.{asked_by}
use Rattle.xc_script.specs.declared.ask.Ask.{Ask}
use Rattle.xc_script.specs.Position.{is_call_asked}
use Rattle.xc_station.specs.declared.calls.Shared.{Shared}
use Rattle.xc_station.proofs.StepsBack.{ended_open, ended_returns, few, its_save, tried_open, tried_returns}
use Rattle.xc_station.proofs.backing.step_back.Goals as goal

pub end_back-requires-clause-faults : goal.end_back-requires-clause-faults
end_back-requires-clause-faults g c =
    few g.H.Host.model c.args.script.now c.args.rules.now c.args.shared.now c.args.job.now c.requires.can c.requires.backs

pub returns-then-mark-left-clause-returns : goal.returns-then-mark-left-clause-returns
returns-then-mark-left-clause-returns g c =
    let save = its_save g.H.Host.model c.args.script.now c.args.rules.now c.args.shared.now c.args.job.now c.requires.can c.requires.backs in
    let mark = c.mark_of-mark.ensures save.0 save.1 in
    let left = c.left.ensures in
    let less = c.if-mark-left.true in
    tried_returns g.H.Host.model c.args.script.now c.args.rules.now c.args.shared.now c.args.job.now c.requires.can c.requires.backs save.0 save.1
    c.undo_one.new.host c.undo_one.new.tx c.undo_one.ensures.begun (omega (arith, mark, left, less)) c.undo_one.ensures.tried.0
    c.undo_one.ensures.tried.1

pub returns-then-mark-left-clause-row : goal.returns-then-mark-left-clause-row
returns-then-mark-left-clause-row g c =
    let save = its_save g.H.Host.model c.args.script.now c.args.rules.now c.args.shared.now c.args.job.now c.requires.can c.requires.backs in
    let mark = c.mark_of-mark.ensures save.0 save.1 in
    let left = c.left.ensures in
    let less = c.if-mark-left.true in
    tried_open g.H.Host.model c.args.script.now c.args.rules.now c.args.shared.now c.args.job.now c.requires.can c.requires.backs save.0 save.1
    c.undo_one.new.host c.undo_one.new.tx c.undo_one.ensures.begun (omega (arith, mark, left, less)) c.undo_one.ensures.tried.0
    c.undo_one.ensures.tried.1

pub returns-else-mark-left-clause-returns : goal.returns-else-mark-left-clause-returns
returns-else-mark-left-clause-returns g c was does =
    let save = its_save g.H.Host.model c.args.script.now c.args.rules.now c.args.shared.now c.args.job.now c.requires.can c.requires.backs in
    let mark = c.mark_of-mark.ensures save.0 save.1 in
    let left = c.left.ensures in
    let more = c.if-mark-left.false in
    let shared' : Shared g.row.H.Denot = record c.args.shared.now { buffers = c.end_back.new.buffers } in
    ended_returns g.H.Host.model c.args.script.now c.args.rules.now c.args.shared.now c.args.job.now c.requires.can c.requires.backs save.0 save.1
    shared' c.end_back.new.place c.end_back.new.tx c.end_back.ensures.begun (omega (arith, mark, left, more)) (c.end_back.ensures.tx save.0 save.1)
    refl refl refl was does c.end_back.ensures.noted (c.end_back.ensures.among save.0 save.1)

pub returns-else-mark-left-clause-row : goal.returns-else-mark-left-clause-row
returns-else-mark-left-clause-row g c now at here =
    let save = its_save g.H.Host.model c.args.script.now c.args.rules.now c.args.shared.now c.args.job.now c.requires.can c.requires.backs in
    let mark = c.mark_of-mark.ensures save.0 save.1 in
    let left = c.left.ensures in
    let more = c.if-mark-left.false in
    let shared' : Shared g.row.H.Denot = record c.args.shared.now { buffers = c.end_back.new.buffers } in
    ended_open g.H.Host.model c.args.script.now c.args.rules.now c.args.shared.now c.args.job.now c.requires.can c.requires.backs save.0 save.1
    shared' c.end_back.new.place c.end_back.new.tx c.end_back.ensures.begun (omega (arith, mark, left, more)) (c.end_back.ensures.tx save.0 save.1)
    refl refl refl now at c.end_back.ensures.begin c.end_back.ensures.walk c.end_back.ensures.closed c.end_back.ensures.nearer
    (c.end_back.ensures.given save.0 save.1) (c.end_back.ensures.among save.0 save.1) here

pub end_back-requires-clause-asked : goal.end_back-requires-clause-asked
end_back-requires-clause-asked g c own =
    subst (λ (a : Ask). IsTrue (is_call_asked a))
    (sym (ap (λ (b : Bool). asked_by b c.args.script.now c.args.job.now.handed c.args.job.now.place) (sym own) ∙ c.requires.can.asked)) refl
