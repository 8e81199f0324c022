use Rattle.std.proofs.Common.{◌∙◌, ap, sym, subst}
use Rattle.xc_data.specs.declared.entry.Entry.{Entry}
use Rattle.xc_model.specs.Progress.{private_of}
use Rattle.xc_world.specs.Sound.{IsSound}
use Rattle.xc_judge.specs.Judgement.{IsJudgedSo}
use Rattle.xc_judge.specs.Stepped.{IsRefusedSo}
use Rattle.xc_judge.proofs.Cases.{found_ok}
use Rattle.xc_judge.proofs.Showing.{shown_bare}
use Rattle.xc_judge.proofs.progress.Progress.step.Goals as goal

pub enter-requires-clause-open : goal.enter-requires-clause-open
enter-requires-clause-open c = λ job.
    let a = c.args in
    let so = found_ok c.in_ok-why.field-0 c.in-Ok.judged (IsJudgedSo a.basis.now a.self a.last.now a.shown) (IsRefusedSo a.basis.now a.self a.last.now a.shown)
    c.in-Ok.is c.in_ok-why.ensures in
    let same = ap (λ (e : Entry). e.tx) (shown_bare a.shown c.in-Ok.judged.entry so.shows) in
    subst (λ tx. IsSound a.self.state.world (private_of a.self.state job) tx) same (c.requires.open job)

pub returns-in_ok-progress-in-Ok-clause-open : goal.returns-in_ok-progress-in-Ok-clause-open
returns-in_ok-progress-in-Ok-clause-open c = λ ty apart opens.
    let a = c.args in
    let so = found_ok c.in_ok-why.field-0 c.in-Ok.judged (IsJudgedSo a.basis.now a.self a.last.now a.shown) (IsRefusedSo a.basis.now a.self a.last.now a.shown)
    c.in-Ok.is c.in_ok-why.ensures in
    let same = ap (λ (e : Entry). e.tx) (shown_bare a.shown c.in-Ok.judged.entry so.shows) in
    c.in_ok-progress-in-Ok.ensures.open ty (λ e. apart (e ∙ sym same)) opens
