use Rattle.std.proofs.Common.{sym, ◌∙◌, rules}
use Rattle.xc_host.specs.Uses.{back_kind}
use Rattle.xc_host.proofs.Laws.{used_again, rises_sum}
use Rattle.xc_compensate.proofs.Calling.{tried_until_done, failed_try}
use Rattle.xc_compensate.proofs.taking_back.take_back.Goals as goal

pub returns-then-is_ok-clause-undoes : goal.returns-then-is_ok-clause-undoes
returns-then-is_ok-clause-undoes g c = record {
  faults = search rules;
  uses = tried_until_done g.H.Host.model c.args.undo.now c.loop-faults.faults c.args.host.now c.loop-faults.host c.call_back.new.host c.requires.one
      c.loop-faults.invariant.used c.call_back.ensures.answered.used;
  effect = search rules;
}

pub loop-faults-preserved : goal.loop-faults-preserved
loop-faults-preserved g c =
    let model = g.H.Host.model in
    let was = c.loop-faults.invariant in
    let failed = failed_try model (back_kind c.args.undo.now) c.loop-faults.host c.call_back.new.host c.call_back.result _
    (sym c.is_ok.ensures.value ∙ c.if-is_ok.false) c.call_back.ensures.answered in
    record {
      told = λ t. failed.1 t ∙ was.told t;
      used = used_again model c.loop-faults.faults (back_kind c.args.undo.now) c.args.host.now c.loop-faults.host c.call_back.new.host was.used
          c.call_back.ensures.answered.used;
      counted = rises_sum c.loop-faults.faults 1 _ _ _ was.counted failed.0;
    }
