use Rattle.std.proofs.Common.{ap}
use Rattle.xc_station.specs.Passes.{PassView}
use Rattle.xc_runner.proofs.Stories.{finds_none_together}
use Rattle.xc_runner.proofs.workers.+fn-work_together-join+arg2+fn-work_together-join+arg3+work_together.Goals as goal

pub returns-clause-end : goal.returns-clause-end
returns-clause-end g t c =
    finds_none_together c.args.pass c.split-other.new.pass c.join-a.result.0 c.join-a.result.1 c.meet.result
    (ap (λ (v : PassView). v.events) c.split-other.ensures.kept) c.join-a.ensures.first.1 (ap (λ (v : PassView). v.events) c.meet.ensures.view)
