use Rattle.std.proofs.Common.{◌<◌, length, arith, subst, sym}
use Rattle.xc_poll.specs.Alls.{IsPolledOnce}
use Rattle.xc_poll.specs.Polls.{IsPolled}
use Rattle.xc_poll.specs.Tasks.{Task}
use Rattle.xc_poll.proofs.Gathers.{rest_step, zip_step}
use Rattle.xc_poll.proofs.crew.poll_each.Goals as goal

pub loop-task-preserved : goal.loop-task-preserved
loop-task-preserved g c =
    let i = c.loop-task.invariant in
    let items = c.loop-task.task-items in
    let at = c.loop-task.task-index in
    let lt : at < length items = omega (arith, c.loop-task-test.true, c.loop-task.auto.task-items) in
    let polled : IsPolledOnce c.task-item.result c.poll-result.new.self = (
      c.poll-result.result,
      subst (λ (t : Task). IsPolled t c.poll-result.new.self c.poll-result.result) (sym c.task-item.is) c.poll-result.ensures.polled,
    ) in
    record {
      polled = zip_step c.args.tasks.now items at lt i.rest IsPolledOnce c.task-item.result c.poll-result.new.self c.task-item.is i.polled polled;
      rest = rest_step c.args.tasks.now items at lt i.rest c.poll-result.new.self;
      kept = λ fact h. c.poll-result.ensures.kept fact (i.kept fact h);
    }
