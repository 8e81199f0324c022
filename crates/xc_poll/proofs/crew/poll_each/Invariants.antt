use Rattle.std.proofs.Common.{◌≡◌, drop, take}
use Rattle.futures.specs.Task.{Keeps}
use Rattle.xc_poll.specs.Alls.{ArePolled}
use Rattle.xc_poll.proofs.crew.poll_each.Given as goal

-- the tasks before this one were polled
abbrev pub invariant-loop-task : goal.invariant-loop-task
invariant-loop-task g l =
    record {
      polled : ArePolled (take l.task-index l.fn.tasks) (take l.task-index l.task-items);
      rest : drop l.task-index l.task-items ≡ drop l.task-index l.fn.tasks;
      kept : Keeps l.fn.cx l.cx;
    }
