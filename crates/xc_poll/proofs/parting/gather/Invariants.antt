use Rattle.std.proofs.Common.{◌≡◌, ◌+◌, All}
use Rattle.xc_turnstile.specs.Views.{BeginsWith}
use Rattle.xc_poll.specs.Crews.{BeginsWithEvents, shares_of}
use Rattle.xc_poll.specs.Tasks.{Task}
use Rattle.xc_poll.proofs.parting.gather.Given as goal

-- the passes that were met are one, which has their shares
abbrev pub invariant-loop-task : goal.invariant-loop-task
invariant-loop-task g l =
    record {
      table : l.mine.table ≡ l.fn.asking.table;
      homes : All (λ (task : Task). task.home ≡ l.fn.asking.table) l.left.items;
      shares : l.mine.view.shares + shares_of l.left.items ≡ l.fn.asking.view.shares + shares_of l.fn.tasks.items;
      origin : l.mine.view.origin ≡ l.fn.asking.view.origin;
      seen : BeginsWith l.mine.view.seen l.fn.asking.view.seen;
      own_events : BeginsWithEvents l.mine.view.events l.fn.asking.view.events;
    }

abbrev pub decreases-loop-task : goal.decreases-loop-task
decreases-loop-task g l = goal.left-loop-task g l
