use Rattle.std.proofs.Common.{length, ◌-◌, ◌≡◌, ◌≤◌, All, MatchOption, take}
use Rattle.xc_poll.specs.Askings.{HasShares}
use Rattle.xc_poll.specs.Tasks.{Task}
use Rattle.xc_poll.proofs.parting.find_most.Given as goal

-- no pass before this place has more than the most so far
abbrev pub invariant-loop-at : goal.invariant-loop-at
invariant-loop-at g l =
    record {
      few : l.at ≤ length l.tasks;
      above : l.asking ≤ l.most;
      below : All (λ (task : Task). task.pass.view.shares ≤ l.most) (take l.at l.tasks);
      place : MatchOption l.place (l.most ≡ l.asking) (HasShares l.tasks l.most);
    }

abbrev pub decreases-loop-at : goal.decreases-loop-at
decreases-loop-at g l = length l.tasks - l.at
