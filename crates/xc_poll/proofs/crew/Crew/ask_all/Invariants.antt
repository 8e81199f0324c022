use Rattle.std.proofs.Common.{◌-◌, ◌≡◌, ◌≤◌, List, ℕ, length}
use Rattle.xc_poll.specs.Askings.{HandOut}
use Rattle.xc_poll.proofs.crew.Crew.ask_all.Given as goal

-- so many jobs were handed out
abbrev pub invariant-loop-count : goal.invariant-loop-count
invariant-loop-count g l =
    record {
      few : l.count ≤ 1000;
      handed : (jobs : List ℕ) × (length jobs ≡ l.count) × HandOut l.fn.self jobs l.self;
    }

abbrev pub decreases-loop-count : goal.decreases-loop-count
decreases-loop-count g l = 1000 - l.count
