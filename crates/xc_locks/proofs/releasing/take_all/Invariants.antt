use Rattle.std.proofs.Common.{◌≡◌, ◌+◌}
use Rattle.xc_locks.proofs.Released.{Taking}
use Rattle.xc_locks.proofs.releasing.take_all.Given as goal

-- the claims so far are done, in a step each
abbrev pub invariant-loop-at : goal.invariant-loop-at
invariant-loop-at g l =
    record {
      taking : Taking l.tx (record { old = l.fn.holders; new = l.holders }) (record { old = l.fn.claims.items; new = l.claims.items })
          l.at l.count;
      cost : l.steps ≡ l.fn.steps + l.at;
    }
