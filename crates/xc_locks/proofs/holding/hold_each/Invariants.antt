use Rattle.std.proofs.Common.{◌≡◌, ◌≤◌, ◌+◌, length, take}
use Rattle.xc_data.specs.Claims.{AreOnceAtMost, holding, objects}
use Rattle.xc_locks.proofs.holding.hold_each.Given as goal

-- the claims so far are held; the rest has its room
abbrev pub invariant-loop-claim : goal.invariant-loop-claim
invariant-loop-claim l =
    record {
      held : l.held.items ≡ holding l.fn.held.items (take l.claim-index l.claims);
      once : AreOnceAtMost (objects l.held.items);
      room : length l.claims ≤ l.held.spare + l.claim-index;
    }
