use Rattle.std.proofs.Common.{◌≡◌, ◌-◌, ◌≤◌, length}
use Rattle.xc_buffers.specs.Items.{AreKept}
use Rattle.xc_world.specs.Run.{given_back}
use Rattle.xc_world.specs.World.{World}
use Rattle.xc_calls.specs.Taking.{bytes_back}
use Rattle.xc_pipe.proofs.holding.take_kept.Given as goal

-- a front was taken so far, and no room was lost
abbrev pub invariant-loop-alloc : goal.invariant-loop-alloc
invariant-loop-alloc l = record {
  most : length l.front ≤ l.n;
  taken : (w : World) → given_back w l.fn.kept.items ≡ given_back (given_back w l.kept.items) (bytes_back l.pipe l.front);
  in_order : AreKept l.fn.kept.items → AreKept l.kept.items;
  room : l.fn.kept.spare ≤ l.kept.spare;
}

abbrev pub decreases-loop-alloc : goal.decreases-loop-alloc
decreases-loop-alloc l = l.n - length l.front
