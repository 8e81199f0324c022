use Rattle.std.proofs.Common.{◌≡◌, ◌+◌, ◌≤◌, length, take, drop}
use Rattle.xc_buffers.specs.Items.{AreKept}
use Rattle.xc_buffers.proofs.Gathered.{Pending}
use Rattle.xc_buffers.proofs.taken.Taken.give_to.Given as goal

-- the last ones above the mark are given back so far, and there is room for the others above it
abbrev pub invariant-loop-item : goal.invariant-loop-item
invariant-loop-item l = record {
  pending : Pending (drop l.mark l.fn.self.items) l.fn.kept.items (drop l.mark l.self.items) l.kept.items;
  under : take l.mark l.self.items ≡ take l.mark l.fn.self.items;
  in_order : AreKept l.fn.kept.items → AreKept l.kept.items;
  room : length (drop l.mark l.self.items) ≤ l.kept.spare;
  spare : l.fn.kept.spare + length (drop l.mark l.self.items) ≡ l.kept.spare + length (drop l.mark l.fn.self.items);
}

abbrev pub decreases-loop-item : goal.decreases-loop-item
decreases-loop-item l = length l.self.items
