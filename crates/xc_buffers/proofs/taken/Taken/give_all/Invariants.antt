use Rattle.std.proofs.Common.{◌≡◌, ◌+◌, ◌≤◌, true, length}
use Rattle.std.specs.Prelude.{All}
use Rattle.xc_buffers.specs.Items.{AreKept, is_fit}
use Rattle.xc_buffers.proofs.Gathered.{Pending}
use Rattle.xc_buffers.proofs.taken.Taken.give_all.Given as goal

-- the last ones are given back so far, and there is room for the others
abbrev pub invariant-loop-item : goal.invariant-loop-item
invariant-loop-item l = record {
  pending : Pending l.fn.self.items l.fn.kept.items l.self-inside.notes.items l.kept.items;
  fit : All (λ t. is_fit t ≡ true) l.self-inside.notes.items;
  in_order : AreKept l.fn.kept.items → AreKept l.kept.items;
  room : length l.self-inside.notes.items ≤ l.kept.spare;
  spare : l.fn.kept.spare + length l.self-inside.notes.items ≡ l.kept.spare + length l.fn.self.items;
}

abbrev pub decreases-loop-item : goal.decreases-loop-item
decreases-loop-item l = length l.self-inside.notes.items
