use Rattle.std.proofs.Common.{◌≡◌, ◌≤◌, ◌+◌, ◌++◌, ℕ, List, length, vec_capacity}
use Rattle.std.specs.BTreeMap.{is_at}
use Rattle.std.specs.Map.{lookup}
use Rattle.xc_maps.specs.Keys.{name_cmp}
use Rattle.xc_maps.specs.Moved.{AreNew}
use Rattle.xc_maps.proofs.aside.put_away.Given as goal

-- nothing was changed but where the entries stand
abbrev pub invariant-loop : goal.invariant-loop
invariant-loop g l = record {
  same : (q : List ℕ) → lookup (is_at (name_cmp q)) (l.moved.items ++ l.entries.entries)
      ≡ lookup (is_at (name_cmp q)) (l.fn.moved.items ++ l.fn.entries.entries);
  fresh : AreNew name_cmp l.moved.items l.entries.entries;
  capacity : vec_capacity l.moved ≡ vec_capacity l.fn.moved;
  bound : length l.entries.entries + length l.moved.items ≤ length l.fn.entries.entries + length l.fn.moved.items;
}

abbrev pub decreases-loop : goal.decreases-loop
decreases-loop g l = length l.moved.items
