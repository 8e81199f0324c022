use Rattle.std.proofs.Common.{◌≡◌, drop}
use Rattle.std.specs.BTreeMap.{is_at}
use Rattle.std.specs.Map.{lookup}
use Rattle.xc_maps.specs.Keys.{name_cmp}
use Rattle.xc_maps.proofs.aside.place.Given as goal

-- no entry so far has the name
abbrev pub invariant-loop-at : goal.invariant-loop-at
invariant-loop-at g l = lookup (is_at (name_cmp l.name)) (drop l.at l.entries) ≡ lookup (is_at (name_cmp l.name)) l.entries
