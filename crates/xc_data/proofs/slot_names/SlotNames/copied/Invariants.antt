use Rattle.std.proofs.Common.{◌≡◌, take}
use Rattle.xc_data.proofs.slot_names.SlotNames.copied.Given as goal

-- those so far
abbrev pub invariant-loop-name : goal.invariant-loop-name
invariant-loop-name l = l.shared.items ≡ take l.name-index l.name-items
