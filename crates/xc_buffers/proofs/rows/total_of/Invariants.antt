use Rattle.std.proofs.Common.{◌≡◌, ◌-◌, ◌^◌, min, length, take}
use Rattle.std.specs.List.{sum_by}
use Rattle.xc_buffers.specs.Items.{item_bytes}
use Rattle.xc_buffers.proofs.rows.total_of.Given as goal

-- the total of the items so far
abbrev pub invariant-loop-item : goal.invariant-loop-item
invariant-loop-item l = l.total ≡ min (sum_by (λ t. length (item_bytes t)) (take l.item-index l.items)) (2 ^ 32 - 1)
