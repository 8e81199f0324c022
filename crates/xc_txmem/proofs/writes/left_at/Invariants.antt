use Rattle.std.proofs.Common.{◌≡◌, drop}
use Rattle.xc_txmem.specs.Overlay.{left_at}
use Rattle.xc_txmem.proofs.writes.left_at.Given as goal

-- the stores that are left make of this value what all make of the first one
abbrev pub invariant-loop-place : goal.invariant-loop-place
invariant-loop-place l = left_at l.at l.left (drop l.place-index l.stores) ≡ left_at l.fn.at l.fn.value l.stores
