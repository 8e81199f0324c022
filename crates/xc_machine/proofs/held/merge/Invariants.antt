use Rattle.std.proofs.Common.{◌≡◌, ◌++◌, take, drop, map}
use Rattle.xc_data.specs.Claims.{merged}
use Rattle.xc_machine.proofs.held.merge.Given as goal

-- those before the place are merged, the others are as they were
abbrev pub invariant-loop-h : goal.invariant-loop-h
invariant-loop-h l = l.h-items ≡ map (merged l.claim) (take l.h-index l.fn.held.items) ++ drop l.h-index l.fn.held.items
