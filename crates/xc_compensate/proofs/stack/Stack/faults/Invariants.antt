use Rattle.std.proofs.Common.{◌≡◌, ◌-◌, ◌^◌, min, sum_by}
use Rattle.std.specs.Prelude.{take}
use Rattle.xc_data.specs.Faults.{undo_faults}
use Rattle.xc_compensate.proofs.stack.Stack.faults.Given as goal

abbrev pub invariant-loop-end : goal.invariant-loop-end
invariant-loop-end l = l.faults ≡ min (sum_by undo_faults (take l.end-index l.end-items)) (2 ^ 32 - 1)
