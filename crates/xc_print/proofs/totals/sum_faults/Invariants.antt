use Rattle.std.proofs.Common.{◌≡◌, ◌+◌, ◌*◌, ◌≤◌, ◌^◌, drop, sum_by}
use Rattle.xc_data.specs.Faults.{undo_faults}
use Rattle.xc_print.proofs.totals.sum_faults.Given as goal

-- what is counted and what is left are all, and each one counted is below a bound
abbrev pub invariant-loop-ended : goal.invariant-loop-ended
invariant-loop-ended l = (l.faults + sum_by undo_faults (drop l.ended-index l.records) ≡ sum_by undo_faults l.records)
    × (l.faults ≤ l.ended-index * 2 ^ 32)
