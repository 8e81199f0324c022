use Rattle.std.proofs.Common.{◌≡◌, ◌+◌, ◌*◌, ◌≤◌, ◌^◌, drop, sum_by}
use Rattle.xc_tail.specs.ShownTotals.{end_faults_shown}
use Rattle.xc_tail.proofs.totals.sum_faults.Given as goal

-- what is counted and what is left are all, and each one counted is below a bound
abbrev pub invariant-loop-record : goal.invariant-loop-record
invariant-loop-record l = (l.faults + sum_by end_faults_shown (drop l.record-index l.records) ≡ sum_by end_faults_shown l.records)
    × (l.faults ≤ l.record-index * 2 ^ 32)
