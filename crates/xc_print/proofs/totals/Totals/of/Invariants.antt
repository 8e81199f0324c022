use Rattle.std.proofs.Common.{◌≡◌, ◌+◌, ◌*◌, ◌≤◌, ◌^◌, drop, count_by, sum_by}
use Rattle.xc_data.specs.Faults.{entry_faults}
use Rattle.xc_print.specs.Totals.{entry_remains, is_aborted, is_committed}
use Rattle.xc_print.proofs.totals.Totals.of.Given as goal

-- what is counted and what is left are all, and each one counted is below a bound
abbrev pub invariant-loop-entry : goal.invariant-loop-entry
invariant-loop-entry l =
    (l.committed + count_by is_committed (drop l.entry-index l.journal) ≡ count_by is_committed l.journal) × (l.committed ≤ l.entry-index)
    × (l.aborted + count_by is_aborted (drop l.entry-index l.journal) ≡ count_by is_aborted l.journal) × (l.aborted ≤ l.entry-index)
    × (l.faults + sum_by entry_faults (drop l.entry-index l.journal) ≡ sum_by entry_faults l.journal) × (l.faults ≤ l.entry-index * 2 ^ 97)
    × (l.remains + sum_by entry_remains (drop l.entry-index l.journal) ≡ sum_by entry_remains l.journal) × (l.remains ≤ l.entry-index * 2 ^ 64)
