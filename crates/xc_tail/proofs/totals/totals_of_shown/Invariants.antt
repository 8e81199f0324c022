use Rattle.std.proofs.Common.{◌≡◌, ◌+◌, ◌*◌, ◌≤◌, ◌^◌, not, length, drop, count_by, sum_by}
use Rattle.xc_shown.specs.declared.shown.Shown.{Shown}
use Rattle.xc_tail.specs.ShownTotals.{faults_shown, is_committed_shown}
use Rattle.xc_tail.proofs.totals.totals_of_shown.Given as goal

-- what is counted and what is left are all, and each one counted is below a bound
abbrev pub invariant-loop-shown : goal.invariant-loop-shown
invariant-loop-shown l =
    record {
      committed : l.committed + count_by is_committed_shown (drop l.shown-index l.entries) ≡ count_by is_committed_shown l.entries;
      few_committed : l.committed ≤ l.shown-index;
      aborted : l.aborted + count_by (λ (shown : Shown). not (is_committed_shown shown)) (drop l.shown-index l.entries)
          ≡ count_by (λ (shown : Shown). not (is_committed_shown shown)) l.entries;
      few_aborted : l.aborted ≤ l.shown-index;
      faults : l.faults + sum_by faults_shown (drop l.shown-index l.entries) ≡ sum_by faults_shown l.entries;
      few_faults : l.faults ≤ l.shown-index * 2 ^ 98;
      remains : l.remains + sum_by (λ (shown : Shown). length shown.effects) (drop l.shown-index l.entries)
          ≡ sum_by (λ (shown : Shown). length shown.effects) l.entries;
      few_remains : l.remains ≤ l.shown-index * 2 ^ 64;
    }
