use Rattle.std.proofs.Common.{◌≡◌, ◌+◌, ◌≤◌, length}
use Rattle.std.specs.Option.{ForSome}
use Rattle.xc_model.specs.Recorded.{all_records, no_records}
use Rattle.xc_judge.specs.Counts.{count_of, counts}
use Rattle.xc_judge.proofs.Counting.{all_counts}
use Rattle.xc_judge.proofs.faults.records_of.Given as goal

-- what is left leads to the same; each call left a record at most
abbrev pub invariant-loop-calls : goal.invariant-loop-calls
invariant-loop-calls l =
    record {
      same : all_counts (counts l.counted) l.calls l.replies ≡ count_of (all_records no_records l.initial.calls l.initial.replies);
      few : l.counted.count + length l.calls ≤ length l.initial.calls;
      kept : ForSome l.counted.saved (λ saved. saved + length l.calls ≤ length l.initial.calls);
    }

abbrev pub decreases-loop-calls : goal.decreases-loop-calls
decreases-loop-calls l = length l.calls
