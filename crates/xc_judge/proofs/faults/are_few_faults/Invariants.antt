use Rattle.std.proofs.Common.{◌+◌, ◌≤◌, length}
use Rattle.std.specs.Option.{ForSome}
use Rattle.xc_model.specs.Recorded.{AreFewFaults, no_records}
use Rattle.xc_judge.specs.Counts.{counts}
use Rattle.xc_judge.proofs.Counting.{AreFewBy}
use Rattle.xc_judge.proofs.faults.are_few_faults.Given as goal

-- what is left decides; each call left a record at most
abbrev pub invariant-loop-calls : goal.invariant-loop-calls
invariant-loop-calls l =
    record {
      to : AreFewFaults l.tries no_records l.initial.calls l.initial.replies → AreFewBy l.tries (counts l.counted) l.calls l.replies;
      from : AreFewBy l.tries (counts l.counted) l.calls l.replies → AreFewFaults l.tries no_records l.initial.calls l.initial.replies;
      few : l.counted.count + length l.calls ≤ length l.initial.calls;
      kept : ForSome l.counted.saved (λ saved. saved + length l.calls ≤ length l.initial.calls);
    }

abbrev pub decreases-loop-calls : goal.decreases-loop-calls
decreases-loop-calls l = length l.calls
