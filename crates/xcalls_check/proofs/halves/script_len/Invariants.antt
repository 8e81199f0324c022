use Rattle.std.proofs.Common.{◌≡◌, ◌≤◌, ◌+◌, ◌-◌, length, drop, true}
use Rattle.xcalls_check.specs.Halves.{script_len_from}
use Rattle.xcalls_check.proofs.halves.script_len.Given as goal

-- no line so far is the mark
abbrev pub invariant-loop-n : goal.invariant-loop-n
invariant-loop-n l =
    record {
      within : l.n ≤ length l.input;
      same : l.n + script_len_from true (drop l.n l.input) ≡ script_len_from true l.input;
    }

abbrev pub decreases-loop-n : goal.decreases-loop-n
decreases-loop-n l = length l.input - l.n
