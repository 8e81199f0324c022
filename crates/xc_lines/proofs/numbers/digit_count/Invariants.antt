use Rattle.std.proofs.Common.{◌≡◌, ◌≤◌, ◌+◌, ◌-◌, length, drop}
use Rattle.std.specs.List.{prefix_len}
use Rattle.xc_tokens.specs.Numbers.{is_digit}
use Rattle.xc_lines.proofs.numbers.digit_count.Given as goal

-- the run so far, and the rest of it
abbrev pub invariant-loop-n : goal.invariant-loop-n
invariant-loop-n l =
    record {
      within : l.n ≤ length l.bytes;
      same : l.n + prefix_len is_digit (drop l.n l.bytes) ≡ prefix_len is_digit l.bytes;
    }

abbrev pub decreases-loop-n : goal.decreases-loop-n
decreases-loop-n l = length l.bytes - l.n
