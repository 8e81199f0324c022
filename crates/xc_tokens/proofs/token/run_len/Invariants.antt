use Rattle.std.proofs.Common.{◌≡◌, ◌≤◌, ◌+◌, ◌-◌, length, drop}
use Rattle.xc_tokens.specs.Tokens.{run_len}
use Rattle.xc_tokens.proofs.token.run_len.Given as goal

-- the run so far, and the rest of it
abbrev pub invariant-loop-n : goal.invariant-loop-n
invariant-loop-n l =
    record {
      within : l.n ≤ length l.bytes;
      same : l.n + run_len (drop l.n l.bytes) ≡ run_len l.bytes;
    }

abbrev pub decreases-loop-n : goal.decreases-loop-n
decreases-loop-n l = length l.bytes - l.n
