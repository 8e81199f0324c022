use Rattle.std.proofs.Common.{◌≡◌, ◌≤◌, ◌+◌, ◌-◌, ◌==◌, length, take, drop}
use Rattle.std.specs.List.{list_any}
use Rattle.xc_tokens.specs.Tokens.{run_len}
use Rattle.xc_tokens.proofs.token.unquoted_run.Given as goal

-- the run so far, and the rest of it, where a quote may be
abbrev pub invariant-loop-n : goal.invariant-loop-n
invariant-loop-n l =
    record {
      within : l.n ≤ length l.bytes;
      same : l.n + run_len (drop l.n l.bytes) ≡ run_len l.bytes;
      quote : list_any (λ c. c == 34) (take (run_len (drop l.n l.bytes)) (drop l.n l.bytes)) ≡ list_any (λ c. c == 34) (take (run_len l.bytes) l.bytes);
    }

abbrev pub decreases-loop-n : goal.decreases-loop-n
decreases-loop-n l = length l.bytes - l.n
