use Rattle.std.proofs.Common.{◌≡◌, ◌≤◌, length}
use Rattle.xc_tokens.specs.Quoted.{literal_of}
use Rattle.xc_tokens.proofs.Laws.{behind_bytes}
use Rattle.xc_lines.proofs.quoted.past_escapes.Given as goal

-- what the literal means so far, and the rest
abbrev pub invariant-loop-rest : goal.invariant-loop-rest
invariant-loop-rest l =
    record {
      same : behind_bytes l.meant.items (literal_of l.rest) ≡ literal_of l.bytes;
      fewer : length l.rest ≤ length l.bytes;
    }

abbrev pub decreases-loop-rest : goal.decreases-loop-rest
decreases-loop-rest l = length l.rest
