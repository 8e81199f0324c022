use Rattle.std.proofs.Common.{◌≡◌, ◌≤◌, ◌+◌, length}
use Rattle.xc_tokens.specs.Quoted.{literal_of, measured}
use Rattle.xc_tokens.proofs.Quotes.{counted_literal}
use Rattle.xc_tokens.proofs.escaped.measure.Given as goal

-- the bytes so far, and the rest
abbrev pub invariant-loop-rest : goal.invariant-loop-rest
invariant-loop-rest l =
    record {
      same : counted_literal l.n (literal_of l.rest) ≡ measured (literal_of l.bytes);
      fewer : l.n + length l.rest ≤ length l.bytes;
    }

abbrev pub decreases-loop-rest : goal.decreases-loop-rest
decreases-loop-rest l = length l.rest
