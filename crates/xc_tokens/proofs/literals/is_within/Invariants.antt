use Rattle.std.proofs.Common.{◌≡◌, ◌≤◌, ◌+◌, length, map, drop}
use Rattle.xc_tokens.specs.Literals.{literal_bytes}
use Rattle.xc_tokens.specs.Views.{lexeme}
use Rattle.xc_tokens.proofs.literals.is_within.Given as goal

-- the bytes so far, and those that are left
abbrev pub invariant-loop-token : goal.invariant-loop-token
invariant-loop-token l =
    record {
      same : l.total + length (literal_bytes (map lexeme (drop l.token-index l.tokens))) ≡ length (literal_bytes (map lexeme l.tokens));
      few : l.total ≤ l.most;
    }
