use Rattle.std.proofs.Common.{◌≡◌, ◌++◌, map, drop}
use Rattle.xc_tokens.specs.Literals.{literal_bytes}
use Rattle.xc_tokens.specs.Views.{lexeme}
use Rattle.xc_tokens.proofs.literals.joined.Given as goal

-- the bytes so far, and those that are left
abbrev pub invariant-loop-token : goal.invariant-loop-token
invariant-loop-token l = l.bytes.items ++ literal_bytes (map lexeme (drop l.token-index l.tokens)) ≡ literal_bytes (map lexeme l.tokens)
