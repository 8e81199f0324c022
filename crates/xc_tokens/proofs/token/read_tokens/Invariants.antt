use Rattle.std.proofs.Common.{length, map}
use Rattle.xc_tokens.specs.Front.{Makes}
use Rattle.xc_tokens.specs.Tokens.{tokens_of}
use Rattle.xc_tokens.specs.Views.{lexeme}
use Rattle.xc_tokens.proofs.token.read_tokens.Given as goal

-- the tokens so far, and those of the rest, which are no more than its bytes
abbrev pub invariant-loop-behind : goal.invariant-loop-behind
invariant-loop-behind l = Makes (length l.line) (tokens_of l.line) (map lexeme l.tokens.items) l.rest

abbrev pub decreases-loop-behind : goal.decreases-loop-behind
decreases-loop-behind l = length l.rest
