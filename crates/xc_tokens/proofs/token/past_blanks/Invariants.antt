use Rattle.std.proofs.Common.{◌≡◌, ◌≤◌, length}
use Rattle.xc_tokens.specs.Tokens.{past_blanks}
use Rattle.xc_tokens.proofs.token.past_blanks.Given as goal

abbrev pub invariant-loop-rest : goal.invariant-loop-rest
invariant-loop-rest l = record { same : past_blanks l.rest ≡ past_blanks l.bytes; fewer : length l.rest ≤ length l.bytes }

abbrev pub decreases-loop-rest : goal.decreases-loop-rest
decreases-loop-rest l = length l.rest
