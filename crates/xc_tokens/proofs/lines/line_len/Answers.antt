use Rattle.xc_tokens.proofs.LineCuts.{cut_at_end, cut_at_last}
use Rattle.std.proofs.Common.{arith, rules}
use Rattle.xc_tokens.proofs.lines.line_len.Goals as goal

pub returns-then-bytes-n-eq10-clause-cut : goal.returns-then-bytes-n-eq10-clause-cut
returns-then-bytes-n-eq10-clause-cut c = cut_at_end _ _ c.loop-n-test.true c.loop-n.invariant.none (search rules)

pub returns-clause-cut : goal.returns-clause-cut
returns-clause-cut c = cut_at_last _ _ (omega arith) (omega arith) c.loop-n.invariant.none
