use Rattle.std.proofs.Common.{◌≤◌, ◌-◌, length}
use Rattle.xc_tokens.proofs.LineCuts.{NoEnd}
use Rattle.xc_tokens.proofs.lines.line_len.Given as goal

abbrev pub invariant-loop-n : goal.invariant-loop-n
invariant-loop-n l = record { within : l.n ≤ length l.bytes; none : NoEnd l.n l.bytes }

abbrev pub decreases-loop-n : goal.decreases-loop-n
decreases-loop-n l = length l.bytes - l.n
