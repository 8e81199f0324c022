use Rattle.std.proofs.Common.{◌≡◌, ◌+◌, length}
use Rattle.xc_script.specs.Blocks.{kept_calls}
use Rattle.xc_asked.proofs.kept.kept_count.Given as goal

-- those so far and those that are left
abbrev pub invariant-loop-call : goal.invariant-loop-call
invariant-loop-call l = l.count + length l.kept ≡ length (kept_calls l.fn.calls l.fn.replies)

abbrev pub decreases-loop-call : goal.decreases-loop-call
decreases-loop-call l = length l.kept
