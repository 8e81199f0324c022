use Rattle.std.proofs.Common.{◌≡◌, ◌^◌}
use Rattle.xc_lines.specs.Held.{behind_claims, further_at}
use Rattle.xc_lines.proofs.held.read_further.Given as goal

-- what was read, and how many more may be
abbrev pub invariant-loop-left : goal.invariant-loop-left
invariant-loop-left l = behind_claims l.claims (further_at l.left l.text) ≡ behind_claims l.fn.first (further_at (2 ^ 26) l.fn.text)

abbrev pub decreases-loop-left : goal.decreases-loop-left
decreases-loop-left l = l.left
