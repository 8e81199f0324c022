use Rattle.std.proofs.Common.{◌≡◌, vec_len}
use Rattle.xc_shown.specs.Parting.{nothing_gathered, with_lines}
use Rattle.xc_shown.proofs.gathered.gather.Given as goal

-- the lines that are left lead to what all do
abbrev pub invariant-loop-line : goal.invariant-loop-line
invariant-loop-line l = with_lines l.rest.items l.gathered ≡ with_lines l.fn.lines nothing_gathered

abbrev pub decreases-loop-line : goal.decreases-loop-line
decreases-loop-line l = vec_len l.rest
