use Rattle.std.proofs.Common.{◌≡◌, ◌+◌, ◌*◌, ◌≤◌, ◌^◌, drop, sum}
use Rattle.xc_generator.proofs.sums.sum_of.Given as goal

-- what is added and what is left are all, and each word is below a bound
abbrev pub invariant-loop-word : goal.invariant-loop-word
invariant-loop-word l = (l.total + sum (drop l.word-index l.words) ≡ sum l.words) × (l.total ≤ l.word-index * 2 ^ 64)
