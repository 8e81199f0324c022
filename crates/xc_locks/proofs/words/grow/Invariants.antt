use Rattle.std.proofs.Common.{◌≡◌, ◌+◌, ◌-◌, length}
use Rattle.xc_locks.specs.Words.{words_of}
use Rattle.xc_locks.proofs.words.grow.Given as goal

-- what was pushed isn't seen
abbrev pub invariant-loop-holders : goal.invariant-loop-holders
invariant-loop-holders l = words_of l.holders.items ≡ words_of l.fn.holders.items

abbrev pub decreases-loop-holders : goal.decreases-loop-holders
decreases-loop-holders l = l.at + 1 - length l.holders.items
