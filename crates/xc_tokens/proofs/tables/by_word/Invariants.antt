use Rattle.std.proofs.Common.{◌≡◌, length, map}
use Rattle.xc_tokens.specs.ByWord.{by_word}
use Rattle.xc_tokens.proofs.tables.by_word.Given as goal

-- what is left of the table decides
abbrev pub invariant-loop-table : goal.invariant-loop-table
invariant-loop-table g l =
    by_word (map (λ entry. (entry.0.now, entry.1)) l.table) l.word ≡ by_word (map (λ entry. (entry.0.now, entry.1)) l.initial.table) l.word

abbrev pub decreases-loop-table : goal.decreases-loop-table
decreases-loop-table g l = length l.table
