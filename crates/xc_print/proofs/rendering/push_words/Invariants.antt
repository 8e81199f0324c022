use Rattle.std.proofs.Common.{◌≡◌, ◌++◌, drop}
use Rattle.xc_print.specs.Text.{word_lines}
use Rattle.xc_print.proofs.rendering.push_words.Given as goal

-- what is printed and what is left are all
abbrev pub invariant-loop-at : goal.invariant-loop-at
invariant-loop-at g l = g.P.Paper.said l.out ++ word_lines l.at (drop l.at l.words) ≡ g.P.Paper.said l.fn.out ++ word_lines 0 l.words
