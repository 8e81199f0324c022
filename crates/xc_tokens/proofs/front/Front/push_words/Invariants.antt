use Rattle.std.proofs.Common.{◌≤◌, length, drop, map}
use Rattle.xc_tokens.specs.Front.{line_in, ReadOn}
use Rattle.xc_tokens.specs.Views.{lexeme}
use Rattle.xc_tokens.proofs.front.Front.push_words.Given as goal

-- the words so far, and what stands after them
abbrev pub invariant-loop-word : goal.invariant-loop-word
invariant-loop-word l =
    record {
      within : l.at ≤ l.self.len;
      few : l.at ≤ 16;
      read : ReadOn (map lexeme l.initial.tokens.items) (line_in l.self) (map lexeme l.tokens.items) (drop l.at (line_in l.self));
    }

abbrev pub decreases-loop-word : goal.decreases-loop-word
decreases-loop-word l = length (drop l.at (line_in l.self))
