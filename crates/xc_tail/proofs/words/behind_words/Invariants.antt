use Rattle.std.proofs.Common.{◌≡◌, ◌++◌, List, drop}
use Rattle.xc_sheet.specs.Ends.{lines_of_words}
use Rattle.xc_sheet.specs.declared.lines.Line.{Line}
use Rattle.xc_tail.proofs.words.behind_words.Given as goal

-- what is left decides
abbrev pub invariant-loop-at : goal.invariant-loop-at
invariant-loop-at l =
    record {
      to : (rest : List Line) → l.initial.lines ≡ lines_of_words 0 l.words ++ rest → l.lines ≡ lines_of_words l.at (drop l.at l.words) ++ rest;
      from : (rest : List Line) → l.lines ≡ lines_of_words l.at (drop l.at l.words) ++ rest → l.initial.lines ≡ lines_of_words 0 l.words ++ rest;
    }
