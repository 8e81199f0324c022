use Rattle.std.proofs.Common.{◌≡◌, ◌≤◌, ◌+◌, length}
use Rattle.xc_tokens.specs.Lines.{lines_of}
use Rattle.xc_text.specs.Scripts.{read_from}
use Rattle.xc_text.specs.Said.{nothing_said}
use Rattle.xc_text.proofs.parser.read_lines.Given as goal

-- the lines so far, and the rest
abbrev pub invariant-loop-rest : goal.invariant-loop-rest
invariant-loop-rest l =
    record {
      same : read_from l.lines l.draft (lines_of l.rest) ≡ read_from 0 nothing_said (lines_of l.text);
      few : l.lines + length l.rest ≤ 1048576;
    }

abbrev pub decreases-loop-rest : goal.decreases-loop-rest
decreases-loop-rest l = length l.rest
