use Rattle.std.proofs.Common.{◌≡◌, length}
use Rattle.std.specs.List.{list_all}
use Rattle.xc_tokens.specs.Lines.{is_line_byte}
use Rattle.xc_tokens.proofs.lines.are_line_bytes.Given as goal

-- what is left decides
abbrev pub invariant-loop-rest : goal.invariant-loop-rest
invariant-loop-rest l = list_all is_line_byte l.rest ≡ list_all is_line_byte l.bytes

abbrev pub decreases-loop-rest : goal.decreases-loop-rest
decreases-loop-rest l = length l.rest
