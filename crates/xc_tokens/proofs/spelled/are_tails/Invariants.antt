use Rattle.std.proofs.Common.{◌≡◌, length}
use Rattle.std.specs.List.{list_all}
use Rattle.xc_data.specs.Spelling.{is_ident_byte}
use Rattle.xc_tokens.proofs.spelled.are_tails.Given as goal

-- what is left decides
abbrev pub invariant-loop-rest : goal.invariant-loop-rest
invariant-loop-rest l = list_all is_ident_byte l.rest ≡ list_all is_ident_byte l.bytes

abbrev pub decreases-loop-rest : goal.decreases-loop-rest
decreases-loop-rest l = length l.rest
