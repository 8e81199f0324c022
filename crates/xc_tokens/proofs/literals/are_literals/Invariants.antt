use Rattle.std.proofs.Common.{◌≡◌, map, drop}
use Rattle.std.specs.List.{list_all}
use Rattle.xc_tokens.specs.Literals.{is_literal}
use Rattle.xc_tokens.specs.Views.{lexeme}
use Rattle.xc_tokens.proofs.literals.are_literals.Given as goal

-- what is left decides
abbrev pub invariant-loop-token : goal.invariant-loop-token
invariant-loop-token l =
    list_all is_literal (map lexeme (drop l.token-index l.tokens)) ≡ list_all is_literal (map lexeme l.tokens)
