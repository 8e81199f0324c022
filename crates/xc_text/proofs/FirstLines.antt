-- A line of at least one token.
use Rattle.std.proofs.Common.{◌≡◌, ◌-◌, ◌<◌, List, [], ◌∷◌, length, map, take, drop, get_or, take_all, Some, Result, Ok, Err, refl, arith}
use Rattle.xc_text.specs.declared.line.ScriptLine.{ScriptLine}
use Rattle.xc_text.specs.Grammar.{first_line}
use Rattle.xc_text.specs.Inner.{is_open}
use Rattle.xc_text.specs.Said.{Said}
use Rattle.xc_text.specs.Steps.{after_line, after_any, after_tokens}
use Rattle.xc_tokens.specs.declared.token.Token.{Token}
use Rattle.xc_tokens.specs.declared.why.Why.{Why}
use Rattle.xc_tokens.specs.Answers.{and_then, seen}
use Rattle.xc_tokens.specs.Views.{lexeme}

one_said : (s : Said) (says : Result ScriptLine Why) → and_then (seen Some says) (λ line. after_any s line) ≡ and_then says (λ line. after_line s line)
one_said s (Ok line) = refl
one_said s (Err why) = refl

-- it adds what its first token says with the others
pub first_says : (s : Said) (t : Token) (ts : List Token) → t ≡ get_or ts 0 t → 0 < length ts →
    after_tokens s (map lexeme ts)
    ≡ and_then (first_line s.section (is_open s.body) (lexeme t) (map lexeme (take (length ts - 1) (drop 1 ts)))) (λ line. after_line s line)
first_says s t [] e some = absurd (omega arith)
first_says s t (u ∷ ts) e some =
    rw (e, take_all (length (u ∷ ts) - 1) ts (omega arith)) (one_said s (first_line s.section (is_open s.body) (lexeme u) (map lexeme ts)))
