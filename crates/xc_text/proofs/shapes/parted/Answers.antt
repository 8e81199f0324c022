use Rattle.std.proofs.Common.{◌≡◌, ◌+◌, ◌-◌, List, [], length, map, take_all, ap, sym, ◌∙◌, arith, rules}
use Rattle.std.proofs.lemmas.Bool.{ltb-true}
use Rattle.std.proofs.lemmas.List.{drop_all}
use Rattle.xc_tokens.specs.declared.token.Token.{Token}
use Rattle.xc_tokens.specs.Tokens.{Lexeme}
use Rattle.xc_tokens.specs.Views.{lexeme}
use Rattle.xc_text.specs.Shapes.{parted as parted_said}
use Rattle.xc_text.proofs.Parted.{parts_of_slot, parts_without, parts_of_few}
use Rattle.xc_text.proofs.shapes.parted.Goals as goal
use Rattle.xc_text.proofs.shapes.parted.Goals.{in_default-via-then-tokens-lt2, in_default-via-in-len2-up+else-is_sign}

pub returns-in-len2-up-clause-front : goal.returns-in-len2-up-clause-front
returns-in-len2-up-clause-front c =
    let tokens = c.args.tokens.now in
    let len : length tokens ≡ length tokens - 2 + 2 = omega (arith, c.in-len2-up.len_at_least) in
    let parts = parts_of_slot tokens (length tokens - 2) c.word-item.result len c.word-item.is (search rules) in
    ap (λ (ts : List Token). map lexeme ts) c.split_at.ensures.front ∙ sym (ap (λ (p : List Lexeme × List Lexeme). p.0) parts)

pub returns-in-len2-up-clause-ending : goal.returns-in-len2-up-clause-ending
returns-in-len2-up-clause-ending c =
    let tokens = c.args.tokens.now in
    let len : length tokens ≡ length tokens - 2 + 2 = omega (arith, c.in-len2-up.len_at_least) in
    let parts = parts_of_slot tokens (length tokens - 2) c.word-item.result len c.word-item.is (search rules) in
    ap (λ (ts : List Token). map lexeme ts) c.split_at.ensures.back ∙ sym (ap (λ (p : List Lexeme × List Lexeme). p.1) parts)

pub returns-in_default-clause-front : goal.returns-in_default-clause-front
returns-in_default-clause-front c =
    let tokens = c.args.tokens.now in
    let whole : parted_said (map lexeme tokens) ≡ (map lexeme tokens, []) =
    elim c.in_default.branch [
      | in_default-via-then-tokens-lt2 w ↦ parts_of_few tokens (omega (arith, ltb-true))
      | in_default-via-in-len2-up+else-is_sign w ↦
          let len : length tokens ≡ length tokens - 2 + 2 = omega (arith, w.in-len2-up.len_at_least) in
          parts_without tokens (length tokens - 2) w.word-item.result len w.word-item.is (search rules)
    ] in
    let all = take_all (length tokens) tokens (omega arith) in
    ap (λ (ts : List Token). map lexeme ts) (c.split_at-in_default.ensures.front ∙ all)
    ∙ sym (ap (λ (p : List Lexeme × List Lexeme). p.0) whole)

pub returns-in_default-clause-ending : goal.returns-in_default-clause-ending
returns-in_default-clause-ending c =
    let tokens = c.args.tokens.now in
    let whole : parted_said (map lexeme tokens) ≡ (map lexeme tokens, []) =
    elim c.in_default.branch [
      | in_default-via-then-tokens-lt2 w ↦ parts_of_few tokens (omega (arith, ltb-true))
      | in_default-via-in-len2-up+else-is_sign w ↦
          let len : length tokens ≡ length tokens - 2 + 2 = omega (arith, w.in-len2-up.len_at_least) in
          parts_without tokens (length tokens - 2) w.word-item.result len w.word-item.is (search rules)
    ] in
    let none = drop_all (length tokens) tokens (omega arith) in
    ap (λ (ts : List Token). map lexeme ts) (c.split_at-in_default.ensures.back ∙ none)
    ∙ sym (ap (λ (p : List Lexeme × List Lexeme). p.1) whole)
