use Rattle.std.proofs.Common.{◌≤◌, take, drop, map, subst, ap, sym, ◌∙◌}
use Rattle.xc_tokens.specs.Front.{InText, line_in, ReadOn}
use Rattle.xc_tokens.specs.Views.{lexeme}
use Rattle.xc_tokens.proofs.TokenLists.{line_left}
use Rattle.xc_tokens.proofs.token.push_front.Goals as goal

pub returns-clause-read : goal.returns-clause-read
returns-clause-read c =
    let text = c.text-text.result.now in
    let n = c.len-n.result in
    let line = c.text-text.ensures ∙ ap (λ k. take k text) (sym c.len-n.ensures) in
    let before = map lexeme c.args.tokens.now.items in
    let tokens = map lexeme c.push_words.new.tokens.items in
    let shown = subst (λ (s : InText). ReadOn before (line_in s) tokens (drop c.in_ok-at.at (line_in s))) c.new.ensures c.in_ok-at.ensures.read in
    let within = subst (λ (s : InText). c.in_ok-at.at ≤ s.len) c.new.ensures c.in_ok-at.ensures.bound in
    line_left before c.args.line.now tokens text n c.in_ok-at.at line within shown
