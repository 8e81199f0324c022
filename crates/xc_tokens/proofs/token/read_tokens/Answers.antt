use Rattle.std.proofs.Common.{◌≡◌, ◌<◌, ◌-◌, Result, length, map, [], ap, sym, subst, Some, None, Ok, rules, arith}
use Rattle.xc_tokens.specs.declared.why.Why.{Why}
use Rattle.xc_tokens.specs.Answers.{seen}
use Rattle.xc_tokens.specs.Front.{Makes}
use Rattle.xc_tokens.specs.Tokens.{past_blanks, token_at, tokens_of, with_next}
use Rattle.xc_tokens.specs.Views.{lexeme}
use Rattle.xc_tokens.proofs.TokenLists.{Next, makes_all, tokens_ended, next_more, next_length, tokens_stopped}
use Rattle.xc_tokens.proofs.token.read_tokens.Goals as goal

pub loop-behind-init : goal.loop-behind-init
loop-behind-init c =
    let none : map lexeme c.clear.new.self.items ≡ [] = ap (map lexeme) c.clear.ensures.items in
    let line = c.args.line.now in
    c.in_ok-rest.ensures.read (length line) (tokens_of line) (subst (λ ts. Makes (length line) (tokens_of line) ts line) (sym none) (makes_all line))

pub returns-in_err-behind : goal.returns-in_err-behind
returns-in_err-behind c =
    let tokens = map lexeme c.loop-behind.tokens.items in
    search (
      rules,
      tokens_stopped c.in_err-behind.field-0.0 tokens (length c.args.line.now - length tokens) c.loop-behind.rest.now (tokens_of c.args.line.now)
          (omega (arith, c.loop-behind.invariant.0)) c.loop-behind.invariant.1 c.in_err-behind.ensures.value,
    )

pub loop-behind-preserved : goal.loop-behind-preserved
loop-behind-preserved c =
    let tokens = map lexeme c.loop-behind.tokens.items in
    let longer = map lexeme c.push_token.new.tokens.items in
    let next = token_at (past_blanks c.loop-behind.rest.now) in
    let made : ◌≡◌ {A = Result Next Why} (Ok (longer, Some c.in-Some.behind.now)) (seen (with_next tokens) next) = search rules in
    let one = next_length tokens longer c.in-Some.behind.now next made in
    let shorter : length c.in-Some.behind.now < length c.loop-behind.rest.now = search rules in (
      omega (arith, one, shorter, c.loop-behind.invariant.0),
      next_more (length c.args.line.now) tokens longer c.loop-behind.rest.now c.in-Some.behind.now (tokens_of c.args.line.now)
          (omega (arith, shorter, c.loop-behind.invariant.0)) made c.loop-behind.invariant.1,
    )

pub returns : goal.returns
returns c =
    let tokens = map lexeme c.loop-behind.tokens.items in
    let all = map lexeme c.push_token.new.tokens.items in
    let next = token_at (past_blanks c.loop-behind.rest.now) in
    let made : ◌≡◌ {A = Result Next Why} (Ok (all, None)) (seen (with_next tokens) next) = search rules in
    tokens_ended tokens all _ c.loop-behind.rest.now (tokens_of c.args.line.now) c.loop-behind.invariant.1 made
