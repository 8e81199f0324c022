use Rattle.std.proofs.Common.{◌≡◌, ◌++◌, ◌∷◌, [], drop, map, subst, sym, ap, ◌∙◌}
use Rattle.std.proofs.lemmas.List.{map-append}
use Rattle.xc_tokens.specs.Front.{line_in, ReadOn}
use Rattle.xc_tokens.specs.Tokens.{Word}
use Rattle.xc_tokens.specs.Views.{lexeme}
use Rattle.xc_tokens.proofs.TokenLists.{word_more}
use Rattle.xc_tokens.proofs.front.Front.push_words.Goals as goal

pub loop-word-preserved : goal.loop-word-preserved
loop-word-preserved c =
    let line = line_in c.args.self.now in
    let before = map lexeme c.args.tokens.now.items in
    let tokens = map lexeme c.loop-word.tokens.items in
    let behind = drop c.in-Some.end line in
    let longer : map lexeme c.push.new.self.items ≡ tokens ++ Word c.in-Some.word.now ∷ [] =
    ap (map lexeme) c.in_ok-push.ensures.items ∙ map-append lexeme c.loop-word.tokens.items _ in
    let more = word_more before line tokens (drop c.loop-word.at line) (Word c.in-Some.word.now) behind c.loop-word.invariant.read
    c.in-Some.ensures.fewer c.in-Some.ensures.reads in
    record {
      within = c.in-Some.ensures.within.0;
      few = c.in-Some.ensures.within.1;
      read = subst (λ ts. ReadOn before line ts behind) (sym longer) more;
    }
