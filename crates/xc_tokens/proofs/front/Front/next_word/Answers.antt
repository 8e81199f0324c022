use Rattle.std.proofs.Common.{◌≡◌, ◌≤◌, ◌+◌, ◌-◌, ◌<◌, not, take, drop, length, ap, subst, ◌∙◌, arith, Some, Ok}
use Rattle.std.proofs.lemmas.List.{length-take-le}
use Rattle.std.proofs.lemmas.List.Sums.{prefix_len-le-length}
use Rattle.std.specs.List.{prefix_len}
use Rattle.xc_tokens.specs.Front.{InText, is_mark, line_in}
use Rattle.xc_tokens.specs.Tokens.{Word, is_blank, past_blanks, token_at}
use Rattle.xc_lanes.proofs.Laws.{reaches}
use Rattle.xc_tokens.proofs.FrontWords.{rest_shorter, token_starts, word_before_blank, word_at_end}
use Rattle.xc_tokens.proofs.Windows.{run_twice}
use Rattle.xc_tokens.proofs.front.Front.next_word.Goals as goal

pub returns-then-end-self-2-clause-within : goal.returns-then-end-self-2-clause-within
returns-then-end-self-2-clause-within c =
    let text = c.self.inside.text.now in
    let lanes = take 16 text in
    let long : length lanes ≡ 16 = length-take-le 16 text c.self.invariant.room in
    let plain = prefix_len-le-length (λ b. not (is_mark b)) lanes in
    let len = ap (λ (s : InText). s.len) c.self.view_is in
    (omega (arith, len, c.if-end-self.true), omega (arith, c.if-end-self-2.true, c.self.invariant.plain, plain, long))

pub returns-then-end-self-2-clause-fewer : goal.returns-then-end-self-2-clause-fewer
returns-then-end-self-2-clause-fewer c =
    let text = c.self.inside.text.now in
    let lanes = take 16 text in
    let long : length lanes ≡ 16 = length-take-le 16 text c.self.invariant.room in
    let plain = prefix_len-le-length (λ b. not (is_mark b)) lanes in
    let few : c.next_set-start.result < 16 = omega (arith, c.next_set-end.ensures.bound.0, c.if-end-self-2.true, c.self.invariant.plain, plain, long) in
    let begins = c.next_set-start.ensures.shown (λ b. not (is_blank b)) lanes long c.self.invariant.other few
    ∙ ap (λ n. c.args.at + n) (run_twice is_blank (drop c.args.at lanes)) in
    let within : c.next_set-end.result < 16 = omega (arith, c.if-end-self-2.true, c.self.invariant.plain, plain, long) in
    let ends = c.next_set-end.ensures.shown is_blank lanes long c.self.invariant.blank within in
    let begin = token_starts text c.self.inside.len c.args.at c.next_set-start.result long c.requires begins few c.if-start-self.false in
    let less = rest_shorter text c.self.inside.len c.args.at c.next_set-end.result c.self.invariant.within (omega (arith, begins, ends, begin.1))
    (omega (arith, c.if-end-self.true)) in
    subst (λ (s : InText). length (drop c.next_set-end.result (line_in s)) < length (drop c.args.at (line_in s))) c.self.view_is less

pub returns-then-end-self-2-clause-reads : goal.returns-then-end-self-2-clause-reads
returns-then-end-self-2-clause-reads c =
    let text = c.self.inside.text.now in
    let lanes = take 16 text in
    let long : length lanes ≡ 16 = length-take-le 16 text c.self.invariant.room in
    let plain = prefix_len-le-length (λ b. not (is_mark b)) lanes in
    let few : c.next_set-start.result < 16 = omega (arith, c.next_set-end.ensures.bound.0, c.if-end-self-2.true, c.self.invariant.plain, plain, long) in
    let begins = c.next_set-start.ensures.shown (λ b. not (is_blank b)) lanes long c.self.invariant.other few
    ∙ ap (λ n. c.args.at + n) (run_twice is_blank (drop c.args.at lanes)) in
    let within : c.next_set-end.result < 16 = omega (arith, c.if-end-self-2.true, c.self.invariant.plain, plain, long) in
    let ends = c.next_set-end.ensures.shown is_blank lanes long c.self.invariant.blank within in
    let word = word_before_blank text c.self.inside.len c.args.at c.next_set-start.result c.next_set-end.result long c.requires begins ends
    c.if-end-self.true (omega (arith, c.if-end-self-2.true, c.self.invariant.plain)) in
    let bytes = take (c.next_set-end.result - c.next_set-start.result) (drop c.next_set-start.result text) in
    subst (λ (s : InText). token_at (past_blanks (drop c.args.at (line_in s))) ≡ Ok (Some (Word bytes, drop c.next_set-end.result (line_in s))))
    c.self.view_is word

pub returns-then-self-clause-within : goal.returns-then-self-clause-within
returns-then-self-clause-within c =
    let text = c.self.inside.text.now in
    let lanes = take 16 text in
    let long : length lanes ≡ 16 = length-take-le 16 text c.self.invariant.room in
    let plain = prefix_len-le-length (λ b. not (is_mark b)) lanes in
    let len = ap (λ (s : InText). s.len) c.self.view_is in
    (omega (arith, len), omega (arith, c.if-self.true, c.self.invariant.plain, plain, long))

pub returns-then-self-clause-fewer : goal.returns-then-self-clause-fewer
returns-then-self-clause-fewer c =
    let less = rest_shorter c.self.inside.text.now c.self.inside.len c.args.at c.self.inside.len c.self.invariant.within
    (omega (arith, c.next_set-start.ensures.bound.0, c.if-start-self.false)) (omega arith) in
    subst (λ (s : InText). length (drop c.self.inside.len (line_in s)) < length (drop c.args.at (line_in s))) c.self.view_is less

pub returns-then-self-clause-reads : goal.returns-then-self-clause-reads
returns-then-self-clause-reads c =
    let text = c.self.inside.text.now in
    let lanes = take 16 text in
    let long : length lanes ≡ 16 = length-take-le 16 text c.self.invariant.room in
    let plain = prefix_len-le-length (λ b. not (is_mark b)) lanes in
    let few : c.next_set-start.result < 16 = omega (arith, c.if-start-self.false, c.if-self.true, c.self.invariant.plain, plain, long) in
    let begins = c.next_set-start.ensures.shown (λ b. not (is_blank b)) lanes long c.self.invariant.other few
    ∙ ap (λ n. c.args.at + n) (run_twice is_blank (drop c.args.at lanes)) in
    let end : c.self.inside.len ≤ c.next_set-start.result + prefix_len (λ b. not (is_blank b)) (drop c.next_set-start.result lanes) =
    reaches c.self.inside.len c.next_set-end.result _ (c.next_set-end.ensures.shown is_blank lanes long c.self.invariant.blank)
    (c.next_set-end.ensures.past is_blank lanes long c.self.invariant.blank) c.if-end-self.false
    (omega (arith, c.if-self.true, c.self.invariant.plain, plain, long)) in
    let word = word_at_end text c.self.inside.len c.args.at c.next_set-start.result long c.requires begins c.if-start-self.false end
    (omega (arith, c.if-self.true, c.self.invariant.plain)) in
    let bytes = take (c.self.inside.len - c.next_set-start.result) (drop c.next_set-start.result text) in
    subst (λ (s : InText). token_at (past_blanks (drop c.args.at (line_in s))) ≡ Ok (Some (Word bytes, drop c.self.inside.len (line_in s))))
    c.self.view_is word
