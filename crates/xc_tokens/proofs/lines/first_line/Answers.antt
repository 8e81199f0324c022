use Rattle.std.proofs.Common.{take, sym, ap, ◌∙◌, subst, arith, rules}
use Rattle.std.specs.List.{list_all}
use Rattle.xc_tokens.specs.Lines.{is_line_byte}
use Rattle.xc_tokens.proofs.LineCuts.{NoEnd, all_clean, clean_front, clean_at_end, clean_at_last}
use Rattle.xc_tokens.proofs.lines.first_line.Goals as goal

pub invariant_of-line : goal.invariant_of-line
invariant_of-line c = (
  omega (arith, c.front_len-n.ensures.bound),
  sym (all_clean c.args.bytes.now) ∙ ap (λ n. list_all is_line_byte (take n c.args.bytes.now)) (sym c.front_len-n.ensures.value),
)

pub invariant_of-line-then-bytes-n-eq10 : goal.invariant_of-line-then-bytes-n-eq10
invariant_of-line-then-bytes-n-eq10 c = (
  omega (arith, c.front_len-n.ensures.bound),
  sym (all_clean c.args.bytes.now) ∙ ap (λ n. list_all is_line_byte (take n c.args.bytes.now)) (sym c.front_len-n.ensures.value),
)

pub returns-then-n-bytes-clause-cut : goal.returns-then-n-bytes-clause-cut
returns-then-n-bytes-clause-cut c =
    let bs = c.args.bytes.now in
    clean_at_last c.front_len-n.result bs (omega arith) (omega arith) (subst (λ k. NoEnd k bs) (sym c.front_len-n.ensures.value) (clean_front bs))

pub returns-then-bytes-n-eq10-clause-cut : goal.returns-then-bytes-n-eq10-clause-cut
returns-then-bytes-n-eq10-clause-cut c =
    let bs = c.args.bytes.now in
    clean_at_end c.front_len-n.result bs (omega arith) (subst (λ k. NoEnd k bs) (sym c.front_len-n.ensures.value) (clean_front bs)) (search rules)
