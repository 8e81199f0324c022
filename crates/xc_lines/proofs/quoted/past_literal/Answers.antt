use Rattle.std.proofs.Common.{◌≡◌, ◌+◌, ◌-◌, ◌∙◌, drop, length, length-drop, take, take_all, arith, rules}
use Rattle.xc_tokens.proofs.Laws.{quote_closes}
use Rattle.xc_lines.proofs.quoted.past_literal.Goals as goal

pub returns-clause-means : goal.returns-clause-means
returns-clause-means c =
    let bytes = c.args.bytes.now in
    let n = c.front_len-n.result in
    let rest : take (length bytes - (n + 1)) (drop (n + 1) bytes) ≡ drop (n + 1) bytes =
    take_all (length bytes - (n + 1)) (drop (n + 1) bytes) (rw length-drop (omega arith)) in
    quote_closes bytes n (search rules) (search rules) (search rules) ∙ search rules
