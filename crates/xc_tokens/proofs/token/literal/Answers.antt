use Rattle.std.proofs.Common.{◌≡◌, ◌+◌, ◌-◌, drop, length, length-drop, take, take_all, arith, rules}
use Rattle.xc_tokens.proofs.Quotes.{quote_closes}
use Rattle.xc_tokens.proofs.token.literal.Goals as goal

pub returns-clause-value : goal.returns-clause-value
returns-clause-value c =
    let bytes = c.args.bytes.now in
    let n = c.front_len-n.result in
    let rest : take (length bytes - (n + 1)) (drop (n + 1) bytes) ≡ drop (n + 1) bytes =
    take_all (length bytes - (n + 1)) (drop (n + 1) bytes) (rw length-drop (omega arith)) in
    rw (quote_closes bytes n (search rules) (search rules) (search rules)) (rw rest at c.plain_literal.ensures.value)
