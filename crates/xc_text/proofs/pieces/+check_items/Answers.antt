use Rattle.std.proofs.Common.{rules, arith, ◌<◌, length}
use Rattle.xc_text.proofs.Checked.{checked_tokens}
use Rattle.xc_text.proofs.pieces.+check_items.Goals as goal

pub returns-in-len1-up : goal.returns-in-len1-up
returns-in-len1-up t c =
    let some : 0 < length c.args.tokens.now = omega (arith, c.in-len1-up.len_at_least) in
    rw (checked_tokens c.first-item.result c.args.tokens.now c.first-item.is some) (search rules)
