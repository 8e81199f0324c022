use Rattle.std.proofs.Common.{◌<◌, length, arith, rules}
use Rattle.xc_text.proofs.FirstLines.{first_says}
use Rattle.xc_text.proofs.draft.Draft.read_line.Goals as goal

pub returns-in-len1-up : goal.returns-in-len1-up
returns-in-len1-up c =
    let some : 0 < length c.args.tokens.now = omega (arith, c.in-len1-up.len_at_least) in
    rw (first_says c.args.self.now c.first-item.result c.args.tokens.now c.first-item.is some) (search rules)
