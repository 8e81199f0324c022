use Rattle.xc_grounds.proofs.Clashing.{second_decides}
use Rattle.xc_grounds.proofs.clashes.any_clashes.Goals as goal

pub returns-else-kept_clashes : goal.returns-else-kept_clashes
returns-else-kept_clashes c =
    second_decides c.args.listed.now c.args.wanted.now c.args.held.now c.kept_clashes.result c.clashes.result c.kept_clashes.ensures c.if-kept_clashes.false
    c.clashes.ensures
