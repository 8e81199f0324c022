use Rattle.std.proofs.Common.{sym, ◌∙◌}
use Rattle.xc_compensate.proofs.Blocking.{unhindered}
use Rattle.xc_compensate.proofs.stack.hindering.Goals as goal

pub returns-else-hindered-clause-way : goal.returns-else-hindered-clause-way
returns-else-hindered-clause-way c = λ from older. unhindered from older c.args.ended.now (sym c.requires ∙ c.if-hindered.false)
