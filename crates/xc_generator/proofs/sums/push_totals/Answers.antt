use Rattle.std.proofs.Common.{append_assoc, ◌∙◌}
use Rattle.xc_generator.proofs.sums.push_totals.Goals as goal

pub returns : goal.returns
returns c = c.in_ok-write.ensures.bytes ∙ simp append_assoc
