use Rattle.std.proofs.Common.{◌∙◌}
use Rattle.xc_compensate.proofs.Listing.{all_ended}
use Rattle.xc_compensate.proofs.stack.Stack.records.Goals as goal

pub returns : goal.returns
returns c = c.trimmed.ensures ∙ c.from_vec.ensures ∙ all_ended _ c.self.inside.pending c.args.self c.self.view_is c.self.invariant.within c.requires
