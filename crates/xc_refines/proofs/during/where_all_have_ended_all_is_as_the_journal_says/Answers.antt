use Rattle.xc_refines.proofs.AtRest.{at_rest}
use Rattle.xc_refines.proofs.during.where_all_have_ended_all_is_as_the_journal_says.Goals as goal

pub returns : goal.returns
returns c = at_rest
