use Rattle.xc_world.proofs.Legal.{something_left}
use Rattle.xc_world.proofs.remaining.a_report_remains_exactly_where_an_effect_stands.Goals as goal

pub returns : goal.returns
returns c = something_left
