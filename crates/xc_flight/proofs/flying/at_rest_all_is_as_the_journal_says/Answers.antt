use Rattle.xc_flight.proofs.Moving.{all_free}
use Rattle.xc_flight.proofs.flying.at_rest_all_is_as_the_journal_says.Goals as goal

pub returns : goal.returns
returns c = all_free
