use Rattle.xc_flight.proofs.Aborting.{records_made}
use Rattle.xc_flight.proofs.turns.a_transaction_leaves_records.Goals as goal

pub returns : goal.returns
returns c = records_made
