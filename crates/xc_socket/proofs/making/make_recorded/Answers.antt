use Rattle.xc_socket.proofs.KeptPairs.{keeps_made}
use Rattle.xc_socket.proofs.making.make_recorded.Goals as goal

pub returns-in-Ok-clause-keeps : goal.returns-in-Ok-clause-keeps
returns-in-Ok-clause-keeps g c = keeps_made g.H.Host.model c.args.num _ _ c.new_pair-made.ensures.answered
