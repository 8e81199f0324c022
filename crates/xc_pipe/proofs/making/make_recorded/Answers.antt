use Rattle.xc_pipe.proofs.KeptData.{keeps_making}
use Rattle.xc_pipe.proofs.making.make_recorded.Goals as goal

pub returns-in-Ok-clause-keeps : goal.returns-in-Ok-clause-keeps
returns-in-Ok-clause-keeps g c = keeps_making g.H.Host.model c.args.num _ _ c.new_pipe-made.ensures.answered
