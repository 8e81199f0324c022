use Rattle.xc_runner.proofs.Events.{same_front}
use Rattle.xc_runner.proofs.workers.run_boxed.Goals as goal

pub returns-in-Err-clause-front : goal.returns-in-Err-clause-front
returns-in-Err-clause-front g c = same_front c.args.boxed c.in-Err.boxed c.in-Err.ensures.err
