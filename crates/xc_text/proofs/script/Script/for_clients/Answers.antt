use Rattle.xc_text.proofs.Keeping.{of_clients}
use Rattle.xc_text.proofs.script.Script.for_clients.Goals as goal

pub returns-clause-script : goal.returns-clause-script
returns-clause-script c = of_clients c.args.self
