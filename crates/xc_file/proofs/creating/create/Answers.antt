use Rattle.xc_file.proofs.FileUses.{uses_create}
use Rattle.xc_file.proofs.creating.create.Goals as goal

pub returns-in-Ok-None-clause-uses : goal.returns-in-Ok-None-clause-uses
returns-in-Ok-None-clause-uses g c =
    uses_create g.H.Host.model c.args.name.now c.args.host.now c.lookup.new.self c.create_recorded.new.host c.create_recorded.result
    c.lookup.ensures.answered.used c.create_recorded.ensures.uses
