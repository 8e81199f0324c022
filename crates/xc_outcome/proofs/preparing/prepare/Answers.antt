use Rattle.xc_outcome.proofs.Completeness.{caused_where_not_run}
use Rattle.xc_outcome.proofs.preparing.prepare.Goals as goal

pub returns-in-Ok-clause-caused : goal.returns-in-Ok-clause-caused
returns-in-Ok-clause-caused g c =
    let d = c.start_bytes.ensures in
    caused_where_not_run _ _ _ _ _ c.in-Ok.ensures.ok d.bytes d.refused d.unscripted
