use Rattle.std.proofs.Common.{ap}
use Rattle.xc_station.specs.declared.run_result.Opening.{Opening}
use Rattle.xc_live.proofs.Begun.{opened_desk}
use Rattle.xc_live.proofs.desk.Desk.start.Goals as goal

pub invariant_of-result : goal.invariant_of-result
invariant_of-result g c =
    opened_desk g.H.Host.model c.args.script c.in-Ok.station (ap (λ (o : Opening). o.script) c.in-Ok.ensures.ok.0) c.requires.clients
    c.in-Ok.ensures.opening
