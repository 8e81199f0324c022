use Rattle.std.proofs.Common.{arith}
use Rattle.xc_model.specs.Setting.{setting}
use Rattle.xc_station.specs.Stations.{moment}
use Rattle.xc_station.proofs.Ready.{few_begun}
use Rattle.xc_station.proofs.station.Station.entries.Goals as goal

pub len-requires : goal.len-requires
len-requires g c =
    let station = c.self.inside in
    let now = moment g.H.Host.model station.shared station.journal.items station.jobs.items in
    let few = few_begun (setting station.opening.script station.rules g.H.Host.model.tells) station.opening.faults now c.self.invariant.steady in
    omega (arith, few)
