use Rattle.std.proofs.Common.{◌≤◌, arith, length, subst}
use Rattle.xc_model.specs.Setting.{setting}
use Rattle.xc_station.specs.Stations.{StationView, moment}
use Rattle.xc_station.proofs.Ready.{few_begun}
use Rattle.xc_station.proofs.station.Station.note.Goals as goal

pub returns-clause-few : goal.returns-clause-few
returns-clause-few g c =
    let station = c.self.inside in
    let now = moment g.H.Host.model station.shared station.journal.items station.jobs.items in
    let few = few_begun (setting station.opening.script station.rules g.H.Host.model.tells) station.opening.faults now c.self.invariant.steady in
    subst (λ (v : StationView g.row.H.Denot). length v.journal ≤ 4294967295) c.self.view_is (omega (arith, few))
