use Rattle.std.proofs.Common.{ap, sym, ◌∙◌, is_some}
use Rattle.xc_live.specs.Told.{tx_at}
use Rattle.xc_station.specs.Jobs.{job_views}
use Rattle.xc_station.specs.Stations.{StationView}
use Rattle.xc_live.proofs.Numbered.{some_told}
use Rattle.xc_live.proofs.desk.Desk.abort.Goals as goal

pub finish-requires-clause-begun : goal.finish-requires-clause-begun
finish-requires-clause-begun g c =
    some_told (tx_at (job_views c.self.inside.station.jobs) c.args.client) c.is_active.result
    (c.is_active.ensures ∙ ap (λ (s : StationView _). is_some (tx_at (job_views s.jobs) c.args.client)) (sym c.self.view_is)) c.if-not-is_active.false
