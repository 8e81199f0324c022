use Rattle.std.proofs.Common.{ap, ◌∙◌}
use Rattle.xc_live.specs.Told.{tx_at}
use Rattle.xc_station.specs.Jobs.{job_views}
use Rattle.xc_station.specs.Stations.{StationView, live_at}
use Rattle.xc_live.proofs.Begun.{begun_calm}
use Rattle.xc_live.proofs.desk.Desk.begin.Goals as goal

pub invariant_of-self : goal.invariant_of-self
invariant_of-self g c =
    begun_calm g.H.Host.model c.args.client c.self.inside.station c.turn.new.self c.turn.result c.self.invariant
    (ap (λ (s : StationView _). live_at s.jobs c.args.client) c.self.view_is ∙ c.requires.live)
    (ap (λ (s : StationView _). tx_at (job_views s.jobs) c.args.client) c.self.view_is ∙ c.requires.none)
    (c.turn.ensures.row, c.turn.ensures.same)
