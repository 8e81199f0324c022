use Rattle.std.proofs.Common.{◌≡◌, ◌+◌, None, Some, ap, subst, sym, ◌∙◌}
use Rattle.std.specs.List.{position}
use Rattle.xc_model.specs.Movers.{IsActiveAt}
use Rattle.xc_model.specs.Setting.{setting}
use Rattle.xc_station.specs.HandedTold.{is_numbered}
use Rattle.xc_station.specs.Jobs.{doing_of, job_views}
use Rattle.xc_station.specs.Moments.{marks_of}
use Rattle.xc_station.specs.Stations.{StationView}
use Rattle.xc_station.specs.declared.job.Job.{Job}
use Rattle.xc_turns.proofs.Laws.{given_once}
use Rattle.xc_station.proofs.NumberedJobs.{numbered_there}
use Rattle.xc_station.proofs.station.Station.job_of.Goals as goal

pub returns-in-Some-clause-only : goal.returns-in-Some-clause-only
returns-in-Some-clause-only g c at tx active is =
    let station = c.self.inside in
    let jobs = station.jobs.items in
    let there = subst (λ (v : StationView g.row.H.Denot). IsActiveAt (job_views v.jobs) at tx) (sym c.self.view_is) active in
    let first = c.numbered.ensures ∙ ap (position (λ (job : Job). is_numbered c.args.number (doing_of job))) c.as_slice.ensures.value in
    let found = numbered_there jobs c.args.number c.numbered.result
    (given_once (setting station.opening.script station.rules g.H.Host.model.tells) _ (marks_of station.shared.sentinels.seats) station.journal.items
    (job_views jobs) c.self.invariant.steady.kept.told)
    first at tx there is in
    let same : c.in-Some.at ≡ at = let e = c.in-Some.is in cc (e, found) in
    ap (λ n. Some (n + 1)) same

pub returns-in-None-clause-only : goal.returns-in-None-clause-only
returns-in-None-clause-only g c at tx active is =
    let station = c.self.inside in
    let jobs = station.jobs.items in
    let there = subst (λ (v : StationView g.row.H.Denot). IsActiveAt (job_views v.jobs) at tx) (sym c.self.view_is) active in
    let first = c.numbered.ensures ∙ ap (position (λ (job : Job). is_numbered c.args.number (doing_of job))) c.as_slice.ensures.value in
    let found = numbered_there jobs c.args.number c.numbered.result
    (given_once (setting station.opening.script station.rules g.H.Host.model.tells) _ (marks_of station.shared.sentinels.seats) station.journal.items
    (job_views jobs) c.self.invariant.steady.kept.told)
    first at tx there is in
    let none : None ≡ Some at = sym c.in-None.is ∙ found in cc none
