use Rattle.std.proofs.Common.{◌≤◌, List, ℕ, ap, arith, length, subst, sym, ◌∙◌}
use Rattle.std.specs.Prelude.{Option}
use Rattle.std.proofs.lemmas.List.{length-map}
use Rattle.xc_model.specs.Setting.{setting}
use Rattle.xc_station.specs.Jobs.{job_view}
use Rattle.xc_station.specs.Names.{IsNameOf, block_name_at}
use Rattle.xc_station.specs.Stations.{StationView, moment}
use Rattle.xc_station.proofs.Named.{told_name}
use Rattle.xc_station.proofs.station.Station.name.Goals as goal

pub returns-clause-told : goal.returns-clause-told
returns-clause-told g c =
    let station = c.self.inside in
    let model = g.H.Host.model in
    let job = c.args.job in
    let s = setting station.opening.script station.rules model.tells in
    let now = moment model station.shared station.journal.items station.jobs.items in
    let kept = c.self.invariant.steady.kept in
    let same = c.name_in.ensures ∙ ap (λ (names : List (List ℕ)). block_name_at names job) c.as_slice.ensures in
    subst (λ (v : StationView g.row.H.Denot). 1 ≤ job → job ≤ length v.jobs → IsNameOf v.opening.script v.journal job c.name_in.result) c.self.view_is
    (λ some few. subst (λ (name : Option (List ℕ)). IsNameOf station.opening.script station.journal.items job name) (sym same)
    (told_name s _ _ now kept.told kept.started job some (omega (arith, few, length-map station.jobs.items job_view))))
