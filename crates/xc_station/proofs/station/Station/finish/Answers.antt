use Rattle.std.proofs.Common.{◌≡◌, ◌<◌, ap, sym, ◌∙◌, subst, length}
use Rattle.std.specs.Prelude.{List, sum_by, slice_index_or}
use Rattle.xc_data.specs.Counts.{RisesBy}
use Rattle.xc_data.specs.Faults.{entry_faults}
use Rattle.xc_model.specs.Ending.{IsTrueEnd}
use Rattle.xc_model.specs.Handles.{AreCalled}
use Rattle.xc_model.specs.Consistent.{AreLinesOf}
use Rattle.xc_model.specs.Live.{IsScripted}
use Rattle.xc_model.specs.Setting.{setting}
use Rattle.xc_station.specs.declared.job.Job.{Job}
use Rattle.xc_station.specs.Jobs.{is_live, job_view, job_views}
use Rattle.xc_station.specs.Stations.{NobodyLives, StationView, moment}
use Rattle.xc_station.proofs.Ended.{called_end, counted_end, each_ended, true_end}
use Rattle.xc_station.proofs.station.Station.finish.Goals as goal
use Rattle.xc_station.specs.Moments.{told_by}
use Rattle.xc_data.specs.declared.entry.KeptItem.{KeptItem}
use Rattle.xc_host.specs.Kept.{with_kept}

pub lines_of-requires-clause-ended : goal.lines_of-requires-clause-ended
lines_of-requires-clause-ended g c k d low =
    let jobs : List Job = c.self.inside.jobs.items in
    let nobody : NobodyLives jobs = subst (λ v. NobodyLives v.jobs) (sym c.self.view_is) c.requires in
    let value : c.as_slice.result.now ≡ jobs = c.as_slice.ensures.value in
    ap (λ (all : List Job). is_live (job_view (slice_index_or all k d))) value
    ∙ each_ended jobs nobody k d (subst (λ (all : List Job). k < length all) value low)

pub returns-clause-whole : goal.returns-clause-whole
returns-clause-whole g c =
    let model = g.H.Host.model in
    let station = c.self.inside in
    let now = moment model station.shared station.journal.items station.jobs.items in
    let over : AreLinesOf (job_views station.jobs.items) c.lines_of.result =
    subst (λ (all : List Job). AreLinesOf (job_views all) c.lines_of.result) c.as_slice.ensures.value c.lines_of.ensures in
    let whole = true_end (setting station.opening.script station.rules model.tells) station.opening.faults now c.lines_of.result c.self.invariant.steady over in
    let listed = subst (λ words. IsTrueEnd (setting station.opening.script station.rules model.tells) station.journal.items
    (record { words = words; contents = told_by model station.shared; lines = c.lines_of.result })) (sym c.list.ensures) whole in
    let kept = subst (λ (items : List KeptItem). IsTrueEnd (setting station.opening.script station.rules model.tells) station.journal.items
    (record { words = c.list.result; contents = with_kept (model.contents station.shared.host) items; lines = c.lines_of.result }))
    (sym c.into_items.ensures.items) listed in
    subst (λ v. IsTrueEnd (setting v.opening.script v.rules model.tells) station.journal.items
    (record { words = c.list.result; contents = with_kept (model.contents station.shared.host) c.into_items.result; lines = c.lines_of.result }))
    c.self.view_is kept

pub returns-clause-faults : goal.returns-clause-faults
returns-clause-faults g c =
    let model = g.H.Host.model in
    let station = c.self.inside in
    let now = moment model station.shared station.journal.items station.jobs.items in
    let over : AreLinesOf (job_views station.jobs.items) c.lines_of.result =
    subst (λ (all : List Job). AreLinesOf (job_views all) c.lines_of.result) c.as_slice.ensures.value c.lines_of.ensures in
    let whole = counted_end (setting station.opening.script station.rules model.tells) station.opening.faults now c.lines_of.result c.self.invariant.steady
    over in
    subst (λ v. RisesBy (sum_by entry_faults station.journal.items) v.opening.faults (model.fault_count station.shared.host)) c.self.view_is whole

pub returns-clause-calls : goal.returns-clause-calls
returns-clause-calls g c own =
    let model = g.H.Host.model in
    let station = c.self.inside in
    let now = moment model station.shared station.journal.items station.jobs.items in
    let over : AreLinesOf (job_views station.jobs.items) c.lines_of.result =
    subst (λ (all : List Job). AreLinesOf (job_views all) c.lines_of.result) c.as_slice.ensures.value c.lines_of.ensures in
    let mine = subst (λ (v : StationView g.row.H.Denot). IsScripted v.opening.script) (sym c.self.view_is) own in
    let whole = called_end (setting station.opening.script station.rules model.tells) station.opening.faults now c.lines_of.result mine
    c.self.invariant.steady over in
    subst (λ v. AreCalled v.opening.script station.journal.items (model.calls station.shared.host)) c.self.view_is whole

pub returns-clause-unparted : goal.returns-clause-unparted
returns-clause-unparted g c own =
    c.self.invariant.unparted (subst (λ (v : StationView g.row.H.Denot). IsScripted v.opening.script) (sym c.self.view_is) own)
