use Rattle.std.proofs.Common.{refl, sym, subst, ap, arith}
use Rattle.std.specs.Prelude.{slice_set}
use Rattle.xc_model.specs.Moment.{active_in}
use Rattle.xc_model.specs.Setting.{setting}
use Rattle.xc_model.specs.Rows.{IsTurn}
use Rattle.xc_station.specs.declared.job.Stage.TheVariants as PlainStage
use Rattle.xc_station.specs.Jobs.{IsStage, doing_of, goes_on, job_view, started_in}
use Rattle.xc_station.specs.Stations.{moment, now_of, room_of, setting_of}
use Rattle.xc_station.proofs.Ahead.{ahead_kept, taken_kept}
use Rattle.xc_station.proofs.BacksKept.{backs_set, safe_without}
use Rattle.xc_station.proofs.RoomsKept.{rooms_still}
use Rattle.xc_station.proofs.Stages.{fed_inactive, lent, starved_stage}
use Rattle.xc_station.proofs.Steady.{steady_kept}
use Rattle.xc_station.proofs.TurnRows.{starved_turned}
use Rattle.xc_station.proofs.Waiting.{starts_still}
use Rattle.xc_station.proofs.station.Station.starved.Goals as goal
use Rattle.xc_station.proofs.Notes.{backed_without}

pub invariant_of-self : goal.invariant_of-self
invariant_of-self g c =
    let was = c.index_mut.result.now in
    let job = c.feed.new.self in
    let station = c.self.inside in
    let model = g.H.Host.model in
    let at = c.args.at in
    let s = setting station.opening.script station.rules model.tells in
    let is = lent station.jobs.items at PlainStage.Starved was (subst (λ v. IsStage v.jobs at PlainStage.Starved)
    (sym c.self.view_is) c.requires) c.index_mut.ensures.value in
    let none = fed_inactive (job_view was) (job_view job) station.opening.script.clients c.feed.ensures.fed.0 in
    let turned = starved_turned model station.shared station.journal.items station.jobs.items at was s job c.feed.result is c.feed.ensures.fed in record {
      steady = steady_kept s station.opening.faults at _ _ c.feed.result c.self.invariant.steady turned;
      rooms = rooms_still model station.shared station.journal.items station.jobs.items at was job station.active station.journal.spare station.lines is.there
          c.self.invariant.rooms station.shared.sentinels station.journal.items station.journal.spare refl (λ n. refl)
          (ap active_in (starved_stage (doing_of was) is.stage))
          none
          (omega arith);
      ahead = ahead_kept station.jobs.items at was job station.ahead.items is.there (ap goes_on is.stage) c.self.invariant.ahead;
      taken = taken_kept station.jobs.items at job station.taken c.self.invariant.taken;
      plan = c.self.invariant.plan;
      backed = λ tells.
          backed_without _ _ _ station.jobs.items at was job is.there ((c.self.invariant.backed tells).kept) none
          (c.self.invariant.backed tells);
      unparted = c.self.invariant.unparted;
      indexed = c.self.invariant.indexed;
      starts = starts_still model station.shared station.shared station.journal.items station.journal.items station.jobs.items at was job
          (room_of station.jobs station.lines station.ahead) s station.opening.faults c.feed.result c.self.invariant.steady is.there turned refl
          (ap (started_in station.opening.script (job_view was)) (starved_stage (doing_of was) is.stage)) c.feed.ensures.children c.self.invariant.starts;
      undoable = backs_set station.rules.undo_tries station.jobs.items at was job is.there
          (safe_without station.rules.undo_tries job none) c.self.invariant.undoable;
    }

pub returns-clause-row : goal.returns-clause-row
returns-clause-row g c =
    let was = c.index_mut.result.now in
    let job = c.feed.new.self in
    let station = c.self.inside in
    let model = g.H.Host.model in
    let at = c.args.at in
    let is = lent station.jobs.items at PlainStage.Starved was (subst (λ v. IsStage v.jobs at PlainStage.Starved)
    (sym c.self.view_is) c.requires) c.index_mut.ensures.value in
    let turned = starved_turned model station.shared station.journal.items station.jobs.items at was
    (setting station.opening.script station.rules model.tells) job c.feed.result is c.feed.ensures.fed in
    subst (λ v. IsTurn (setting_of model v) at (now_of model v) c.feed.result (moment model station.shared station.journal.items
    (slice_set station.jobs.items at job))) c.self.view_is turned
