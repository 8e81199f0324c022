use Rattle.std.proofs.Common.{refl, sym, subst, ap, ◌∙◌, ◌≡◌}
use Rattle.std.specs.Prelude.{slice_set}
use Rattle.xc_model.specs.Setting.{setting}
use Rattle.xc_model.specs.Rows.{IsTurn}
use Rattle.xc_station.specs.declared.calls.Shared.{Shared}
use Rattle.xc_data.specs.declared.entry.Turn.TheVariants as turn
use Rattle.xc_station.specs.declared.job.Stage.TheVariants as PlainStage
use Rattle.xc_station.specs.Jobs.{IsStage, doing_of, goes_on, job_view, job_views}
use Rattle.xc_station.specs.Moments.{runs}
use Rattle.xc_station.specs.Stations.{moment, now_of, room_of, setting_of}
use Rattle.xc_station.proofs.Ahead.{ahead_kept, taken_kept}
use Rattle.xc_station.proofs.BacksKept.{backs_set, safe_ending}
use Rattle.xc_station.proofs.Ready.{may_undo, took_elsewhere, undo_elsewhere}
use Rattle.xc_station.proofs.RoomsKept.{rooms_going}
use Rattle.xc_station.proofs.Stages.{lent, undoing_stage}
use Rattle.xc_station.proofs.Steady.{steady_kept}
use Rattle.xc_station.proofs.TurnRows.{undoing_turned}
use Rattle.xc_station.proofs.Waiting.{none_undoing, starts_still}
use Rattle.xc_station.proofs.station.Station.undoing.Goals as goal
use Rattle.xc_station.proofs.Backed.{backed_undone}
use Rattle.xc_station.specs.Lent.{AreBacked}
use Rattle.xc_model.specs.Moment.{TxView, active_in}
use Rattle.xc_data.proofs.Laws.{get_map}
use Rattle.std.specs.declared.option.Option.TheVariants.{Some}

pub undo-requires-clause-undoing : goal.undo-requires-clause-undoing
undo-requires-clause-undoing g c =
    let was = c.index_mut.result.now in
    let station = c.self.inside in
    let model = g.H.Host.model in
    let at = c.args.at in
    let s = setting station.opening.script station.rules model.tells in
    let is = lent station.jobs.items at PlainStage.Undoing was (subst (λ v. IsStage v.jobs at PlainStage.Undoing) (sym c.self.view_is) c.requires)
    c.index_mut.ensures.value in
    may_undo model station.shared station.journal.items station.jobs.items at was station.opening.script station.rules station.opening.faults station.active
    station.journal.spare station.lines c.self.invariant.steady c.self.invariant.rooms c.self.invariant.backed is

pub invariant_of-self : goal.invariant_of-self
invariant_of-self g c =
    let was = c.index_mut.result.now in
    let station = c.self.inside in
    let model = g.H.Host.model in
    let at = c.args.at in
    let s = setting station.opening.script station.rules model.tells in
    let is = lent station.jobs.items at PlainStage.Undoing was (subst (λ v. IsStage v.jobs at PlainStage.Undoing) (sym c.self.view_is) c.requires)
    c.index_mut.ensures.value in
    let shared' : Shared g.row.H.Denot = record station.shared { host = c.undo.new.host } in
    let job = c.undo.new.job in
    let away = undo_elsewhere model station.shared station.journal.items station.jobs.items at was station.opening.script station.rules station.opening.faults
    station.active station.journal.spare station.lines c.self.invariant.steady c.self.invariant.rooms c.self.invariant.backed is in
    let turned = undoing_turned model station.shared station.journal.items station.jobs.items at was station.opening.script station.rules shared' job is
    c.undo.ensures.undone away (refl, refl, refl, refl) in
    let back = undoing_stage (doing_of was) is.stage in
    let gave = c.undo.ensures.undone back.tx back.doing in record {
      steady = steady_kept s station.opening.faults at _ _ turn.Went c.self.invariant.steady turned;
      rooms = rooms_going model station.shared station.journal.items station.jobs.items at was job station.active station.journal.spare station.lines is.there
          c.self.invariant.rooms s shared' back.tx (record back.tx { undo = gave.0 }) c.self.invariant.steady.kept.told refl back.doing
          (ap (λ j. j.doing) gave.1)
          refl refl refl refl refl;
      ahead = ahead_kept station.jobs.items at was job station.ahead.items is.there (ap goes_on is.stage) c.self.invariant.ahead;
      taken = taken_kept station.jobs.items at job station.taken c.self.invariant.taken;
      plan = gave.2.uses.used.plan ∙ c.self.invariant.plan;
      backed = λ tells.
          let tried = gave.2 in
          let c' = model.contents station.shared.host in
          let are = c.self.invariant.backed tells in
          let took = took_elsewhere model station.shared station.journal.items station.jobs.items at was station.opening.script station.rules
          station.opening.faults station.active station.journal.spare station.lines c.self.invariant.steady c.self.invariant.rooms c.self.invariant.backed is
          tried.older
          tried.tried tried.was tells in
          subst (λ d. AreBacked d station.shared.buffers.kept (job_views (slice_set station.jobs.items at job))) (sym (tried.effect tells))
          (backed_undone c' station.shared.buffers.kept station.jobs.items at was job tried.tried tried.end is.there
          (away tried.older tried.tried tried.was tells) took
          (λ tx active.
          let both : Some (record back.tx { undo = gave.0 }) ≡ Some tx = ap active_in (sym (ap (λ j. j.doing) gave.1)) ∙ active in
          let one : record back.tx { undo = gave.0 } ≡ tx = cc both in
          (back.tx, (job_view was, get_map job_view station.jobs.items at was is.there, ap active_in back.doing), ap (λ (t : TxView). t.taken) one))
          are);
      unparted = c.self.invariant.unparted;
      indexed = c.self.invariant.indexed;
      starts = starts_still model station.shared shared' station.journal.items station.journal.items station.jobs.items at was job
          (room_of station.jobs station.lines station.ahead) s station.opening.faults turn.Went c.self.invariant.steady is.there turned refl
          (none_undoing s station.opening.faults (moment model station.shared station.journal.items station.jobs.items) at (job_view was) back.tx
          back.cause c.self.invariant.steady (get_map job_view station.jobs.items at was is.there) back.doing back.phase) c.undo.ensures.children
          c.self.invariant.starts;
      undoable = backs_set station.rules.undo_tries station.jobs.items at was job is.there
          (safe_ending station.rules.undo_tries job (record back.tx { undo = gave.0 }) (ap (λ j. j.doing) gave.1) (ap runs back.phase))
          c.self.invariant.undoable;
    }

pub returns-clause-row : goal.returns-clause-row
returns-clause-row g c =
    let was = c.index_mut.result.now in
    let station = c.self.inside in
    let model = g.H.Host.model in
    let at = c.args.at in
    let s = setting station.opening.script station.rules model.tells in
    let is = lent station.jobs.items at PlainStage.Undoing was (subst (λ v. IsStage v.jobs at PlainStage.Undoing) (sym c.self.view_is) c.requires)
    c.index_mut.ensures.value in
    let shared' : Shared g.row.H.Denot = record station.shared { host = c.undo.new.host } in
    let job = c.undo.new.job in
    let away = undo_elsewhere model station.shared station.journal.items station.jobs.items at was station.opening.script station.rules station.opening.faults
    station.active station.journal.spare station.lines c.self.invariant.steady c.self.invariant.rooms c.self.invariant.backed is in
    let turned = undoing_turned model station.shared station.journal.items station.jobs.items at was station.opening.script station.rules shared' job is
    c.undo.ensures.undone away (refl, refl, refl, refl) in
    subst (λ v. IsTurn (setting_of model v) at (now_of model v) turn.Went (moment model shared' station.journal.items (slice_set station.jobs.items at job)))
    c.self.view_is turned
