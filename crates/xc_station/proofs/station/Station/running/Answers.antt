use Rattle.std.proofs.Common.{sym, subst, ◌∙◌, ap, ◌≡◌, arith}
use Rattle.std.specs.Prelude.{length, slice_set, All}
use Rattle.xc_model.specs.Setting.{setting}
use Rattle.xc_model.specs.Rows.{IsTurn}
use Rattle.xc_station.specs.declared.job.Stage.TheVariants as PlainStage
use Rattle.xc_station.specs.Jobs.{doing_of, IsStage, goes_on, job_view}
use Rattle.xc_station.specs.Moments.{runs}
use Rattle.xc_station.specs.Stations.{StationView, moment, now_of, room_of, setting_of}
use Rattle.xc_station.proofs.Ahead.{ahead_kept, taken_kept}
use Rattle.xc_station.proofs.BacksKept.{backs_set, safe_running}
use Rattle.xc_station.proofs.Ready.{may_run, stands_now, few_words}
use Rattle.xc_station.proofs.RoomsKept.{rooms_running}
use Rattle.xc_station.proofs.Stages.{lent, running_stage}
use Rattle.xc_station.proofs.Steady.{steady_kept}
use Rattle.xc_station.proofs.TurnRows.{running_turned}
use Rattle.xc_station.proofs.Waiting.{none_running, starts_still}
use Rattle.xc_station.proofs.station.Station.running.Goals as goal
use Rattle.xc_station.specs.Lent.{IsBacked, notes_in}
use Rattle.xc_model.specs.Moment.{TxView, active_in}
use Rattle.xc_station.proofs.Notes.{backed_jobs, still_backed}
use Rattle.xc_data.proofs.Laws.{get_map}
use Rattle.std.specs.declared.option.Option.TheVariants.{Some}

pub run-requires-clause-running : goal.run-requires-clause-running
run-requires-clause-running g c =
    let was = c.index_mut.result.now in
    let station = c.self.inside in
    let model = g.H.Host.model in
    let at = c.args.at in
    let s = setting station.opening.script station.rules model.tells in
    let is = lent station.jobs.items at PlainStage.Running was (subst (λ v. IsStage v.jobs at PlainStage.Running) (sym c.self.view_is) c.requires)
    c.index_mut.ensures.value in
    may_run model station.shared station.journal.items station.jobs.items at was station.opening.script station.rules station.opening.faults station.active
    station.journal.spare station.lines c.self.invariant.steady c.self.invariant.rooms c.self.invariant.backed is

pub run-requires-clause-count : goal.run-requires-clause-count
run-requires-clause-count g c =
    let was = c.index_mut.result.now in
    let station = c.self.inside in
    let model = g.H.Host.model in
    let at = c.args.at in
    let s = setting station.opening.script station.rules model.tells in
    let is = lent station.jobs.items at PlainStage.Running was (subst (λ v. IsStage v.jobs at PlainStage.Running) (sym c.self.view_is) c.requires)
    c.index_mut.ensures.value in
    few_words s station.opening.faults (moment model station.shared station.journal.items station.jobs.items) c.self.invariant.steady

pub run-requires-clause-save : goal.run-requires-clause-save
run-requires-clause-save g c =
    let was = c.index_mut.result.now in
    let station = c.self.inside in
    let at = c.args.at in
    let is = lent station.jobs.items at PlainStage.Running was (subst (λ v. IsStage v.jobs at PlainStage.Running) (sym c.self.view_is) c.requires)
    c.index_mut.ensures.value in
    let mine = running_stage (doing_of was) is.stage in
    (safe_running station.rules.undo_tries was mine.tx (c.self.invariant.undoable at was is.there) mine.doing (ap runs mine.phase)).save

pub invariant_of-self : goal.invariant_of-self
invariant_of-self g c =
    let was = c.index_mut.result.now in
    let station = c.self.inside in
    let model = g.H.Host.model in
    let at = c.args.at in
    let s = setting station.opening.script station.rules model.tells in
    let is = lent station.jobs.items at PlainStage.Running was (subst (λ v. IsStage v.jobs at PlainStage.Running) (sym c.self.view_is) c.requires)
    c.index_mut.ensures.value in
    let shared' = c.run.new.shared in
    let job = c.run.new.job in
    let row = c.run.ensures.row (moment model station.shared station.journal.items station.jobs.items) at
    (stands_now model station.shared station.journal.items station.jobs.items at was station.opening.script station.rules station.opening.faults
    station.active
    station.journal.spare station.lines c.self.invariant.steady c.self.invariant.rooms PlainStage.Running is)
    (ap (λ (v : StationView g.row.H.Denot). length v.journal) c.self.view_is ∙ sym c.entries-entered.ensures) in
    let turned = running_turned model station.shared station.journal.items station.jobs.items at was s shared' job c.run.result is c.run.ensures.started row in
    let mine = running_stage (doing_of was) is.stage in
    let lends = c.run.ensures.lends mine.tx mine.doing in record {
      steady = steady_kept s station.opening.faults at _ _ c.run.result c.self.invariant.steady turned;
      rooms = rooms_running model station.shared station.journal.items station.jobs.items at was job station.active station.journal.spare station.lines is.there
          c.self.invariant.rooms s shared' c.run.result row
          (let noted = lends.2.noted in
          let before = ap (λ d. notes_in (active_in d)) mine.doing in
          let behind = ap (λ d. notes_in (active_in d)) lends.1 in
          omega (arith, noted, before, behind));
      ahead = ahead_kept station.jobs.items at was job station.ahead.items is.there (ap goes_on is.stage) c.self.invariant.ahead;
      taken = taken_kept station.jobs.items at job station.taken c.self.invariant.taken;
      plan = c.run.ensures.plan ∙ c.self.invariant.plan;
      backed = λ tells.
          let c' = model.contents station.shared.host in
          let d = model.contents shared'.host in
          let are = c.self.invariant.backed tells in
          let keeps = lends.2.keeps tells in
          let took = still_backed c' d (lends.0).taken keeps (lends.2.taken tells are.kept (are.taken at mine.tx
          (job_view was, get_map job_view station.jobs.items at was is.there, ap active_in mine.doing))) in
          backed_jobs c' d _ _ station.jobs.items at was job is.there keeps (still_backed c' d shared'.buffers.kept keeps (lends.2.kept tells are.kept))
          (λ tx active.
          let both : Some (lends.0) ≡ Some tx = ap active_in (sym lends.1) ∙ active in
          let one : lends.0 ≡ tx = cc both in
          subst (λ (t : TxView). All (IsBacked d) t.taken) one took)
          are;
      unparted = c.self.invariant.unparted;
      indexed = c.self.invariant.indexed;
      starts = starts_still model station.shared shared' station.journal.items station.journal.items station.jobs.items at was job
          (room_of station.jobs station.lines station.ahead) s station.opening.faults c.run.result c.self.invariant.steady is.there turned c.run.ensures.started
          (none_running s station.opening.faults (moment model station.shared station.journal.items station.jobs.items) at (job_view was) mine.tx
          c.self.invariant.steady (get_map job_view station.jobs.items at was is.there) mine.doing mine.phase) c.run.ensures.children c.self.invariant.starts;
      undoable = backs_set station.rules.undo_tries station.jobs.items at was job is.there c.run.ensures.backs c.self.invariant.undoable;
    }

pub returns-clause-row : goal.returns-clause-row
returns-clause-row g c =
    let was = c.index_mut.result.now in
    let station = c.self.inside in
    let model = g.H.Host.model in
    let at = c.args.at in
    let s = setting station.opening.script station.rules model.tells in
    let is = lent station.jobs.items at PlainStage.Running was (subst (λ v. IsStage v.jobs at PlainStage.Running) (sym c.self.view_is) c.requires)
    c.index_mut.ensures.value in
    let shared' = c.run.new.shared in
    let job = c.run.new.job in
    let row = c.run.ensures.row (moment model station.shared station.journal.items station.jobs.items) at
    (stands_now model station.shared station.journal.items station.jobs.items at was station.opening.script station.rules station.opening.faults
    station.active
    station.journal.spare station.lines c.self.invariant.steady c.self.invariant.rooms PlainStage.Running is)
    (ap (λ (v : StationView g.row.H.Denot). length v.journal) c.self.view_is ∙ sym c.entries-entered.ensures) in
    let turned = running_turned model station.shared station.journal.items station.jobs.items at was s shared' job c.run.result is c.run.ensures.started row in
    subst (λ v. IsTurn (setting_of model v) at (now_of model v) c.run.result (moment model shared' station.journal.items (slice_set station.jobs.items at job)))
    c.self.view_is turned
