use Rattle.std.proofs.Common.{refl, sym, subst, ap, ◌∙◌, ◌≡◌}
use Rattle.std.specs.Prelude.{slice_get, slice_set, All, map}
use Rattle.xc_deferred.specs.Queue.{Queue, next_thread}
use Rattle.xc_model.specs.Moment.{TxView, JobView, Active, active_in, late_left, with_queue}
use Rattle.xc_model.specs.Setting.{setting}
use Rattle.xc_model.specs.Rows.{IsTurn}
use Rattle.xc_model.specs.Movers.{with_tx}
use Rattle.xc_station.specs.declared.calls.Shared.{Shared}
use Rattle.xc_data.specs.declared.entry.Turn.TheVariants as turn
use Rattle.xc_station.specs.declared.job.Stage.TheVariants as PlainStage
use Rattle.xc_station.specs.declared.job.Job.{Job}
use Rattle.xc_station.specs.Jobs.{IsStage, doing_of, goes_on, child_view, job_view, started_in}
use Rattle.xc_station.specs.Moments.{runs}
use Rattle.xc_station.specs.Stations.{moment, now_of, room_of, setting_of}
use Rattle.xc_station.proofs.Ahead.{ahead_kept, taken_kept}
use Rattle.xc_station.proofs.BacksKept.{backs_set, safe_ending}
use Rattle.xc_station.proofs.Ready.{may_end_late}
use Rattle.xc_station.proofs.RoomsKept.{rooms_going}
use Rattle.xc_station.proofs.Stages.{lent, committing_stage}
use Rattle.xc_station.proofs.Steady.{steady_kept}
use Rattle.xc_station.proofs.TurnRows.{committing_turned}
use Rattle.xc_station.proofs.Waiting.{hosted_same, starts_set}
use Rattle.xc_station.proofs.station.Station.late_call.Goals as goal
use Rattle.xc_station.specs.Lent.{IsBacked}
use Rattle.xc_station.proofs.Notes.{backed_jobs, still_backed}
use Rattle.xc_data.proofs.Laws.{get_map}
use Rattle.std.specs.declared.option.Option.TheVariants.{None, Some}

pub end_late-requires : goal.end_late-requires
end_late-requires g c =
    let was = c.index_mut.result.now in
    let station = c.self.inside in
    let model = g.H.Host.model in
    let at = c.args.at in
    let s = setting station.opening.script station.rules model.tells in
    let is = lent station.jobs.items at PlainStage.Committing was (subst (λ v. IsStage v.jobs at PlainStage.Committing) (sym c.self.view_is) c.requires.stage)
    c.index_mut.ensures.value in
    let may = may_end_late model station.shared station.journal.items station.jobs.items at was station.opening.script station.rules
    station.opening.faults station.active station.journal.spare station.lines c.self.invariant.steady c.self.invariant.rooms c.self.invariant.backed is in
    let none : next_thread (late_left may.0) ≡ None =
    subst (λ v. (job : Job) → slice_get v.jobs at ≡ Some job → (t : TxView) → doing_of job ≡ Active t → next_thread (late_left t) ≡ None)
    (sym c.self.view_is) c.requires.hosted was is.there may.0 may.1 in
    record { committing = (may.0, may.1, may.2, none, may.3) }

pub invariant_of-self : goal.invariant_of-self
invariant_of-self g c =
    let was = c.index_mut.result.now in
    let station = c.self.inside in
    let model = g.H.Host.model in
    let at = c.args.at in
    let s = setting station.opening.script station.rules model.tells in
    let is = lent station.jobs.items at PlainStage.Committing was (subst (λ v. IsStage v.jobs at PlainStage.Committing) (sym c.self.view_is) c.requires.stage)
    c.index_mut.ensures.value in
    let shared' : Shared g.row.H.Denot = record station.shared { host = c.end_late.new.host } in
    let job = c.end_late.new.job in
    let none : (tx : TxView) → doing_of was ≡ Active tx → next_thread (late_left tx) ≡ None =
    λ tx does. subst (λ v. (job : Job) → slice_get v.jobs at ≡ Some job → (t : TxView) → doing_of job ≡ Active t → next_thread (late_left t) ≡ None)
    (sym c.self.view_is) c.requires.hosted was is.there tx does in
    let turned = committing_turned model station.shared station.journal.items station.jobs.items at was s shared' job (λ tells. tells) is
    none c.end_late.ensures.ends (refl, refl, refl, refl) in
    let mine = committing_stage (doing_of was) is.stage in
    let gave = c.end_late.ensures.ends mine.tx mine.next mine.later mine.doing mine.left in record {
      steady = steady_kept s station.opening.faults at _ _ turn.Went c.self.invariant.steady turned;
      rooms = rooms_going model station.shared station.journal.items station.jobs.items at was job station.active station.journal.spare station.lines is.there
          c.self.invariant.rooms s shared' mine.tx (with_queue mine.tx gave.0) c.self.invariant.steady.kept.told refl mine.doing (ap (λ j. j.doing) gave.1)
          refl refl refl refl refl;
      ahead = ahead_kept station.jobs.items at was job station.ahead.items is.there (ap goes_on is.stage) c.self.invariant.ahead;
      taken = taken_kept station.jobs.items at job station.taken c.self.invariant.taken;
      plan = gave.2.uses.used.plan ∙ c.self.invariant.plan;
      backed = λ tells.
          let c' = model.contents station.shared.host in
          let d = model.contents c.end_late.new.host in
          let are = c.self.invariant.backed tells in
          let keeps = c.end_late.ensures.keeps tells in
          let took = still_backed c' d mine.tx.taken keeps
          (are.taken at mine.tx (job_view was, get_map job_view station.jobs.items at was is.there, ap active_in mine.doing)) in
          backed_jobs c' d _ _ station.jobs.items at was job is.there keeps (still_backed c' d station.shared.buffers.kept keeps are.kept)
          (λ tx active.
          let both : Some (with_queue mine.tx gave.0) ≡ Some tx = ap active_in (sym (ap (λ j. j.doing) gave.1)) ∙ active in
          let one : with_queue mine.tx gave.0 ≡ tx = cc both in
          subst (λ (t : TxView). All (IsBacked d) t.taken) one took)
          are;
      unparted = c.self.invariant.unparted;
      indexed = c.self.invariant.indexed;
      starts = starts_set s.script station.shared.started.items station.jobs.items (room_of station.jobs station.lines station.ahead) at was job is.there
          (ap (map child_view) c.end_late.ensures.children ∙ c.self.invariant.starts.children at was is.there
          ∙ ap (started_in s.script (job_view was)) mine.doing
          ∙ sym (hosted_same s.script (job_view was) mine.tx mine.next mine.later gave.2.end mine.left
          (sym (ap next_thread mine.left) ∙ none mine.tx mine.doing))
          ∙ sym (ap (λ (j : JobView). started_in s.script j j.doing)
          (gave.1 ∙ ap (λ (queue : Queue). with_tx (job_view was) was.place (with_queue mine.tx queue)) gave.2.noted))) c.self.invariant.starts;
      undoable = backs_set station.rules.undo_tries station.jobs.items at was job is.there
          (safe_ending station.rules.undo_tries job (with_queue mine.tx gave.0) (ap (λ (j : JobView). j.doing) gave.1) (ap runs mine.phase))
          c.self.invariant.undoable;
    }

pub returns-clause-row : goal.returns-clause-row
returns-clause-row g c =
    let was = c.index_mut.result.now in
    let station = c.self.inside in
    let model = g.H.Host.model in
    let at = c.args.at in
    let s = setting station.opening.script station.rules model.tells in
    let is = lent station.jobs.items at PlainStage.Committing was (subst (λ v. IsStage v.jobs at PlainStage.Committing) (sym c.self.view_is) c.requires.stage)
    c.index_mut.ensures.value in
    let shared' : Shared g.row.H.Denot = record station.shared { host = c.end_late.new.host } in
    let job = c.end_late.new.job in
    let none : (tx : TxView) → doing_of was ≡ Active tx → next_thread (late_left tx) ≡ None =
    λ tx does. subst (λ v. (job : Job) → slice_get v.jobs at ≡ Some job → (t : TxView) → doing_of job ≡ Active t → next_thread (late_left t) ≡ None)
    (sym c.self.view_is) c.requires.hosted was is.there tx does in
    let turned = committing_turned model station.shared station.journal.items station.jobs.items at was s shared' job (λ tells. tells) is
    none c.end_late.ensures.ends (refl, refl, refl, refl) in
    subst (λ v. IsTurn (setting_of model v) at (now_of model v) turn.Went (moment model shared' station.journal.items (slice_set station.jobs.items at job)))
    c.self.view_is turned
