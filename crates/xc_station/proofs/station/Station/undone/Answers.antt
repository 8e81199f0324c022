use Rattle.std.proofs.Common.{rules, refl, sym, subst, ap, ◌∙◌, ◌+◌, ◌≤◌, arith, Fits, w32}
use Rattle.std.specs.Prelude.{slice_set}
use Rattle.xc_model.specs.Moment.{active_in, active_of}
use Rattle.xc_model.specs.Setting.{setting}
use Rattle.xc_model.specs.Rows.{IsTurn}
use Rattle.xc_data.specs.declared.entry.Turn.TheVariants as turn
use Rattle.xc_station.specs.declared.job.Stage.TheVariants as PlainStage
use Rattle.xc_station.specs.Jobs.{IsStage, doing_of, goes_on, job_view, job_views}
use Rattle.xc_station.specs.Stations.{moment, now_of, room_of, setting_of}
use Rattle.xc_station.proofs.Ahead.{ahead_kept, taken_kept}
use Rattle.xc_station.proofs.BacksKept.{backs_set, safe_without}
use Rattle.xc_data.proofs.Laws.{get_map}
use Rattle.xc_station.proofs.Ready.{fits_next, fits_failures, active_has_room}
use Rattle.xc_station.proofs.RoomsKept.{rooms_entered, back_none}
use Rattle.xc_station.proofs.Stages.{IsThere, IsUndone, lent, undone_stage}
use Rattle.xc_station.proofs.Steady.{steady_kept}
use Rattle.xc_station.proofs.TurnRows.{undone_turned}
use Rattle.xc_station.proofs.Waiting.{none_undoing, starts_still}
use Rattle.xc_station.proofs.station.Station.undone.Given.{Over}
use Rattle.xc_station.proofs.station.Station.undone.Goals as goal
use Rattle.xc_station.proofs.station.Station.undone.Goals.{After-enter, After-index_mut}
use Rattle.xc_station.proofs.Notes.{backed_without, notes_within}
use Rattle.xc_station.proofs.Giving.{given_all}
use Rattle.xc_station.specs.Lent.{AreBacked, IsBacked}

-- the job that is lent
is_there : (g : Over) (c : After-index_mut g) → IsThere c.self.inside.jobs.items c.args.at PlainStage.Undone c.index_mut.result.now
is_there g c =
    lent c.self.inside.jobs.items c.args.at PlainStage.Undone c.index_mut.result.now
    (subst (λ v. IsStage v.jobs c.args.at PlainStage.Undone) (sym c.self.view_is) c.requires) c.index_mut.ensures.value

-- its transaction
mine : (g : Over) (c : After-index_mut g) → IsUndone (doing_of c.index_mut.result.now)
mine g c = undone_stage (doing_of c.index_mut.result.now) (is_there g c).stage

-- it is active, and there is room for its entry
room : (g : Over) (c : After-index_mut g) → (1 ≤ c.self.inside.active) × (1 ≤ c.self.inside.journal.spare)
room g c =
    let station = c.self.inside in
    active_has_room g.H.Host.model station.shared station.journal.items station.jobs.items c.args.at c.index_mut.result.now station.opening.script
    station.rules station.opening.faults station.active station.journal.spare station.lines c.self.invariant.steady c.self.invariant.rooms
    PlainStage.Undone (mine g c).tx (is_there g c) (mine g c).doing

-- the turn that it takes
turned : (g : Over) (c : After-enter g)
    → IsTurn (setting c.self.inside.opening.script c.self.inside.rules g.H.Host.model.tells) c.args.at
    (moment g.H.Host.model c.self.inside.shared c.self.inside.journal.items c.self.inside.jobs.items) turn.Went
    (moment g.H.Host.model c.abort-entry.new.shared c.enter.new.self.items
    (slice_set c.self.inside.jobs.items c.args.at c.abort-entry.new.job))
turned g c =
    let station = c.self.inside in
    let abort = c.abort-entry.ensures in
    undone_turned g.H.Host.model station.shared station.journal.items station.jobs.items c.args.at c.index_mut.result.now
    (setting station.opening.script station.rules g.H.Host.model.tells) c.abort-entry.new.shared c.enter.new.self.items c.abort-entry.result
    c.abort-entry.new.job (c.args.at + 1) (is_there g (goal.at.overflow_sub-self g c).After-index_mut) abort.entry
    (λ tx does. (abort.freed tx does).seats) refl (abort.same.0, abort.same.1, abort.started) abort.given c.enter.ensures.items

pub abort-entry-requires-clause-undone : goal.abort-entry-requires-clause-undone
abort-entry-requires-clause-undone g c =
    let own = mine g (goal.at.abort-entry-requires-clause-undone g c).After-index_mut in
    (own.tx, own.cause, own.doing, own.phase, own.pending)

pub abort-entry-requires-clause-attempts : goal.abort-entry-requires-clause-attempts
abort-entry-requires-clause-attempts g c =
    let station = c.self.inside in
    let before = (goal.at.abort-entry-requires-clause-attempts g c).After-index_mut in
    let fits : Fits w32 station.rules.attempts = search rules in
    fits_failures g.H.Host.model station.shared station.journal.items station.jobs.items c.args.at c.index_mut.result.now
    station.opening.script station.rules station.opening.faults station.active station.journal.spare station.lines c.self.invariant.steady
    c.self.invariant.rooms
    PlainStage.Undone (mine g before).tx (is_there g before) (mine g before).doing (omega (arith, fits))

pub abort-entry-requires-clause-table : goal.abort-entry-requires-clause-table
abort-entry-requires-clause-table g c tx doing =
    let was = c.index_mut.result.now in
    let is = is_there g (goal.at.abort-entry-requires-clause-table g c).After-index_mut in
    λ o. (c.self.invariant.rooms.claims o).held c.args.at tx
    (job_view was, get_map job_view c.self.inside.jobs.items c.args.at was is.there, ap active_in doing)

pub abort-entry-requires-clause-next : goal.abort-entry-requires-clause-next
abort-entry-requires-clause-next g c =
    let station = c.self.inside in
    let before = (goal.at.abort-entry-requires-clause-next g c).After-index_mut in
    fits_next g.H.Host.model station.shared station.journal.items station.jobs.items c.args.at c.index_mut.result.now station.opening.script
    station.rules station.opening.faults station.active station.journal.spare station.lines c.self.invariant.steady c.self.invariant.rooms
    PlainStage.Undone (mine g before).tx (is_there g before) (mine g before).doing

pub abort-entry-requires-clause-noted : goal.abort-entry-requires-clause-noted
abort-entry-requires-clause-noted g c =
    let was = c.index_mut.result.now in
    let jobs = c.self.inside.jobs.items in
    let is = is_there g (goal.at.abort-entry-requires-clause-noted g c).After-index_mut in
    let within = notes_within (job_views jobs) c.args.at (job_view was) (get_map job_view jobs c.args.at was is.there) in
    let noted = c.self.invariant.rooms.noted in
    omega (arith, within, noted)

pub enter-requires : goal.enter-requires
enter-requires g c = (room g (goal.at.enter-requires g c).After-index_mut).1

pub overflow_sub-self : goal.overflow_sub-self
overflow_sub-self g c = (room g (goal.at.overflow_sub-self g c).After-index_mut).0

pub invariant_of-self : goal.invariant_of-self
invariant_of-self g c =
    let was = c.index_mut.result.now in
    let station = c.self.inside in
    let model = g.H.Host.model in
    let at = c.args.at in
    let s = setting station.opening.script station.rules model.tells in
    let before = (goal.at.invariant_of-self g c).After-index_mut in
    let is = is_there g before in
    let mine = mine g before in
    let some = room g before in
    let turned = turned g (goal.at.invariant_of-self g c).After-enter in
    let shared' = c.abort-entry.new.shared in
    let job = c.abort-entry.new.job in
    let gave = c.abort-entry.ensures.entry mine.tx mine.cause at mine.doing mine.phase refl in
    let freed = c.abort-entry.ensures.freed mine.tx mine.doing in record {
      steady = steady_kept s station.opening.faults at _ _ turn.Went c.self.invariant.steady turned;
      rooms = rooms_entered model station.shared station.journal.items station.jobs.items at was job station.active station.journal.spare station.lines is.there
          c.self.invariant.rooms s shared' c.enter.new.self.items c.enter.new.self.spare mine.tx c.self.invariant.steady.kept.told mine.doing
          (ap active_of gave.0 ∙ back_none (job_view was) mine.tx mine.cause)
          freed some.0 c.enter.ensures.spare c.abort-entry.ensures.given.noted;
      ahead = ahead_kept station.jobs.items at was job station.ahead.items is.there (ap goes_on is.stage) c.self.invariant.ahead;
      taken = taken_kept station.jobs.items at job station.taken c.self.invariant.taken;
      plan = ap model.plan c.abort-entry.ensures.same.0 ∙ c.self.invariant.plan;
      backed = λ tells.
          let are = c.self.invariant.backed tells in
          let backed = given_all (IsBacked (model.contents station.shared.host)) mine.tx.taken station.shared.buffers.kept shared'.buffers.kept
          (λ item. c.abort-entry.ensures.given.among item mine.tx mine.doing)
          (are.taken at mine.tx (job_view was, get_map job_view station.jobs.items at was is.there, ap active_in mine.doing)) are.kept in
          subst (λ h. AreBacked (model.contents h) shared'.buffers.kept (job_views (slice_set station.jobs.items at job))) (sym c.abort-entry.ensures.same.0)
          (backed_without _ _ _ station.jobs.items at was job is.there backed
          (ap active_of gave.0 ∙ back_none (job_view was) mine.tx mine.cause) are);
      unparted = λ own. c.enter.ensures.gone ∙ c.self.invariant.unparted own;
      indexed = c.self.invariant.indexed;
      starts = starts_still model station.shared shared' station.journal.items c.enter.new.self.items station.jobs.items at was job
          (room_of station.jobs station.lines station.ahead) s station.opening.faults turn.Went c.self.invariant.steady is.there turned
          c.abort-entry.ensures.started
          (none_undoing s station.opening.faults (moment model station.shared station.journal.items station.jobs.items) at (job_view was) mine.tx
          mine.cause c.self.invariant.steady (get_map job_view station.jobs.items at was is.there) mine.doing mine.phase) c.abort-entry.ensures.children
          c.self.invariant.starts;
      undoable = backs_set station.rules.undo_tries station.jobs.items at was job is.there
          (safe_without station.rules.undo_tries job (ap active_of gave.0 ∙ back_none (job_view was) mine.tx mine.cause)) c.self.invariant.undoable;
    }

pub returns-clause-row : goal.returns-clause-row
returns-clause-row g c =
    let model = g.H.Host.model in
    let jobs = slice_set c.self.inside.jobs.items c.args.at c.abort-entry.new.job in
    subst (λ v. IsTurn (setting_of model v) c.args.at (now_of model v) turn.Went
    (moment model c.abort-entry.new.shared c.enter.new.self.items jobs)) c.self.view_is
    (turned g (goal.at.returns-clause-row g c).After-enter)
