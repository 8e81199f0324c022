use Rattle.std.proofs.Common.{sym, subst, ◌∙◌, ap}
use Rattle.std.specs.Prelude.{slice_set}
use Rattle.xc_model.specs.Rows.{IsTurn}
use Rattle.xc_model.specs.Setting.{setting}
use Rattle.xc_station.specs.Jobs.{IsStage, goes_on}
use Rattle.xc_station.specs.Stations.{moment, now_of, room_of, setting_of}
use Rattle.xc_station.specs.declared.job.Stage.TheVariants as PlainStage
use Rattle.xc_station.proofs.Ahead.{ahead_kept, taken_kept}
use Rattle.xc_station.proofs.GoesBack.{back_elsewhere, back_untaken, backed_back, backing_turned, may_go_back, may_step_back, mine, none_backing}
use Rattle.xc_station.proofs.GoesBack.{rooms_backing, safely_set}
use Rattle.xc_station.proofs.Ready.{stands_now}
use Rattle.xc_station.proofs.Stages.{lent}
use Rattle.xc_station.proofs.Steady.{steady_kept}
use Rattle.xc_station.proofs.Waiting.{starts_still}
use Rattle.xc_station.proofs.station.Station.backing.Goals as goal

pub go_back-requires-clause-can : goal.go_back-requires-clause-can
go_back-requires-clause-can g c =
    let was = c.index_mut.result.now in
    let station = c.self.inside in
    let model = g.H.Host.model in
    let at = c.args.at in
    let is = lent station.jobs.items at PlainStage.Backing was (subst (λ v. IsStage v.jobs at PlainStage.Backing) (sym c.self.view_is) c.requires)
    c.index_mut.ensures.value in
    may_step_back model station.shared station.journal.items station.jobs.items at was station.opening.script station.rules station.opening.faults
    station.active station.journal.spare station.lines c.self.invariant.steady c.self.invariant.rooms is c.self.invariant.backed

pub go_back-requires-clause-backs : goal.go_back-requires-clause-backs
go_back-requires-clause-backs g c =
    let was = c.index_mut.result.now in
    let station = c.self.inside in
    let at = c.args.at in
    let is = lent station.jobs.items at PlainStage.Backing was (subst (λ v. IsStage v.jobs at PlainStage.Backing) (sym c.self.view_is) c.requires)
    c.index_mut.ensures.value in
    may_go_back station.rules.undo_tries station.jobs.items at was c.self.invariant.undoable is

pub invariant_of-self : goal.invariant_of-self
invariant_of-self g c =
    let was = c.index_mut.result.now in
    let station = c.self.inside in
    let model = g.H.Host.model in
    let at = c.args.at in
    let s = setting station.opening.script station.rules model.tells in
    let is = lent station.jobs.items at PlainStage.Backing was (subst (λ v. IsStage v.jobs at PlainStage.Backing) (sym c.self.view_is) c.requires)
    c.index_mut.ensures.value in
    let shared' = c.go_back.new.shared in
    let job = c.go_back.new.job in
    let row = c.go_back.ensures.row (moment model station.shared station.journal.items station.jobs.items) at
    (stands_now model station.shared station.journal.items station.jobs.items at was station.opening.script station.rules station.opening.faults
    station.active station.journal.spare station.lines c.self.invariant.steady c.self.invariant.rooms PlainStage.Backing is) in
    let turned = backing_turned model station.shared station.journal.items station.jobs.items at was job is.there s shared' c.go_back.result row is
    c.go_back.ensures.started in
    let own = mine model station.shared station.journal.items station.jobs.items at was station.opening.script station.rules station.opening.faults
    station.active station.journal.spare station.lines c.self.invariant.steady c.self.invariant.rooms is in
    let gave = c.go_back.ensures.returns own.tx own.doing in record {
      steady = steady_kept s station.opening.faults at _ _ c.go_back.result c.self.invariant.steady turned;
      rooms = rooms_backing model station.shared station.journal.items station.jobs.items at was job is.there s shared' c.go_back.result row own.tx
          gave.0 own.doing
          gave.1 station.active station.journal.spare station.lines c.self.invariant.rooms gave.2.noted;
      ahead = ahead_kept station.jobs.items at was job station.ahead.items is.there (ap goes_on is.stage) c.self.invariant.ahead;
      taken = taken_kept station.jobs.items at job station.taken c.self.invariant.taken;
      plan = c.go_back.ensures.plan ∙ c.self.invariant.plan;
      backed = λ tells. backed_back model station.shared shared' station.jobs.items at was job own.tx gave.0 is.there own.doing gave.1
          (c.self.invariant.backed tells)
          tells gave.2
          (λ older u pending. back_elsewhere model station.shared station.journal.items station.jobs.items at was station.opening.script station.rules
          station.opening.faults station.active station.journal.spare station.lines c.self.invariant.steady c.self.invariant.rooms is older u pending
          c.self.invariant.backed tells)
          (λ older u pending. back_untaken model station.shared station.journal.items station.jobs.items at was station.opening.script station.rules
          station.opening.faults station.active station.journal.spare station.lines c.self.invariant.steady c.self.invariant.rooms is older u pending tells);
      unparted = c.self.invariant.unparted;
      indexed = c.self.invariant.indexed;
      starts = starts_still model station.shared shared' station.journal.items station.journal.items station.jobs.items at was job
          (room_of station.jobs station.lines station.ahead) s station.opening.faults c.go_back.result c.self.invariant.steady is.there turned
          c.go_back.ensures.started
          (none_backing model station.shared station.journal.items station.jobs.items at was station.opening.script station.rules station.opening.faults
          station.active station.journal.spare station.lines c.self.invariant.steady c.self.invariant.rooms is) c.go_back.ensures.children
          c.self.invariant.starts;
      undoable = safely_set station.rules.undo_tries station.jobs.items at was job is.there c.go_back.ensures.backs c.self.invariant.undoable;
    }

pub returns-clause-row : goal.returns-clause-row
returns-clause-row g c =
    let was = c.index_mut.result.now in
    let station = c.self.inside in
    let model = g.H.Host.model in
    let at = c.args.at in
    let s = setting station.opening.script station.rules model.tells in
    let is = lent station.jobs.items at PlainStage.Backing was (subst (λ v. IsStage v.jobs at PlainStage.Backing) (sym c.self.view_is) c.requires)
    c.index_mut.ensures.value in
    let shared' = c.go_back.new.shared in
    let job = c.go_back.new.job in
    let row = c.go_back.ensures.row (moment model station.shared station.journal.items station.jobs.items) at
    (stands_now model station.shared station.journal.items station.jobs.items at was station.opening.script station.rules station.opening.faults
    station.active station.journal.spare station.lines c.self.invariant.steady c.self.invariant.rooms PlainStage.Backing is) in
    let turned = backing_turned model station.shared station.journal.items station.jobs.items at was job is.there s shared' c.go_back.result row is
    c.go_back.ensures.started in
    subst (λ v. IsTurn (setting_of model v) at (now_of model v) c.go_back.result
    (moment model shared' station.journal.items (slice_set station.jobs.items at job))) c.self.view_is turned
