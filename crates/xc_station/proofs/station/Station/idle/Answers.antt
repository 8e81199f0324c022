use Rattle.std.proofs.Common.{◌≡◌, ◌≢◌, ◌+◌, ◌<◌, ◌^◌, arith, rules, refl, sym, subst, ap, ◌∙◌, true, false}
use Rattle.std.specs.Prelude.{slice_set, All}
use Rattle.xc_model.specs.Moment.{active_in, with_job}
use Rattle.xc_model.specs.Setting.{setting}
use Rattle.xc_model.specs.Movers.{mover}
use Rattle.xc_model.specs.IdleRows.{IdleTurn}
use Rattle.xc_model.specs.Rows.{IsTurn}
use Rattle.xc_data.specs.declared.entry.Turn.TheVariants as turn
use Rattle.xc_station.specs.declared.job.Stage.TheVariants as PlainStage
use Rattle.xc_station.specs.Jobs.{IsStage, doing_of, goes_on, job_view, started_in}
use Rattle.xc_station.specs.Moments.{marks_of}
use Rattle.xc_station.specs.Stations.{moment, now_of, room_of, setting_of}
use Rattle.xc_station.proofs.Ahead.{ahead_kept, taken_kept}
use Rattle.xc_station.proofs.BacksKept.{backs_set, safe_idle}
use Rattle.xc_station.proofs.Begun.{number_left}
use Rattle.xc_data.proofs.Laws.{get_map}
use Rattle.xc_station.proofs.Ready.{few_begun, next_unseated}
use Rattle.xc_station.proofs.RoomsKept.{rooms_idle_went, rooms_idle_halted, idle_untaken}
use Rattle.xc_station.proofs.Stages.{IsThere, lent, idle_stage}
use Rattle.xc_station.proofs.Steady.{steady_kept}
use Rattle.xc_station.proofs.TurnRows.{idle_turned}
use Rattle.xc_station.proofs.Waiting.{starts_still}
use Rattle.xc_station.proofs.station.Station.idle.Given.{Over}
use Rattle.xc_station.proofs.station.Station.idle.Goals as goal
use Rattle.xc_station.proofs.station.Station.idle.Goals.{After-begin-turn, After-index_mut, in-Went, in_default}
use Rattle.xc_station.proofs.Notes.{backed_jobs}
use Rattle.xc_host.proofs.Laws.{data_keeps_itself}
use Rattle.xc_station.specs.Lent.{IsBacked}
use Rattle.std.proofs.lemmas.List.Elements.{All-nil}

-- the job that is lent
is_there : (g : Over) (c : After-index_mut g) → IsThere c.self.inside.jobs.items c.args.at PlainStage.Idle c.index_mut.result.now
is_there g c =
    lent c.self.inside.jobs.items c.args.at PlainStage.Idle c.index_mut.result.now
    (subst (λ v. IsStage v.jobs c.args.at PlainStage.Idle) (sym c.self.view_is) c.requires) c.index_mut.ensures.value

-- what the call says of the turn
row : (g : Over) (c : After-begin-turn g) (is : IsThere c.self.inside.jobs.items c.args.at PlainStage.Idle c.index_mut.result.now) →
    let station = c.self.inside in
    let now = moment g.H.Host.model station.shared station.journal.items station.jobs.items in
    IdleTurn (mover (setting station.opening.script station.rules g.H.Host.model.tells) c.args.at now (job_view c.index_mut.result.now))
    c.begin-turn.result
    (record (with_job now c.args.at (job_view c.begin-turn.new.job)) { marks = marks_of c.begin-turn.new.sentinels.seats })
row g c is =
    let station = c.self.inside in
    c.begin-turn.ensures.row g.H.Host.model.tells (moment g.H.Host.model station.shared station.journal.items station.jobs.items) c.args.at
    (record { entered = refl; active = c.self.invariant.rooms.count }) c.self.invariant.rooms.seats refl
    (get_map job_view station.jobs.items c.args.at c.index_mut.result.now is.there)

-- the turn that it takes
turned : (g : Over) (c : After-begin-turn g) (is : IsThere c.self.inside.jobs.items c.args.at PlainStage.Idle c.index_mut.result.now)
    → IsTurn (setting c.self.inside.opening.script c.self.inside.rules g.H.Host.model.tells) c.args.at
    (moment g.H.Host.model c.self.inside.shared c.self.inside.journal.items c.self.inside.jobs.items) c.begin-turn.result
    (moment g.H.Host.model (record c.self.inside.shared { sentinels = c.begin-turn.new.sentinels }) c.begin-turn.new.journal.items
    (slice_set c.self.inside.jobs.items c.args.at c.begin-turn.new.job))
turned g c is =
    let station = c.self.inside in
    idle_turned g.H.Host.model station.shared station.journal.items station.jobs.items c.args.at c.index_mut.result.now
    (setting station.opening.script station.rules g.H.Host.model.tells) c.begin-turn.new.sentinels c.begin-turn.new.journal.items
    c.begin-turn.new.job
    c.begin-turn.result is c.begin-turn.ensures.items (row g c is)

pub begin-turn-requires-clause-idle : goal.begin-turn-requires-clause-idle
begin-turn-requires-clause-idle g c =
    idle_stage (doing_of c.index_mut.result.now) (is_there g (goal.at.begin-turn-requires-clause-idle g c).After-index_mut).stage

pub invariant_of-self : goal.invariant_of-self
invariant_of-self g c =
    let was = c.index_mut.result.now in
    let station = c.self.inside in
    let model = g.H.Host.model in
    let at = c.args.at in
    let s = setting station.opening.script station.rules model.tells in
    let is = is_there g (goal.at.invariant_of-self g c).After-index_mut in
    let row = row g (goal.at.invariant_of-self g c).After-begin-turn is in
    let turned = turned g (goal.at.invariant_of-self g c).After-begin-turn is in
    let journal = c.begin-turn.new.journal in
    let job = c.begin-turn.new.job in
    let went : c.begin-turn.result ≡ turn.Went = elim c.match-matches.branch [
      | in-Went w ↦ w.in-Went.is
      | in_default w ↦ let lacks : false ≡ true = sym w.matches-is ∙ c.if-matches.true in cc lacks
    ] in record {
      steady = steady_kept s station.opening.faults at _ _ c.begin-turn.result c.self.invariant.steady turned;
      rooms = rooms_idle_went model station.shared station.journal.items station.jobs.items at was job station.active station.journal.spare station.lines
          is.there
          c.self.invariant.rooms s c.begin-turn.new.sentinels journal.items journal.spare c.begin-turn.result (ap active_in (idle_stage
          (doing_of was) is.stage)) row c.begin-turn.ensures.claims c.begin-turn.ensures.seats c.self.invariant.steady.kept.told
          went (c.begin-turn.ensures.room.0 went);
      ahead = ahead_kept station.jobs.items at was job station.ahead.items is.there (ap goes_on is.stage) c.self.invariant.ahead;
      taken = taken_kept station.jobs.items at job station.taken c.self.invariant.taken;
      plan = c.self.invariant.plan;
      backed = λ tells.
          backed_jobs _ _ _ _ station.jobs.items at was job is.there (data_keeps_itself (model.contents station.shared.host))
          ((c.self.invariant.backed tells).kept)
          (λ tx active. subst (All (IsBacked (model.contents station.shared.host)))
          (sym (idle_untaken model station.shared station.journal.items station.jobs.items at was job station.active station.journal.spare station.lines
          is.there c.self.invariant.rooms s c.begin-turn.new.sentinels journal.items journal.spare c.begin-turn.result
          (ap active_in (idle_stage (doing_of was) is.stage)) row c.begin-turn.ensures.claims c.begin-turn.ensures.seats tx active))
          (All-nil (IsBacked (model.contents station.shared.host))))
          (c.self.invariant.backed tells);
      unparted = λ own. c.begin-turn.ensures.gone ∙ c.self.invariant.unparted own;
      indexed = c.self.invariant.indexed;
      starts = starts_still model station.shared (record station.shared { sentinels = c.begin-turn.new.sentinels })
          station.journal.items journal.items station.jobs.items at was job (room_of station.jobs station.lines station.ahead) s
          station.opening.faults c.begin-turn.result c.self.invariant.steady is.there turned refl
          (ap (started_in station.opening.script (job_view was)) (idle_stage (doing_of was) is.stage)) c.begin-turn.ensures.children c.self.invariant.starts;
      undoable = backs_set station.rules.undo_tries station.jobs.items at was job is.there
          (safe_idle s at (moment model station.shared station.journal.items station.jobs.items) (job_view was)
          (marks_of c.begin-turn.new.sentinels.seats) station.rules.undo_tries job (get_map job_view station.jobs.items at was is.there)
          (idle_stage (doing_of was) is.stage) c.begin-turn.result row) c.self.invariant.undoable;
    }

pub invariant_of-self-else-matches : goal.invariant_of-self-else-matches
invariant_of-self-else-matches g c =
    let was = c.index_mut.result.now in
    let station = c.self.inside in
    let model = g.H.Host.model in
    let at = c.args.at in
    let s = setting station.opening.script station.rules model.tells in
    let is = is_there g (goal.at.invariant_of-self-else-matches g c).After-index_mut in
    let row = row g (goal.at.invariant_of-self-else-matches g c).After-begin-turn is in
    let turned = turned g (goal.at.invariant_of-self-else-matches g c).After-begin-turn is in
    let journal = c.begin-turn.new.journal in
    let job = c.begin-turn.new.job in
    let ended : c.begin-turn.result ≢ turn.Went = elim c.match-matches.branch [
      | in-Went w ↦ let lacks : true ≡ false = sym w.matches-is ∙ c.if-matches.false in cc lacks
      | in_default w ↦ λ e. w.in_default.not-Went e
    ] in record {
      steady = steady_kept s station.opening.faults at _ _ c.begin-turn.result c.self.invariant.steady turned;
      rooms = rooms_idle_halted model station.shared station.journal.items station.jobs.items at was job station.active station.journal.spare station.lines
          is.there
          c.self.invariant.rooms s c.begin-turn.new.sentinels journal.items journal.spare c.begin-turn.result
          (ap active_in (idle_stage (doing_of was) is.stage)) row
          c.begin-turn.ensures.claims c.begin-turn.ensures.seats ended c.begin-turn.ensures.room.1;
      ahead = ahead_kept station.jobs.items at was job station.ahead.items is.there (ap goes_on is.stage) c.self.invariant.ahead;
      taken = taken_kept station.jobs.items at job station.taken c.self.invariant.taken;
      plan = c.self.invariant.plan;
      backed = λ tells.
          backed_jobs _ _ _ _ station.jobs.items at was job is.there (data_keeps_itself (model.contents station.shared.host))
          ((c.self.invariant.backed tells).kept)
          (λ tx active. subst (All (IsBacked (model.contents station.shared.host)))
          (sym (idle_untaken model station.shared station.journal.items station.jobs.items at was job station.active station.journal.spare station.lines
          is.there c.self.invariant.rooms s c.begin-turn.new.sentinels journal.items journal.spare c.begin-turn.result
          (ap active_in (idle_stage (doing_of was) is.stage)) row c.begin-turn.ensures.claims c.begin-turn.ensures.seats tx active))
          (All-nil (IsBacked (model.contents station.shared.host))))
          (c.self.invariant.backed tells);
      unparted = λ own. c.begin-turn.ensures.gone ∙ c.self.invariant.unparted own;
      indexed = c.self.invariant.indexed;
      starts = starts_still model station.shared (record station.shared { sentinels = c.begin-turn.new.sentinels })
          station.journal.items journal.items station.jobs.items at was job (room_of station.jobs station.lines station.ahead) s
          station.opening.faults c.begin-turn.result c.self.invariant.steady is.there turned refl
          (ap (started_in station.opening.script (job_view was)) (idle_stage (doing_of was) is.stage)) c.begin-turn.ensures.children c.self.invariant.starts;
      undoable = backs_set station.rules.undo_tries station.jobs.items at was job is.there
          (safe_idle s at (moment model station.shared station.journal.items station.jobs.items) (job_view was)
          (marks_of c.begin-turn.new.sentinels.seats) station.rules.undo_tries job (get_map job_view station.jobs.items at was is.there)
          (idle_stage (doing_of was) is.stage) c.begin-turn.result row) c.self.invariant.undoable;
    }

pub returns-then-matches-clause-row : goal.returns-then-matches-clause-row
returns-then-matches-clause-row g c =
    let station = c.self.inside in
    let model = g.H.Host.model in
    subst (λ v. IsTurn (setting_of model v) c.args.at (now_of model v) c.begin-turn.result
    (moment model (record station.shared { sentinels = c.begin-turn.new.sentinels }) c.begin-turn.new.journal.items
    (slice_set station.jobs.items c.args.at c.begin-turn.new.job))) c.self.view_is
    (turned g (goal.at.returns-then-matches-clause-row g c).After-begin-turn
    (is_there g (goal.at.returns-then-matches-clause-row g c).After-index_mut))

pub returns-else-matches-clause-row : goal.returns-else-matches-clause-row
returns-else-matches-clause-row g c =
    let station = c.self.inside in
    let model = g.H.Host.model in
    subst (λ v. IsTurn (setting_of model v) c.args.at (now_of model v) c.begin-turn.result
    (moment model (record station.shared { sentinels = c.begin-turn.new.sentinels }) c.begin-turn.new.journal.items
    (slice_set station.jobs.items c.args.at c.begin-turn.new.job))) c.self.view_is
    (turned g (goal.at.returns-else-matches-clause-row g c).After-begin-turn
    (is_there g (goal.at.returns-else-matches-clause-row g c).After-index_mut))

pub begin-turn-requires-clause-new : goal.begin-turn-requires-clause-new
begin-turn-requires-clause-new g c =
    let was = c.index_mut.result.now in
    let station = c.self.inside in
    next_unseated g.H.Host.model station.shared station.journal.items station.jobs.items c.args.at was station.opening.script station.rules
    station.opening.faults station.active station.journal.spare station.lines c.self.invariant.steady c.self.invariant.rooms

pub begin-turn-requires-clause-few : goal.begin-turn-requires-clause-few
begin-turn-requires-clause-few g c =
    let station = c.self.inside in
    let now = moment g.H.Host.model station.shared station.journal.items station.jobs.items in
    let few = few_begun (setting station.opening.script station.rules g.H.Host.model.tells) station.opening.faults now c.self.invariant.steady in
    let count = c.self.invariant.rooms.count in
    omega (arith, few, count)

pub begin-turn-requires-clause-held : goal.begin-turn-requires-clause-held
begin-turn-requires-clause-held g c = c.self.invariant.unparted

pub overflow_add-self : goal.overflow_add-self
overflow_add-self g c =
    let station = c.self.inside in
    let s = setting station.opening.script station.rules g.H.Host.model.tells in
    let now = moment g.H.Host.model station.shared station.journal.items station.jobs.items in
    let went : c.begin-turn.result ≡ turn.Went = elim c.match-matches.branch [
      | in-Went w ↦ w.in-Went.is
      | in_default w ↦ let lacks : false ≡ true = sym w.matches-is ∙ c.if-matches.true in cc lacks
    ] in
    let count = c.self.invariant.rooms.count in
    let low = number_left (mover s c.args.at now (job_view c.index_mut.result.now)) c.begin-turn.result _ went
    (row g (goal.at.overflow_add-self g c).After-begin-turn (is_there g (goal.at.overflow_add-self g c).After-index_mut)) in
    let fits : station.active + 1 < 2 ^ 32 = omega (arith, count, low) in
    search (rules, fits)
