use Rattle.std.proofs.Common.{◌≡◌, ℕ, ◌≤◌, ◌∷◌, ◌++◌, [], length, refl, sym, subst, ap, ◌∙◌, arith}
use Rattle.std.specs.Prelude.{slice_get, slice_set, All, map}
use Rattle.std.specs.declared.option.Option.TheVariants.{Some}
use Rattle.xc_data.specs.declared.call.LateEnd.{LateEnd}
use Rattle.xc_data.specs.declared.entry.Turn.TheVariants as turn
use Rattle.xc_deferred.specs.Queue.{next_thread}
use Rattle.xc_model.specs.Moment.{TxView, JobView, Active, active_in, late_left}
use Rattle.xc_model.specs.Setting.{setting}
use Rattle.xc_model.specs.Rows.{IsTurn}
use Rattle.xc_model.specs.Movers.{with_tx}
use Rattle.xc_station.specs.declared.calls.Shared.{Shared}
use Rattle.xc_station.specs.declared.job.Job.{Job}
use Rattle.xc_station.specs.declared.job.Stage.TheVariants as PlainStage
use Rattle.xc_station.specs.Jobs.{HasChildren, IsStage, doing_of, goes_on, child_view, job_view, job_views, started_in}
use Rattle.xc_station.specs.Lent.{AreBacked, IsBacked}
use Rattle.xc_station.specs.Backs.{AllBackSafely}
use Rattle.xc_station.specs.Moments.{runs}
use Rattle.xc_station.specs.Stations.{AreAhead, HasRooms, IsSteady, moment, now_of, room_of, setting_of}
use Rattle.xc_station.proofs.Ahead.{ahead_kept, taken_kept}
use Rattle.xc_station.proofs.BacksKept.{backs_set, safe_ending}
use Rattle.xc_station.proofs.Children.{lent_children, lent_seen, set_behind}
use Rattle.xc_station.proofs.Notes.{backed_jobs}
use Rattle.xc_host.proofs.Laws.{data_keeps_itself}
use Rattle.xc_data.proofs.Laws.{get_map}
use Rattle.xc_station.proofs.Rooms.{rooms_relined}
use Rattle.xc_station.proofs.RoomsKept.{rooms_going}
use Rattle.xc_station.proofs.Stages.{IsLating, IsThere, committing_stage}
use Rattle.xc_station.proofs.Steady.{steady_kept}
use Rattle.xc_station.proofs.TurnRows.{starting_turned}
use Rattle.xc_station.proofs.Waiting.{start_waits, starts_set}
use Rattle.xc_station.proofs.station.Station.late_start.Given.{Over}
use Rattle.xc_station.proofs.station.Station.late_start.Goals as goal
use Rattle.xc_station.proofs.station.Station.late_start.Goals.{After-index_mut}

-- the job as it was
found : (g : Over) (c : After-index_mut g) → IsStage c.self.inside.jobs.items c.args.at PlainStage.Committing
found g c = subst (λ v. IsStage v.jobs c.args.at PlainStage.Committing) (sym c.self.view_is) c.requires.stage

is_there : (g : Over) (c : After-index_mut g) → IsThere c.self.inside.jobs.items c.args.at PlainStage.Committing (found g c).0
is_there g c = record { there = (found g c).1; stage = (found g c).2 }

-- its transaction
mine : (g : Over) (c : After-index_mut g) → IsLating (doing_of (found g c).0)
mine g c = committing_stage (doing_of (found g c).0) (found g c).2

-- the job that is lent looks as it did
seen : (g : Over) (c : After-index_mut g) → job_view c.index_mut.result.now ≡ job_view (found g c).0
seen g c =
    lent_seen c.self.inside.opening.script c.self.inside.jobs.items c.start_job-end.new.jobs.items c.args.at c.args.block
    c.start_job-end.result
    (found g c).0 c.index_mut.result.now (found g c).1 c.start_job-end.ensures.jobs c.index_mut.ensures.value

-- no other job changed
items : (g : Over) (c : After-index_mut g) (job : Job)
    → slice_set c.start_job-end.new.jobs.items c.args.at job ≡ slice_set c.self.inside.jobs.items c.args.at job
items g c job =
    set_behind c.self.inside.opening.script c.self.inside.jobs.items c.start_job-end.new.jobs.items c.args.at c.args.block
    c.start_job-end.result
    (found g c).0 c.index_mut.result.now (found g c).1 c.start_job-end.ensures.jobs c.index_mut.ensures.value job

-- its next late call starts the block
thread : (g : Over) (c : After-index_mut g) (tx : TxView) → doing_of (found g c).0 ≡ Active tx
    → next_thread (late_left tx) ≡ Some c.args.block
thread g c =
    subst (λ v. (j : Job) → slice_get v.jobs c.args.at ≡ Some j → (t : TxView) → doing_of j ≡ Active t
    → next_thread (late_left t) ≡ Some c.args.block) (sym c.self.view_is) c.requires.starts (found g c).0 (found g c).1

-- the second job is the first with one more end of a late call
abbrev HasEnded : Job → Job → LateEnd → Type 0
HasEnded was job end =
    (tx : TxView) → doing_of was ≡ Active tx → job_view job ≡ with_tx (job_view was) was.place (record tx { ends = tx.ends ++ end ∷ [] })

-- so it is of the job as it was
ended : (g : Over) (c : After-index_mut g) (job : Job) → HasEnded c.index_mut.result.now job c.start_job-end.result
    → HasEnded (found g c).0 job c.start_job-end.result
ended g c job ends tx does =
    let end = c.start_job-end.result in
    ends tx (ap (λ (j : JobView). j.doing) (seen g c) ∙ does)
    ∙ ap (λ (j : JobView). with_tx j j.place (record tx { ends = tx.ends ++ end ∷ [] })) (seen g c)

-- the turn that it takes
turned : (g : Over) (c : After-index_mut g) (job : Job) → HasEnded c.index_mut.result.now job c.start_job-end.result
    → IsTurn (setting c.self.inside.opening.script c.self.inside.rules g.H.Host.model.tells) c.args.at
    (moment g.H.Host.model c.self.inside.shared c.self.inside.journal.items c.self.inside.jobs.items) turn.Went
    (moment g.H.Host.model (record c.self.inside.shared { started = c.start_job-end.new.started }) c.self.inside.journal.items
    (slice_set c.self.inside.jobs.items c.args.at job))
turned g c job ends =
    let station = c.self.inside in
    starting_turned g.H.Host.model station.shared station.journal.items station.jobs.items c.args.at (found g c).0
    (setting station.opening.script station.rules g.H.Host.model.tells) (record station.shared { started = c.start_job-end.new.started })
    job c.args.block c.start_job-end.result (is_there g c) (thread g c) (ended g c job ends) c.start_job-end.ensures.end refl

pub end_start-requires : goal.end_start-requires
end_start-requires g c =
    let before = (goal.at.end_start-requires g c).After-index_mut in
    let mine = mine g before in
    record { committing = (mine.tx, ap (λ (j : JobView). j.doing) (seen g before) ∙ mine.doing, omega (arith, ap length mine.left)) }

pub invariant_of-self : goal.invariant_of-self
invariant_of-self g c =
    let station = c.self.inside in
    let model = g.H.Host.model in
    let at = c.args.at in
    let jobs = station.jobs.items in
    let s = setting station.opening.script station.rules model.tells in
    let before = (goal.at.invariant_of-self g c).After-index_mut in
    let was = (found g before).0 in
    let is = is_there g before in
    let mine = mine g before in
    let started = c.start_job-end.ensures in
    let lent = c.index_mut.result.now in
    let job = c.end_start.new.job in
    let shared' : Shared g.row.H.Denot = record station.shared { started = c.start_job-end.new.started } in
    let gives = ended g before job c.end_start.ensures.ends in
    let items = items g before job in
    let tx' : TxView = record mine.tx { ends = mine.tx.ends ++ c.start_job-end.result ∷ [] } in
    let place = get_map job_view jobs at was is.there in
    let all = c.self.invariant.starts in record {
      steady = subst (λ js. IsSteady s station.opening.faults (moment model shared' station.journal.items js)) (sym items)
          (steady_kept s station.opening.faults at _ _ turn.Went c.self.invariant.steady (turned g before job c.end_start.ensures.ends));
      rooms = subst (λ js. HasRooms shared' station.active station.journal.spare (moment model shared' station.journal.items js) c.start_job-end.new.lines)
          (sym items)
          (rooms_relined shared' station.active station.journal.spare (moment model shared' station.journal.items (slice_set jobs at job)) station.lines
          c.start_job-end.new.lines started.same.0
          (rooms_going model station.shared station.journal.items jobs at was job station.active station.journal.spare station.lines is.there
          c.self.invariant.rooms s shared' mine.tx tx' c.self.invariant.steady.kept.told refl mine.doing
          (ap (λ (j : JobView). j.doing) (gives mine.tx mine.doing))
          refl refl refl refl refl));
      ahead = subst (λ js. AreAhead js c.start_job-end.new.ahead.items) (sym items)
          (subst (AreAhead (slice_set jobs at job)) (sym started.same.1)
          (ahead_kept jobs at was job station.ahead.items is.there (ap goes_on is.stage) c.self.invariant.ahead));
      taken = subst (λ js. station.taken ≤ length js) (sym items) (taken_kept jobs at job station.taken c.self.invariant.taken);
      plan = c.self.invariant.plan;
      backed = λ tells.
          let are = c.self.invariant.backed tells in
          subst (λ js. AreBacked (model.contents station.shared.host) station.shared.buffers.kept (job_views js)) (sym items)
          (backed_jobs _ _ _ _ jobs at was job is.there (data_keeps_itself (model.contents station.shared.host)) are.kept
          (λ tx active.
          let both : Some tx' ≡ Some tx = ap active_in (sym (ap (λ (j : JobView). j.doing) (gives mine.tx mine.doing))) ∙ active in
          let one : tx' ≡ tx = cc both in
          subst (λ (t : TxView). All (IsBacked (model.contents station.shared.host)) t.taken) one
          (are.taken at mine.tx (job_view was, place, ap active_in mine.doing))) are);
      unparted = c.self.invariant.unparted;
      indexed = c.self.invariant.indexed;
      starts = record {
        children = subst (λ js. (j : ℕ) (x : Job) → slice_get js j ≡ Some x → HasChildren s.script x) (sym items)
            ((starts_set s.script station.shared.started.items jobs (room_of station.jobs station.lines station.ahead) at was job is.there
            (ap (map child_view) c.end_start.ensures.children
            ∙ start_waits s.script was lent mine.tx mine.next mine.later c.args.block c.start_job-end.result mine.doing mine.left
            (sym (ap next_thread mine.left) ∙ thread g before mine.tx mine.doing) (all.children at was is.there)
            (lent_children s.script jobs c.start_job-end.new.jobs.items at c.args.block c.start_job-end.result was lent is.there started.jobs
            c.index_mut.ensures.value)
            ∙ sym (ap (λ (j : JobView). started_in s.script j j.doing) (gives mine.tx mine.doing))) all).children);
        jobs_room = started.jobs_room all.jobs_room;
        lines_room = started.lines_room all.lines_room;
        marks_room = started.ahead_room all.marks_room;
      };
      undoable = subst (AllBackSafely station.rules.undo_tries) (sym items)
          (backs_set station.rules.undo_tries jobs at was job is.there
          (safe_ending station.rules.undo_tries job tx' (ap (λ (j : JobView). j.doing) (gives mine.tx mine.doing)) (ap runs mine.phase))
          c.self.invariant.undoable);
    }

pub returns-clause-row : goal.returns-clause-row
returns-clause-row g c =
    let station = c.self.inside in
    let model = g.H.Host.model in
    let s = setting station.opening.script station.rules model.tells in
    let shared' : Shared g.row.H.Denot = record station.shared { started = c.start_job-end.new.started } in
    let before = (goal.at.returns-clause-row g c).After-index_mut in
    let job = c.end_start.new.job in
    subst (λ v. IsTurn (setting_of model v) c.args.at (now_of model v) turn.Went
    (moment model shared' station.journal.items (slice_set c.start_job-end.new.jobs.items c.args.at job))) c.self.view_is
    (subst (λ js. IsTurn s c.args.at (moment model station.shared station.journal.items station.jobs.items) turn.Went
    (moment model shared' station.journal.items js)) (sym (items g before job))
    (turned g before job c.end_start.ensures.ends))
