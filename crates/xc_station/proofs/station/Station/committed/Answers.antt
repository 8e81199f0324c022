use Rattle.std.proofs.Common.{◌≡◌, ℕ, ◌+◌, ◌-◌, ◌≤◌, ◌++◌, List, length, refl, sym, subst, ap, ◌∙◌, arith}
use Rattle.std.proofs.lemmas.List.{length-append, length-map, map-append}
use Rattle.std.specs.Prelude.{slice_get, slice_set, All, map}
use Rattle.std.specs.declared.option.Option.TheVariants.{Some}
use Rattle.xc_roomy.specs.Room.{Roomy}
use Rattle.xc_model.specs.Moment.{TxView, JobView, Active, active_in, active_of}
use Rattle.xc_model.specs.Setting.{setting}
use Rattle.xc_model.specs.Started.{started_by}
use Rattle.xc_model.specs.Rows.{IsTurn}
use Rattle.xc_model.specs.Entering.{behind_commit, started_jobs}
use Rattle.xc_turns.proofs.Laws.{AreIdle, started_idle}
use Rattle.xc_data.specs.declared.entry.Turn.TheVariants as turn
use Rattle.xc_station.specs.declared.job.Job.{Job}
use Rattle.xc_station.specs.declared.job.Stage.TheVariants as PlainStage
use Rattle.xc_station.specs.Jobs.{HasChildren, IsStage, doing_of, goes_on, child_view, job_view, job_views, started_in}
use Rattle.xc_station.specs.Backs.{AllBackSafely}
use Rattle.xc_station.specs.Stations.{HasRooms, IsSteady, moment, now_of, room_of, setting_of}
use Rattle.xc_station.proofs.Ahead.{ahead_kept}
use Rattle.xc_station.proofs.BacksKept.{backs_joined, backs_made, backs_set, safe_without}
use Rattle.xc_station.proofs.Joined.{backed_joined, children_joined, children_within, rooms_joined}
use Rattle.xc_data.proofs.Laws.{get_map, length_set}
use Rattle.xc_station.proofs.Ready.{fits_next, active_has_room}
use Rattle.xc_station.proofs.RoomsKept.{rooms_entered}
use Rattle.xc_station.proofs.Stages.{IsCommitted, IsThere, lent, committed_stage}
use Rattle.xc_station.proofs.Steady.{steady_kept}
use Rattle.xc_station.proofs.TurnRows.{committed_turned}
use Rattle.xc_station.proofs.Waiting.{starts_set}
use Rattle.xc_station.proofs.station.Station.committed.Given.{Over}
use Rattle.xc_station.proofs.station.Station.committed.Goals as goal
use Rattle.xc_station.proofs.station.Station.committed.Goals.{After-index_mut, After-join}
use Rattle.xc_station.proofs.Notes.{backed_without, notes_within}
use Rattle.xc_station.specs.Lent.{AreBacked, IsBacked}

-- the job that is lent
is_there : (g : Over) (c : After-index_mut g) → IsThere c.self.inside.jobs.items c.args.at PlainStage.Committed c.index_mut.result.now
is_there g c =
    lent c.self.inside.jobs.items c.args.at PlainStage.Committed c.index_mut.result.now
    (subst (λ v. IsStage v.jobs c.args.at PlainStage.Committed) (sym c.self.view_is) c.requires) c.index_mut.ensures.value

-- its transaction
mine : (g : Over) (c : After-index_mut g) → IsCommitted (doing_of c.index_mut.result.now)
mine g c = committed_stage (doing_of c.index_mut.result.now) (is_there g c).stage

-- it is active, and there is room for its entry
room : (g : Over) (c : After-index_mut g) → (1 ≤ c.self.inside.active) × (1 ≤ c.self.inside.journal.spare)
room g c =
    let station = c.self.inside in
    active_has_room g.H.Host.model station.shared station.journal.items station.jobs.items c.args.at c.index_mut.result.now station.opening.script
    station.rules station.opening.faults station.active station.journal.spare station.lines c.self.invariant.steady c.self.invariant.rooms
    PlainStage.Committed (mine g c).tx (is_there g c) (mine g c).doing

-- what it starts was started
within : (g : Over) (c : After-index_mut g) → length c.self.inside.jobs.items + length c.index_mut.result.now.children.items
    ≤ length (moment g.H.Host.model c.self.inside.shared c.self.inside.journal.items c.self.inside.jobs.items).started
within g c =
    let station = c.self.inside in
    children_within (setting station.opening.script station.rules g.H.Host.model.tells) station.opening.faults
    (moment g.H.Host.model station.shared station.journal.items station.jobs.items) station.jobs.items c.args.at c.index_mut.result.now
    (room_of station.jobs station.lines station.ahead) c.self.invariant.steady refl (is_there g c).there c.self.invariant.starts

-- the jobs that join are those that it starts
starts : (g : Over) (c : After-join g) (tx : TxView) → doing_of c.index_mut.result.now ≡ Active tx
    → job_views c.join.ensures.jobs.0 ≡ started_jobs c.self.inside.opening.script (job_view c.index_mut.result.now) tx
starts g c tx does =
    c.join.ensures.jobs.2 ∙ ap (map child_view) c.commit-entry.ensures.children.0
    ∙ c.self.invariant.starts.children c.args.at c.index_mut.result.now (is_there g (goal.at.invariant_of-self g c).After-index_mut).there
    ∙ ap (started_in c.self.inside.opening.script (job_view c.index_mut.result.now)) does

-- with them the jobs are few
few : (g : Over) (c : After-join g) → length c.self.inside.jobs.items + length c.join.ensures.jobs.0 ≤ 1000
few g c =
    let all = within g (goal.at.invariant_of-self g c).After-index_mut in
    let children = ap length c.commit-entry.ensures.children.0 in
    let many = sym (length-map c.join.ensures.jobs.0 job_view) ∙ ap length c.join.ensures.jobs.2
    ∙ length-map c.commit-entry.result.children.items child_view in
    let below = c.self.invariant.steady.kept.started.few in
    omega (arith, all, children, many, below)

-- the turn that it takes
turned : (g : Over) (c : After-join g)
    → IsTurn (setting c.self.inside.opening.script c.self.inside.rules g.H.Host.model.tells) c.args.at
    (moment g.H.Host.model c.self.inside.shared c.self.inside.journal.items c.self.inside.jobs.items) turn.Went
    (moment g.H.Host.model c.commit-entry.new.shared c.enter.new.self.items
    (slice_set c.self.inside.jobs.items c.args.at c.commit-entry.new.job ++ c.join.ensures.jobs.0))
turned g c =
    let station = c.self.inside in
    let commit = c.commit-entry.ensures in
    committed_turned g.H.Host.model station.shared station.journal.items station.jobs.items c.args.at c.index_mut.result.now
    (setting station.opening.script station.rules g.H.Host.model.tells) c.commit-entry.new.shared c.enter.new.self.items
    c.commit-entry.result.entry c.commit-entry.new.job c.join.ensures.jobs.0 (c.args.at + 1)
    (is_there g (goal.at.invariant_of-self g c).After-index_mut) commit.entry
    (λ tx does. (commit.freed tx does).seats) refl (commit.same.0, commit.same.1, commit.started) commit.gone.kept c.enter.ensures.items
    (starts g c) (few g c)

pub commit-entry-requires-clause-committing : goal.commit-entry-requires-clause-committing
commit-entry-requires-clause-committing g c =
    let own = mine g (goal.at.commit-entry-requires-clause-committing g c).After-index_mut in
    (own.tx, own.doing, own.phase)

pub commit-entry-requires-clause-table : goal.commit-entry-requires-clause-table
commit-entry-requires-clause-table g c tx doing =
    let was = c.index_mut.result.now in
    let is = is_there g (goal.at.commit-entry-requires-clause-table g c).After-index_mut in
    λ o. (c.self.invariant.rooms.claims o).held c.args.at tx
    (job_view was, get_map job_view c.self.inside.jobs.items c.args.at was is.there, ap active_in doing)

pub commit-entry-requires-clause-next : goal.commit-entry-requires-clause-next
commit-entry-requires-clause-next g c =
    let station = c.self.inside in
    let before = (goal.at.commit-entry-requires-clause-next g c).After-index_mut in
    fits_next g.H.Host.model station.shared station.journal.items station.jobs.items c.args.at c.index_mut.result.now station.opening.script
    station.rules station.opening.faults station.active station.journal.spare station.lines c.self.invariant.steady c.self.invariant.rooms
    PlainStage.Committed (mine g before).tx (is_there g before) (mine g before).doing

pub commit-entry-requires-clause-noted : goal.commit-entry-requires-clause-noted
commit-entry-requires-clause-noted g c =
    let was = c.index_mut.result.now in
    let jobs = c.self.inside.jobs.items in
    let is = is_there g (goal.at.commit-entry-requires-clause-noted g c).After-index_mut in
    let within = notes_within (job_views jobs) c.args.at (job_view was) (get_map job_view jobs c.args.at was is.there) in
    let noted = c.self.invariant.rooms.noted in
    omega (arith, within, noted)

pub enter-requires : goal.enter-requires
enter-requires g c = (room g (goal.at.enter-requires g c).After-index_mut).1

pub overflow_sub-self : goal.overflow_sub-self
overflow_sub-self g c = (room g (goal.at.overflow_sub-self g c).After-index_mut).0

pub join-requires-clause-jobs : goal.join-requires-clause-jobs
join-requires-clause-jobs g c =
    let all = within g (goal.at.join-requires-clause-jobs g c).After-index_mut in
    let children = ap length c.commit-entry.ensures.children.0 in
    let set = length_set c.self.inside.jobs.items c.args.at c.commit-entry.new.job in
    let room = c.self.invariant.starts.jobs_room in
    omega (arith, all, children, set, room)

pub join-requires-clause-few : goal.join-requires-clause-few
join-requires-clause-few g c =
    let all = within g (goal.at.join-requires-clause-few g c).After-index_mut in
    let children = ap length c.commit-entry.ensures.children.0 in
    let set = length_set c.self.inside.jobs.items c.args.at c.commit-entry.new.job in
    let below = c.self.invariant.steady.kept.started.few in
    omega (arith, all, children, set, below)

pub join-requires-clause-ahead : goal.join-requires-clause-ahead
join-requires-clause-ahead g c =
    let all = within g (goal.at.join-requires-clause-ahead g c).After-index_mut in
    let children = ap length c.commit-entry.ensures.children.0 in
    let room = c.self.invariant.starts.marks_room in
    let count = c.self.invariant.ahead.count in
    omega (arith, all, children, count, room)

pub join-requires-clause-marks : goal.join-requires-clause-marks
join-requires-clause-marks g c =
    let is = is_there g (goal.at.join-requires-clause-marks g c).After-index_mut in
    ahead_kept c.self.inside.jobs.items c.args.at c.index_mut.result.now c.commit-entry.new.job c.self.inside.ahead.items is.there
    (ap goes_on is.stage) c.self.invariant.ahead

pub invariant_of-self : goal.invariant_of-self
invariant_of-self g c =
    let was = c.index_mut.result.now in
    let station = c.self.inside in
    let model = g.H.Host.model in
    let at = c.args.at in
    let jobs = station.jobs.items in
    let s = setting station.opening.script station.rules model.tells in
    let before = (goal.at.invariant_of-self g c).After-index_mut in
    let is = is_there g before in
    let mine = mine g before in
    let some = room g before in
    let set = length_set jobs at c.commit-entry.new.job in
    let shared' = c.commit-entry.new.shared in
    let job = c.commit-entry.new.job in
    let joins = c.join.ensures.jobs in
    let more = joins.0 in
    let few = few g c in
    let gave = c.commit-entry.ensures.entry mine.tx at mine.doing refl in
    let freed = c.commit-entry.ensures.freed mine.tx mine.doing in
    let idle : AreIdle (job_views more) =
    subst AreIdle (sym (starts g c mine.tx mine.doing))
    (started_idle s.script (behind_commit (job_view was) mine.tx) (started_by mine.tx)) in
    let shown : job_views (slice_set jobs at job ++ more) ≡ job_views (slice_set jobs at job) ++ job_views more =
    map-append job_view (slice_set jobs at job) more in
    let counts = length-map more job_view in
    let sets = length-map (slice_set jobs at job) job_view in record {
      steady = subst (λ js. IsSteady s station.opening.faults (moment model shared' c.enter.new.self.items js)) (sym joins.1)
          (steady_kept s station.opening.faults at _ _ turn.Went c.self.invariant.steady (turned g c));
      rooms = subst (λ js. HasRooms shared' (station.active - 1) c.enter.new.self.spare (moment model shared' c.enter.new.self.items js) station.lines)
          (sym joins.1)
          (subst (λ js. HasRooms shared' (station.active - 1) c.enter.new.self.spare
          (record (moment model shared' c.enter.new.self.items (slice_set jobs at job)) { jobs = js }) station.lines) (sym shown)
          (rooms_joined shared' (station.active - 1) c.enter.new.self.spare (moment model shared' c.enter.new.self.items (slice_set jobs at job))
          (job_views more) station.lines idle (omega (arith, few, counts, sets, set))
          (rooms_entered model station.shared station.journal.items jobs at was job station.active station.journal.spare station.lines is.there
          c.self.invariant.rooms s shared' c.enter.new.self.items c.enter.new.self.spare mine.tx c.self.invariant.steady.kept.told mine.doing
          (ap active_of gave.0)
          freed some.0 c.enter.ensures.spare c.commit-entry.ensures.gone.noted)));
      ahead = c.join.ensures.marks;
      taken = (let taken = c.self.invariant.taken in let longer = ap length joins.1 ∙ length-append (slice_set jobs at job) more in omega
          (arith, taken, longer, set));
      plan = ap model.plan c.commit-entry.ensures.same.0 ∙ c.self.invariant.plan;
      backed = λ tells.
          subst (λ js. AreBacked (model.contents shared'.host) shared'.buffers.kept (job_views js)) (sym joins.1)
          (subst (AreBacked (model.contents shared'.host) shared'.buffers.kept) (sym shown)
          (backed_joined (model.contents shared'.host) shared'.buffers.kept (job_views (slice_set jobs at job)) (job_views more) idle
          (subst (λ h. AreBacked (model.contents h) shared'.buffers.kept (job_views (slice_set jobs at job))) (sym c.commit-entry.ensures.same.0)
          (backed_without _ _ _ jobs at was job is.there
          (subst (All (IsBacked (model.contents station.shared.host))) (sym c.commit-entry.ensures.gone.kept) ((c.self.invariant.backed tells).kept))
          (ap active_of gave.0) (c.self.invariant.backed tells)))));
      unparted = λ own. c.enter.ensures.gone ∙ c.self.invariant.unparted own;
      indexed = c.self.invariant.indexed;
      starts = (let all = c.self.invariant.starts in
          let names : shared'.started.items ≡ station.shared.started.items = ap (λ (r : Roomy (List ℕ)). r.items) c.commit-entry.ensures.started in
          let count = ap length names in
          let rooms = c.join.ensures.rooms in
          let jobs_room = all.jobs_room in let lines_room = all.lines_room in let marks_room = all.marks_room in
          let jobs' = rooms.0 in let marks' = rooms.1 in
          record {
            children = subst (λ js. (j : ℕ) (x : Job) → slice_get js j ≡ Some x → HasChildren s.script x) (sym joins.1)
                (children_joined s.script (slice_set jobs at job) more c.commit-entry.result.children.items joins.2 joins.3
                (starts_set s.script station.shared.started.items jobs (room_of station.jobs station.lines station.ahead) at was job is.there
                (ap (map child_view) c.commit-entry.ensures.children.1 ∙ sym (ap (λ (j : JobView). started_in s.script j j.doing) gave.0)) all).children);
            jobs_room = omega (arith, count, jobs_room, jobs');
            lines_room = omega (arith, count, lines_room);
            marks_room = omega (arith, count, marks_room, marks');
          });
      undoable = subst (AllBackSafely station.rules.undo_tries) (sym joins.1)
          (backs_joined station.rules.undo_tries (slice_set jobs at job) more
          (backs_set station.rules.undo_tries jobs at was job is.there
          (safe_without station.rules.undo_tries job (ap active_of gave.0)) c.self.invariant.undoable)
          (backs_made station.rules.undo_tries more child_view c.commit-entry.result.children.items (λ child. refl) joins.2));
    }

pub returns-clause-row : goal.returns-clause-row
returns-clause-row g c =
    let station = c.self.inside in
    let model = g.H.Host.model in
    let s = setting station.opening.script station.rules model.tells in
    let shared' = c.commit-entry.new.shared in
    subst (λ v. IsTurn (setting_of model v) c.args.at (now_of model v) turn.Went
    (moment model shared' c.enter.new.self.items c.join.new.jobs.items)) c.self.view_is
    (subst (λ js. IsTurn s c.args.at (moment model station.shared station.journal.items station.jobs.items) turn.Went
    (moment model shared' c.enter.new.self.items js)) (sym c.join.ensures.jobs.1) (turned g c))
