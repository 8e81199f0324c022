-- What waits with its job until the entry of the transaction that started it.
use Rattle.std.proofs.Common.{◌≡◌, ℕ, List, [], ◌∷◌, ◌++◌, length, map, refl, ap, sym, subst, ◌∙◌, arith}
use Rattle.std.proofs.lemmas.List.{append-nil, length-map, map-append}
use Rattle.std.specs.Prelude.{slice_get, slice_set, sum_by}
use Rattle.std.specs.declared.option.Option.TheVariants.{None, Some}
use mathlib.Core.Logic.{dite}
use native.Mathlib.Decide.{ℕ_discrete}
use Rattle.xc_data.specs.Calls.{thread_in}
use Rattle.xc_data.specs.declared.call.LateCall.{LateCall}
use Rattle.xc_data.specs.declared.call.LateEnd.{LateEnd}
use Rattle.xc_data.specs.declared.call.LateEnd.TheVariants as end
use Rattle.xc_data.specs.declared.entry.Cause.{Cause}
use Rattle.xc_data.specs.declared.entry.Entry.{Entry}
use Rattle.xc_data.specs.declared.entry.Turn.{Turn}
use Rattle.xc_host.specs.Model.{HostModel}
use Rattle.xc_roomy.specs.Room.{Roomy}
use Rattle.xc_text.specs.declared.script.Script.{Script}
use Rattle.xc_model.specs.declared.phase.Phase.TheVariants as phase
use Rattle.xc_script.specs.Ask.{block_place}
use Rattle.xc_script.specs.Position.{at_begin}
use Rattle.xc_script.specs.Blocks.{kept_calls}
use Rattle.xc_model.specs.LateCalls.{started_late, started_with}
use Rattle.xc_model.specs.Rows.{IsTurn}
use Rattle.xc_model.specs.Entering.{behind_commit, started_job, started_jobs}
use Rattle.xc_model.specs.Moment.{TxView, JobView, Doing, Idle, Active, Starved, Ended, Moment, active_in, active_of, actives, late_left}
use Rattle.xc_model.specs.Setting.{Setting}
use Rattle.xc_model.specs.Started.{start_count, started_by}
use Rattle.xc_model.specs.Stories.{IsInPhase, IsRunning}
use Rattle.xc_model.specs.Movers.{asked_at}
use Rattle.xc_turns.proofs.Laws.{adds, sum_set, story_in_phase, none_late, no_thread, none_started, one_more, started_count}
use Rattle.xc_world.specs.World.{beginning}
use Rattle.xc_station.specs.declared.calls.Shared.{Shared}
use Rattle.xc_station.specs.declared.job.Job.{Job}
use Rattle.xc_station.specs.Jobs.{HasChildren, doing_of, child_view, job_view, started_in}
use Rattle.xc_station.specs.Starting.{StartsChild}
use Rattle.xc_station.specs.Stations.{HasStarts, IsSteady, Room, moment}
use Rattle.xc_station.proofs.Children.{handed_same}
use Rattle.xc_data.proofs.Laws.{get_map, get_set_other, get_set_same, length_set, map_set}
use Rattle.xc_station.proofs.Steady.{steady_kept}

-- ---- how much a transaction has started
empty : {A : Type 0} → (xs : List A) → length xs ≡ 0 → xs ≡ []
empty [] none = refl
empty (x ∷ xs) none = absurd (omega arith)

-- as many jobs as blocks
pub started_as_many : (script : Script) (job : JobView) (d : Doing) → length (started_in script job d) ≡ adds start_count (active_in d)
started_as_many script job Idle = refl
started_as_many script job (Active tx) = length-map (started_by tx) (started_job script (behind_commit job tx))
started_as_many script job Starved = refl
started_as_many script job (Ended end) = refl

-- without ends none
pub none_without : (script : Script) (job : JobView) (tx : TxView) → job.doing ≡ Active tx → tx.ends ≡ [] → started_in script job job.doing ≡ []
none_without script job tx is none =
    ap (started_in script job) is
    ∙ ap (map (started_job script (behind_commit job tx))) (ap (started_late tx.late) none ∙ none_started tx.late)

-- what a job starts has the variables of the commit, whatever its late calls end in
same_started : (script : Script) (job : JobView) (tx : TxView) (ends : List LateEnd) (block : List ℕ)
    → started_job script (behind_commit job (record tx { ends = ends })) block ≡ started_job script (behind_commit job tx) block
same_started script job tx ends block =
    let kept = kept_calls tx.calls tx.replies in
    let handed = sym (handed_same script job.place.variables kept ends) ∙ handed_same script job.place.variables kept tx.ends in
    λ i. record {
      block = block;
      me = beginning tx.me.places;
      place = at_begin (record { block = block_place script block; next = 0; variables = handed i });
      handed = None;
      attempts = None;
      busy = 0;
      doing = Idle;
    }

-- with one end more, those are started that it tells of
pub more_started : (script : Script) (job : JobView) (tx : TxView) (c : LateCall) (rest : List LateCall) (e : LateEnd) → late_left tx ≡ c ∷ rest
    → started_jobs script job (record tx { ends = tx.ends ++ e ∷ [] })
    ≡ started_jobs script job tx ++ map (started_job script (behind_commit job tx)) (started_with (thread_in c) e)
more_started script job tx c rest e left =
    ap (map (started_job script (behind_commit job (record tx { ends = tx.ends ++ e ∷ [] })))) (one_more tx.late tx.ends c rest e left)
    ∙ (λ i. map (λ block. same_started script job tx (tx.ends ++ e ∷ []) block i) (started_by tx ++ started_with (thread_in c) e))
    ∙ map-append (started_job script (behind_commit job tx)) (started_by tx) (started_with (thread_in c) e)

-- none, where the call starts no job
pub hosted_same : (script : Script) (job : JobView) (tx : TxView) (c : LateCall) (rest : List LateCall) (e : LateEnd) → late_left tx ≡ c ∷ rest
    → thread_in c ≡ None → started_jobs script job (record tx { ends = tx.ends ++ e ∷ [] }) ≡ started_jobs script job tx
hosted_same script job tx c rest e left none =
    let f = started_job script (behind_commit job tx) in
    more_started script job tx c rest e left
    ∙ ap (λ blocks. started_jobs script job tx ++ map f blocks) (ap (λ o. started_with o e) none ∙ no_thread e)
    ∙ append-nil (started_jobs script job tx)

-- what a start leaves waits with its job
pub start_waits : (script : Script) (was next : Job) (tx : TxView) (c : LateCall) (rest : List LateCall) (block : List ℕ) (e : LateEnd)
    → doing_of was ≡ Active tx → late_left tx ≡ c ∷ rest → thread_in c ≡ Some block → HasChildren script was
    → StartsChild script was block e next.children.items
    → map child_view next.children.items ≡ started_jobs script (job_view was) (record tx { ends = tx.ends ++ e ∷ [] })
start_waits script was next tx c rest block e is left thread has starts =
    by_end e starts
    ∙ ap (λ o. started_jobs script (job_view was) tx ++ map (started_job script (behind_commit (job_view was) tx)) (started_with o e)) (sym thread)
    ∙ sym (more_started script (job_view was) tx c rest e left)
  where
    before : map child_view was.children.items ≡ started_jobs script (job_view was) tx
    before = has ∙ ap (started_in script (job_view was)) is

    same : next.children.items ≡ was.children.items → map child_view next.children.items ≡ started_jobs script (job_view was) tx ++ []
    same none = ap (map child_view) none ∙ before ∙ sym (append-nil (started_jobs script (job_view was) tx))

    by_end : (d : LateEnd) → StartsChild script was block d next.children.items → map child_view next.children.items
        ≡ started_jobs script (job_view was) tx ++ map (started_job script (behind_commit (job_view was) tx)) (started_with (Some block) d)
    by_end end.Done (child, pushed, gives) =
        ap (map child_view) pushed ∙ map-append child_view was.children.items (child ∷ []) ∙ (λ i. before i ++ gives tx is i ∷ [])
    by_end end.NoScript none = same none
    by_end (end.Full n) none = same none
    by_end (end.NoMemory n) none = same none
    by_end (end.Fault n) none = same none
    by_end end.Shut none = same none
    by_end end.NoName none = same none

-- so a running one has started none
pub none_running : (s : Setting) (faults : ℕ) (now : Moment) (at : ℕ) (job : JobView) (tx : TxView) → IsSteady s faults now
    → slice_get now.jobs at ≡ Some job → job.doing ≡ Active tx → tx.phase ≡ phase.Running → started_in s.script job job.doing ≡ []
none_running s faults now at job tx steady stands is runs =
    let in' = story_in_phase s at now job tx stands is steady.kept.told in
    let running : IsRunning tx = subst (IsInPhase s job.place (asked_at s job) tx) runs in'.1 in
    none_without s.script job tx is running.no_ends

-- nor has one that undoes
pub none_undoing : (s : Setting) (faults : ℕ) (now : Moment) (at : ℕ) (job : JobView) (tx : TxView) (c : Cause) → IsSteady s faults now
    → slice_get now.jobs at ≡ Some job → job.doing ≡ Active tx → tx.phase ≡ phase.Undoing c → started_in s.script job job.doing ≡ []
none_undoing s faults now at job tx c steady stands is undoes =
    none_without s.script job tx is (none_late s at now job tx c stands is undoes steady.kept.told)

-- where a turn starts none, a job that had started none has started none
still_none : (s : Setting) (faults at : ℕ) (old new : Moment) (answer : Turn) (was job : JobView) → IsSteady s faults old → IsTurn s at old answer new
    → slice_get old.jobs at ≡ Some was → new.jobs ≡ slice_set old.jobs at job → new.started ≡ old.started
    → started_in s.script was was.doing ≡ [] → started_in s.script job job.doing ≡ []
still_none s faults at old new answer was job steady turned stands jobs started none =
    let after = steady_kept s faults at old new answer steady turned in
    let before = started_count old steady.kept.started in
    let behind = started_count new after.kept.started in
    let sums = sum_set start_count old.jobs at was job stands in
    let same = ap (λ js. sum_by start_count (actives js)) jobs in
    let count = ap length jobs ∙ length_set old.jobs at job in
    let names = ap length started in
    let first : adds start_count (active_of was) ≡ 0 = sym (started_as_many s.script was was.doing) ∙ ap length none in
    let last : adds start_count (active_of job) ≡ 0 = omega (arith, before, behind, sums, same, count, names, first) in
    empty (started_in s.script job job.doing) (started_as_many s.script job job.doing ∙ last)

-- ---- all jobs
-- with another job in one place
pub starts_set : (script : Script) (started : List (List ℕ)) (jobs : List Job) (room : Room) (at : ℕ) (was job : Job)
    → slice_get jobs at ≡ Some was → HasChildren script job → HasStarts script started jobs room
    → HasStarts script started (slice_set jobs at job) room
starts_set script started jobs room at was job stands has all =
    record {
      children = λ j other there. dite (ℕ_discrete j at)
          (λ same.
          let here : Some job ≡ Some other = sym (get_set_same jobs at was job stands) ∙ ap (slice_get (slice_set jobs at job)) (sym same) ∙ there in
          let one : job ≡ other = cc here in
          subst (HasChildren script) one has)
          (λ away. all.children j other (sym (get_set_other jobs at j job away) ∙ there));
      jobs_room = all.jobs_room;
      lines_room = all.lines_room;
      marks_room = all.marks_room;
    }

-- after a turn that starts none, of a job that had started none
pub starts_still : {H : Type 0} (model : HostModel H) (shared shared' : Shared H) (journal journal' : List Entry) (jobs : List Job) (at : ℕ)
    (was job : Job) (room : Room) (s : Setting) (faults : ℕ) (answer : Turn)
    → IsSteady s faults (moment model shared journal jobs) → slice_get jobs at ≡ Some was
    → IsTurn s at (moment model shared journal jobs) answer (moment model shared' journal' (slice_set jobs at job))
    → shared'.started ≡ shared.started → started_in s.script (job_view was) (doing_of was) ≡ [] → job.children.items ≡ was.children.items
    → HasStarts s.script shared.started.items jobs room
    → HasStarts s.script shared'.started.items (slice_set jobs at job) room
starts_still model shared shared' journal journal' jobs at was job room s faults answer steady stands turned same none children all =
    let old = moment model shared journal jobs in
    let new = moment model shared' journal' (slice_set jobs at job) in
    let names : new.started ≡ old.started = ap (λ (r : Roomy (List ℕ)). r.items) same in
    let none' = still_none s faults at old new answer (job_view was) (job_view job) steady turned (get_map job_view jobs at was stands)
    (map_set job_view jobs at job) names none in
    subst (λ started. HasStarts s.script started (slice_set jobs at job) room) (sym names)
    (starts_set s.script shared.started.items jobs room at was job stands
    (ap (map child_view) children ∙ all.children at was stands ∙ none ∙ sym none') all)
