-- Jobs that are live after the others from an entry on.
use Rattle.std.proofs.Common.{◌≡◌, ℕ, ◌+◌, ◌≤◌, List, [], ◌∷◌, ◌++◌, length, map, refl, ap, sym, subst, ◌∙◌, arith, All, zero, suc}
use Rattle.std.proofs.lemmas.List.{length-append, length-map}
use Rattle.std.proofs.lemmas.List.Elements.{All-head, All-tail}
use Rattle.std.proofs.lemmas.List.Sums.{sum_by-append, sum_by-cons}
use Rattle.std.specs.Prelude.{Option, slice_get}
use Rattle.std.specs.declared.option.Option.TheVariants.{Some}
use Rattle.xc_data.specs.declared.entry.JobEnd.TheVariants as job_end
use Rattle.xc_data.specs.declared.entry.JobLine.{JobLine}
use Rattle.xc_data.specs.declared.entry.KeptItem.{KeptItem}
use Rattle.xc_host.specs.Contents.{Contents}
use Rattle.xc_roomy.specs.Room.{Roomy}
use Rattle.xc_text.specs.declared.script.Script.{Script}
use Rattle.xc_model.specs.Moment.{TxView, JobView, Idle, Ended, Moment}
use Rattle.xc_model.specs.Setting.{Setting}
use Rattle.xc_model.specs.Started.{start_count}
use Rattle.xc_locks.specs.Table.{mode_in, held_mode}
use Rattle.xc_sentinel.specs.Seating.{seat_in}
use Rattle.xc_turns.proofs.Laws.{sum_set, AreIdle, grown_active, grown_actives, grown_still, started_count}
use Rattle.xc_station.specs.declared.calls.Shared.{Shared}
use Rattle.xc_station.specs.declared.job.Child.{Child}
use Rattle.xc_station.specs.declared.job.Job.{Job}
use Rattle.xc_station.specs.Jobs.{HasChildren, doing_of, child_view, job_view, job_views, started_in}
use Rattle.xc_station.specs.Lent.{AreBacked, notes_in, notes_in_all, notes_of}
use Rattle.xc_station.specs.Moments.{AreTracked, runs, seated_as}
use Rattle.xc_station.specs.Stations.{HasRooms, HasStarts, IsSteady, Room}
use Rattle.xc_data.proofs.Laws.{get_map}
use Rattle.xc_station.proofs.Waiting.{started_as_many}

-- ---- beside them all is as before
tracked_joined : {X : Type 0} (found : ℕ → Option X) (has : TxView → Option X) (jobs more : List JobView) → AreIdle more
    → AreTracked found has jobs → AreTracked found has (jobs ++ more)
tracked_joined found has jobs more idle are =
    record {
      held = λ j tx active. are.held j tx (grown_active jobs more idle j tx active);
      known = λ n x is.
          let k = are.known n x is in
          let still = grown_still jobs more k.0 k.1 k.2 in (k.0, k.1, still, k.3);
    }

-- idle jobs have taken nothing
idle_notes : (more : List JobView) → AreIdle more → notes_in_all more ≡ 0
idle_notes [] idle = refl
idle_notes (job ∷ more) idle =
    let first = sum_by-cons notes_of job more in
    let none : notes_of job ≡ 0 = ap notes_in idle.0 in
    let rest = idle_notes more idle.1 in
    omega (arith, first, none, rest)

-- so the room is as before
pub rooms_joined : {H : Type 0} (shared : Shared H) (active spare : ℕ) (now : Moment) (more : List JobView) (lines : Roomy JobLine) → AreIdle more
    → length now.jobs + length more ≤ 1000 → HasRooms shared active spare now lines
    → HasRooms shared active spare (record now { jobs = now.jobs ++ more }) lines
rooms_joined shared active spare now more lines idle few has =
    let count = length-append now.jobs more in
    record {
      claims = λ o. tracked_joined (λ n. held_mode shared.sentinels.claims n o) (λ tx. mode_in tx.held o) now.jobs more idle (has.claims o);
      seats = tracked_joined (λ n. seated_as (seat_in shared.sentinels.seats n)) (λ tx. Some (tx.rank, runs tx.phase)) now.jobs more idle has.seats;
      noted =
          let sum = sum_by-append notes_of now.jobs more in
          let none = idle_notes more idle in
          let was = has.noted in
          omega (arith, sum, none, was);
      few = omega (arith, count, few);
      count = ap length (grown_actives now.jobs more idle) ∙ has.count;
      room = has.room;
      none = has.none;
    }

-- and what is taken
pub backed_joined : (c : Contents) (kept : List KeptItem) (jobs more : List JobView) → AreIdle more → AreBacked c kept jobs
    → AreBacked c kept (jobs ++ more)
backed_joined c kept jobs more idle are =
    record { kept = are.kept; taken = λ j tx active. are.taken j tx (grown_active jobs more idle j tx active) }

-- ---- room for them
-- as many wait with a job as its transaction has started, so with those that are live they are no more than all that were started
pub children_within : (s : Setting) (faults : ℕ) (now : Moment) (jobs : List Job) (at : ℕ) (was : Job) (room : Room) → IsSteady s faults now
    → now.jobs ≡ job_views jobs → slice_get jobs at ≡ Some was → HasStarts s.script now.started jobs room
    → length jobs + length was.children.items ≤ length now.started
children_within s faults now jobs at was room steady are stands has =
    let rests : JobView = record (job_view was) { doing = Ended job_end.Done } in
    let there : slice_get now.jobs at ≡ Some (job_view was) = ap (λ js. slice_get js at) are ∙ get_map job_view jobs at was stands in
    let sums = sum_set start_count now.jobs at (job_view was) rests there in
    let count = started_count now steady.kept.started in
    let wait = ap length (has.children at was stands) ∙ started_as_many s.script (job_view was) (doing_of was) in
    let children = length-map was.children.items child_view in
    let live = ap length are ∙ length-map jobs job_view in
    omega (arith, sums, count, wait, children, live)

-- ---- nothing waits with them
child_idle : (job : Job) (child : Child) → job_view job ≡ child_view child → doing_of job ≡ Idle
child_idle job child same = ap (λ (j : JobView). j.doing) same

each_childless : (script : Script) (more : List Job) (children : List Child) → job_views more ≡ map child_view children
    → All (λ (job : Job). job.children.items ≡ []) more → (at : ℕ) (job : Job) → slice_get more at ≡ Some job → HasChildren script job
each_childless script [] children same none at job is = cc is
each_childless script (x ∷ more) [] same none at job is = cc same
each_childless script (x ∷ more) (child ∷ children) same none zero job is =
    let first : job_view x ≡ child_view child = cc same in
    let one : x ≡ job = cc is in
    subst (HasChildren script) one
    (ap (map child_view) (All-head (λ (j : Job). j.children.items ≡ []) x more none) ∙ sym (ap (started_in script (job_view x)) (child_idle x child first)))
each_childless script (x ∷ more) (child ∷ children) same none (suc at) job is =
    let rest : job_views more ≡ map child_view children = cc same in
    each_childless script more children rest (All-tail (λ (j : Job). j.children.items ≡ []) x more none) at job is

-- of a list, what stands in front of another or in it
split_get : {A : Type 0} (P : A → Type 0) (xs ys : List A) → ((i : ℕ) (x : A) → slice_get xs i ≡ Some x → P x)
    → ((i : ℕ) (x : A) → slice_get ys i ≡ Some x → P x) → (i : ℕ) (x : A) → slice_get (xs ++ ys) i ≡ Some x → P x
split_get P [] ys front back i x is = back i x is
split_get P (z ∷ xs) ys front back zero x is = front zero x is
split_get P (z ∷ xs) ys front back (suc i) x is = split_get P xs ys (λ j y there. front (suc j) y there) back i x is

-- and with the others what they have started
pub children_joined : (script : Script) (jobs more : List Job) (children : List Child) → job_views more ≡ map child_view children
    → All (λ (job : Job). job.children.items ≡ []) more → ((at : ℕ) (job : Job) → slice_get jobs at ≡ Some job → HasChildren script job)
    → (at : ℕ) (job : Job) → slice_get (jobs ++ more) at ≡ Some job → HasChildren script job
children_joined script jobs more children same none each = split_get (HasChildren script) jobs more each (each_childless script more children same none)
