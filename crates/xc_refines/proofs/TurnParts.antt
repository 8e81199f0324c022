-- A station's jobs in flight, after a journal that has led somewhere.
use Rattle.std.proofs.Common.{◌++◌, ◌≡◌, ◌≢◌, ℕ, ◌+◌, ◌<◌, ◌≤◌, List, [], length, refl, ap, sym, ◌∙◌, subst, arith, Option, Some, None}
use Rattle.std.specs.Prelude.{map, slice_get, slice_set}
use mathlib.Core.Logic.{dite}
use native.Mathlib.Decide.{ℕ_discrete}
use Rattle.xc_data.specs.declared.call.CallWithAnswer.{CallWithAnswer}
use Rattle.xc_data.specs.declared.private.Private.{Private}
use Rattle.xc_host.specs.Contents.{Contents, with_contents}
use Rattle.xc_script.specs.Position.{Position}
use Rattle.xc_world.specs.World.{World, beginning}
use Rattle.xc_model.specs.Setting.{Setting}
use Rattle.xc_model.specs.Progress.{Following, Progress, progress_of}
use Rattle.xc_model.specs.Played.{HoldsFor}
use Rattle.xc_model.specs.Stories.{StoriesHold, StoryHolds}
use Rattle.xc_model.specs.Moment.{TxView, JobView, Active, Moment, active_in, active_of, begun_count}
use Rattle.xc_model.specs.IdleRows.{new_tx}
use Rattle.xc_model.specs.Live.{asked_by, has_clients}
use Rattle.xc_script.specs.declared.ask.Ask.{Ask}
use Rattle.xc_model.specs.Movers.{answered_with, asked_at, with_tx}
use Rattle.xc_flight.specs.Active.{Tx}
use Rattle.xc_flight.specs.State.{FlightState, InFlight, AreSound, IsIdleSound, begun, turned}
use Rattle.xc_flight.specs.Turns.{starting}
use Rattle.xc_flight.proofs.Laws.{begin_keeps, begin_sound, turn_keeps_sound}
use Rattle.xc_refines.specs.InFlight.{AreInFlight, IsUnnoted, flown, flown_in, flown_jobs, ran_at}
use Rattle.xc_refines.proofs.FlownLists.{flown-at, flown-count, flown-put, flown-put_same, flown_there, none_flown, put_elsewhere, put_here, put_in}
use Rattle.xc_data.proofs.Laws.{get_set_same, get_set_other, map_set_same, found_at}
use Rattle.std.proofs.lemmas.Option.{slice_get_within}

-- a world with these words and contents, and these started jobs
abbrev pub world_in : World → List ℕ → Contents → List (List ℕ) → World
world_in w words contents started = record (with_contents w contents) { words = words; started = started }

-- the jobs in flight over it
abbrev pub flight_in : World → World → (ℕ → List CallWithAnswer) → List JobView → ℕ → FlightState
flight_in w now unnoted jobs next = record { state = w; now = now; active = flown_jobs unnoted jobs; next = next }

-- what they fly over: the words, what the host tells, the blocks of all that were started, the jobs, and the number that is next
pub record Airfield : Type 0 where
  pub words : List ℕ
  pub contents : Contents
  pub started : List (List ℕ)
  pub jobs : List JobView
  pub next : ℕ

-- these
abbrev pub airfield : List ℕ → Contents → List (List ℕ) → List JobView → ℕ → Airfield
airfield words contents started jobs next = record { words = words; contents = contents; started = started; jobs = jobs; next = next }

-- the jobs in flight over it, after a journal that has led to this world; what isn't noted is by their places
abbrev pub flight_at : World → Airfield → (ℕ → List CallWithAnswer) → FlightState
flight_at w a unnoted = flight_in w (world_in w a.words a.contents a.started) unnoted a.jobs a.next

-- what is true of them, after a journal that has led here
pub record Flying (s : Setting) (p : Progress) (a : Airfield) : Type 0 where
  pub unnoted : ℕ → List CallWithAnswer
  pub was_asked : (at : ℕ) (job : JobView) (tx : TxView) → slice_get a.jobs at ≡ Some job → active_of job ≡ Some tx
      → IsUnnoted tx.phase (asked_at s job) (unnoted at)
  pub flies : InFlight (flight_at p.state.world a unnoted)
  pub sound : AreSound (flight_at p.state.world a unnoted)
  pub idle : (at : ℕ) (job : JobView) → slice_get a.jobs at ≡ Some job → active_of job ≡ None → IsIdleSound p.state.world a.next job.me.places
  pub handles : p.state.handles ≡ map (λ (job : JobView). job.me.places) a.jobs
  pub live : p.state.world.started ≡ map (λ (job : JobView). job.block) a.jobs
  pub blocks : p.state.world.blocks ≡ s.script.outline.jobs ++ s.script.outline.bodies
  pub holds : (at : ℕ) (job : JobView) (tx : TxView) → slice_get a.jobs at ≡ Some job → active_of job ≡ Some tx
      → HoldsFor (ran_at p.state.world job.me tx) (asked_at s job) tx.phase tx.held

-- of a station
pub flying_of : (s : Setting) (now : Moment) → AreInFlight s now
    → Flying s (progress_of s.script now.journal) (airfield now.words now.contents now.started now.jobs (begun_count now + 1))
flying_of s now f =
    record {
      unnoted = f.unnoted;
      was_asked = f.was_asked;
      flies = f.flies;
      sound = f.sound;
      idle = f.idle;
      handles = f.handles;
      live = f.started;
      blocks = f.blocks;
      holds = f.holds;
    }

-- and back
pub flying_from : (s : Setting) (now : Moment)
    → Flying s (progress_of s.script now.journal) (airfield now.words now.contents now.started now.jobs (begun_count now + 1))
    → AreInFlight s now
flying_from s now f =
    record {
      unnoted = f.unnoted;
      was_asked = f.was_asked;
      flies = f.flies;
      sound = f.sound;
      idle = f.idle;
      handles = f.handles;
      started = f.live;
      blocks = f.blocks;
      holds = f.holds;
    }

-- ---- what the journal tells of a job
pub record FollowsStory (s : Setting) (now : Moment) (at : ℕ) (job : JobView) : Type 0 where
  pub following : Following
  pub at_place : slice_get (progress_of s.script now.journal).jobs at ≡ Some following
  pub told : StoryHolds s (begun_count now) (length now.journal) following job

-- each job is told
pub follows_at : (s : Setting) (words : ℕ) (now : Moment) (at : ℕ) (job : JobView) → StoriesHold s words now.marks now.journal now.jobs
    → slice_get now.jobs at ≡ Some job
    → FollowsStory s now at job
follows_at s words now at job told there =
    let lt = slice_get_within now.jobs at job there in
    let f = found_at (progress_of s.script now.journal).jobs at (omega (arith, lt, told.count)) in
    record { following = f.0; at_place = f.1; told = told.jobs_told at f.0 job f.1 there }

-- ---- a job changes, after the same journal
-- what is true of the job with its transaction, and with what isn't noted
pub record Right (s : Setting) (p : Progress) (us : List CallWithAnswer) (job : JobView) : Type 0 where
  pub was_asked : (tx : TxView) → active_of job ≡ Some tx → IsUnnoted tx.phase (asked_at s job) us
  pub holds : (tx : TxView) → active_of job ≡ Some tx
      → HoldsFor (ran_at p.state.world job.me tx) (asked_at s job) tx.phase tx.held

-- the others, by place
pub put_cases : (jobs : List JobView) (at : ℕ) (job job' : JobView) (P : ℕ → JobView → Type 0) → slice_get jobs at ≡ Some job → P at job'
    → ((j : ℕ) (other : JobView) → j ≢ at → slice_get jobs j ≡ Some other → P j other)
    → (j : ℕ) (other : JobView) → slice_get (slice_set jobs at job') j ≡ Some other → P j other
put_cases jobs at job job' P there mine others j other e = dite (ℕ_discrete j at)
    (λ (q : j ≡ at). let here : slice_get (slice_set jobs at job') at ≡ Some other = subst (λ k. slice_get (slice_set jobs at job') k ≡ Some other) q e in
    let put : slice_get (slice_set jobs at job') at ≡ Some job' = get_set_same jobs at job job' there in
    let one : job' ≡ other = cc (here, put) in
    subst (λ k. P k other) (sym q) (subst (P at) one mine))
    (λ (ne : j ≢ at). others j other ne (sym (get_set_other jobs at j job' ne) ∙ e))

-- it keeps all, where it keeps the flights
pub changed : (s : Setting) (p : Progress) (words words' : List ℕ) (contents contents' : Contents) (started started' : List (List ℕ))
    (jobs : List JobView) (next next' at : ℕ)
    (us : List CallWithAnswer) (job job' : JobView) → slice_get jobs at ≡ Some job → next ≤ next' → job'.me ≡ job.me → job'.block ≡ job.block
    → (f : Flying s p (airfield words contents started jobs next))
    → InFlight (flight_in p.state.world (world_in p.state.world words' contents' started') (put_in f.unnoted at us) (slice_set jobs at job') next')
    → AreSound (flight_in p.state.world (world_in p.state.world words' contents' started') (put_in f.unnoted at us) (slice_set jobs at job') next')
    → (active_of job' ≡ None → IsIdleSound p.state.world next' job'.me.places) → Right s p us job'
    → Flying s p (airfield words' contents' started' (slice_set jobs at job') next')
changed s p words words' contents contents' started started' jobs next next' at us job job' there le me block f flies sound idle right =
    let w = p.state.world in
    let Idle_so : ℕ → JobView → Type 0 = λ j other. active_of other ≡ None → IsIdleSound w next' other.me.places in
    let Holds_so : ℕ → JobView → Type 0 = λ j other. (u : TxView) → active_of other ≡ Some u
    → HoldsFor (ran_at w other.me u) (asked_at s other) u.phase u.held in
    let Asked_so : ℕ → JobView → Type 0 = λ j other. (u : TxView) → active_of other ≡ Some u
    → IsUnnoted u.phase (asked_at s other) (put_in f.unnoted at us j) in
    record {
      unnoted = put_in f.unnoted at us;
      was_asked = λ j other u e a. put_cases jobs at job job' Asked_so there
          (λ u a. subst (IsUnnoted u.phase (asked_at s job')) (sym (put_here f.unnoted at us)) (right.was_asked u a))
          (λ j other ne e u a. subst (IsUnnoted u.phase (asked_at s other)) (sym (put_elsewhere f.unnoted at j us ne))
          (f.was_asked j other u e a)) j other e u a;
      flies = flies;
      sound = sound;
      idle = put_cases jobs at job job' Idle_so there idle (λ j other ne e none m low. f.idle j other e none m (omega (arith, low, le)));
      handles = f.handles ∙ sym (map_set_same (λ (job : JobView). job.me.places) jobs at job' job there (ap (λ (m : Private). m.places) me));
      live = f.live ∙ sym (map_set_same (λ (job : JobView). job.block) jobs at job' job there block);
      blocks = f.blocks;
      holds = λ j other u e a. put_cases jobs at job job' Holds_so there right.holds (λ j other ne e u a. f.holds j other u e a) j other e u a;
    }

-- ---- the job's transaction goes on
active_one : (tx u : TxView) → active_in (Active tx) ≡ Some u → tx ≡ u
active_one tx u e = cc e

-- what is true of an active transaction
pub right_active : (s : Setting) (p : Progress) (us : List CallWithAnswer) (job : JobView) (tx : TxView) → job.doing ≡ Active tx
    → IsUnnoted tx.phase (asked_at s job) us
    → HoldsFor (ran_at p.state.world job.me tx) (asked_at s job) tx.phase tx.held
    → Right s p us job
right_active s p us job tx is asked holds =
    let w = p.state.world in
    record {
      was_asked = λ u e. subst (λ (v : TxView). IsUnnoted v.phase (asked_at s job) us) (active_one tx u (sym (ap active_in is) ∙ e)) asked;
      holds = λ u e. subst (λ (v : TxView). HoldsFor (ran_at w job.me v) (asked_at s job) v.phase v.held)
          (active_one tx u (sym (ap active_in is) ∙ e)) holds;
    }

-- it keeps all, where it keeps the flights
pub moves_on : (s : Setting) (p : Progress) (words words' : List ℕ) (contents contents' : Contents) (started started' : List (List ℕ)) (jobs : List JobView)
    (next at : ℕ) (us : List CallWithAnswer)
    (job : JobView) (place : Position) (handed : Option Ask) (tx tx' : TxView) → slice_get jobs at ≡ Some job → job.doing ≡ Active tx → tx'.number ≡ tx.number
    → (f : Flying s p (airfield words contents started jobs next))
    → InFlight (turned (flight_in p.state.world (world_in p.state.world words contents started) f.unnoted jobs next) at (Some (flown job.me us tx'))
    (world_in p.state.world words' contents' started'))
    → IsUnnoted tx'.phase (asked_by (has_clients s.script) s.script handed place) us
    → HoldsFor (ran_at p.state.world job.me tx') (asked_by (has_clients s.script) s.script handed place) tx'.phase tx'.held
    → Flying s p (airfield words' contents' started' (slice_set jobs at (record job { place = place; handed = handed; doing = Active tx' })) next)
moves_on s p words words' contents contents' started started' jobs next at us job place handed tx tx' there is number f flies asked holds =
    let w = p.state.world in
    let job' : JobView = record job { place = place; handed = handed; doing = Active tx' } in
    let put : flown_jobs (put_in f.unnoted at us) (slice_set jobs at job') ≡ slice_set (flown_jobs f.unnoted jobs) at (Some (flown job.me us tx')) =
    flown-put f.unnoted jobs at us job' in
    let behind : (active : List (Option Tx)) → FlightState =
    λ (active : List (Option Tx)). record { state = w; now = world_in w words' contents' started'; active = active; next = next } in
    let sound = turn_keeps_sound (flight_in w (world_in w words contents started) f.unnoted jobs next) at (flown job.me (f.unnoted at) tx) (flown job.me us tx')
    (world_in w words' contents' started') f.sound (flown_there f.unnoted jobs at job tx there is) number refl in
    changed s p words words' contents contents' started started' jobs next next at us job job' there (omega arith) refl refl f
    (subst (λ active. InFlight (behind active)) (sym put) flies)
    (subst (λ active. AreSound (behind active)) (sym put) sound)
    (λ none. cc none) (right_active s p us job' tx' refl asked holds)

-- with what was handed in
pub flies_on : (s : Setting) (p : Progress) (words words' : List ℕ) (contents contents' : Contents) (started started' : List (List ℕ)) (jobs : List JobView)
    (next at : ℕ) (us : List CallWithAnswer)
    (job : JobView) (place : Position) (tx tx' : TxView) → slice_get jobs at ≡ Some job → job.doing ≡ Active tx → tx'.number ≡ tx.number
    → (f : Flying s p (airfield words contents started jobs next))
    → InFlight (turned (flight_in p.state.world (world_in p.state.world words contents started) f.unnoted jobs next) at (Some (flown job.me us tx'))
    (world_in p.state.world words' contents' started'))
    → IsUnnoted tx'.phase (asked_at s (with_tx job place tx')) us
    → HoldsFor (ran_at p.state.world job.me tx') (asked_at s (with_tx job place tx')) tx'.phase tx'.held
    → Flying s p (airfield words' contents' started' (slice_set jobs at (with_tx job place tx')) next)
flies_on s p words words' contents contents' started started' jobs next at us job place tx tx' there is number f flies asked holds =
    moves_on s p words words' contents contents' started started' jobs next at us job place job.handed tx tx' there is number f flies asked holds

-- ---- an idle job
-- what is true of a job without a transaction
pub right_idle : (s : Setting) (p : Progress) (us : List CallWithAnswer) (job : JobView) → active_of job ≡ None → Right s p us job
right_idle s p us job none =
    record {
      was_asked = λ u e. absurd (cc (none, e));
      holds = λ u e. absurd (cc (none, e));
    }

-- it goes on without one
pub flies_idle : (s : Setting) (p : Progress) (words : List ℕ) (contents : Contents) (started : List (List ℕ)) (jobs : List JobView)
    (next at : ℕ) (job job' : JobView)
    → slice_get jobs at ≡ Some job → active_of job ≡ None → active_of job' ≡ None → job'.me ≡ job.me → job'.block ≡ job.block
    → Flying s p (airfield words contents started jobs next) → Flying s p (airfield words contents started (slice_set jobs at job') next)
flies_idle s p words contents started jobs next at job job' there none none' me block f =
    let w = p.state.world in
    let same : flown_jobs (put_in f.unnoted at []) (slice_set jobs at job') ≡ flown_jobs f.unnoted jobs =
    flown-put_same f.unnoted jobs at [] job job' there
    (none_flown job'.me [] job'.doing none' ∙ sym (none_flown job.me (f.unnoted at) job.doing none)) in
    let behind : (active : List (Option Tx)) → FlightState =
    λ (active : List (Option Tx)). record { state = w; now = world_in w words contents started; active = active; next = next } in
    changed s p words words contents contents started started jobs next next at [] job job' there (omega arith) me block f
    (subst (λ active. InFlight (behind active)) (sym same) f.flies)
    (subst (λ active. AreSound (behind active)) (sym same) f.sound)
    (λ same. subst (λ (m : Private). IsIdleSound w next m.places) (sym me) (f.idle at job there none)) (right_idle s p [] job' none')

-- it does what it did, whatever it is asked
pub flies_still : (s : Setting) (p : Progress) (words : List ℕ) (contents : Contents) (started : List (List ℕ)) (jobs : List JobView)
    (next at : ℕ) (job job' : JobView)
    → slice_get jobs at ≡ Some job → job'.doing ≡ job.doing → job'.me ≡ job.me → job'.block ≡ job.block
    → (f : Flying s p (airfield words contents started jobs next)) → Right s p (f.unnoted at) job'
    → Flying s p (airfield words contents started (slice_set jobs at job') next)
flies_still s p words contents started jobs next at job job' there doing me block f right =
    let w = p.state.world in
    let us = f.unnoted at in
    let same : flown_jobs (put_in f.unnoted at us) (slice_set jobs at job') ≡ flown_jobs f.unnoted jobs =
    flown-put_same f.unnoted jobs at us job job' there (λ i. flown_in (me i) us (doing i)) in
    let behind : (active : List (Option Tx)) → FlightState =
    λ (active : List (Option Tx)). record { state = w; now = world_in w words contents started; active = active; next = next } in
    changed s p words words contents contents started started jobs next next at us job job' there (omega arith) me block f
    (subst (λ active. InFlight (behind active)) (sym same) f.flies)
    (subst (λ active. AreSound (behind active)) (sym same) f.sound)
    (λ none. subst (λ (m : Private). IsIdleSound w next m.places) (sym me) (f.idle at job there (sym (ap active_in doing) ∙ none))) right

-- and what it is asked stays: it passed silent statements, or was told to wait
pub flies_waiting : (s : Setting) (p : Progress) (words : List ℕ) (contents : Contents) (started : List (List ℕ)) (jobs : List JobView)
    (next at : ℕ) (job job' : JobView)
    → slice_get jobs at ≡ Some job → job'.doing ≡ job.doing → job'.me ≡ job.me → job'.block ≡ job.block
    → asked_at s job' ≡ asked_at s job
    → Flying s p (airfield words contents started jobs next) → Flying s p (airfield words contents started (slice_set jobs at job') next)
flies_waiting s p words contents started jobs next at job job' there doing me block still f =
    let w = p.state.world in
    let was : (u : TxView) → active_of job' ≡ Some u → active_of job ≡ Some u = λ u e. sym (ap active_in doing) ∙ e in
    flies_still s p words contents started jobs next at job job' there doing me block f
    (record {
      was_asked = λ u e. subst (λ a. IsUnnoted u.phase a (f.unnoted at)) (sym still) (f.was_asked at job u there (was u e));
      holds = λ u e. subst (λ (m : Private). HoldsFor (ran_at w m u) (asked_at s job') u.phase u.held) (sym me)
          (subst (λ a. HoldsFor (ran_at w job.me u) a u.phase u.held) (sym still) (f.holds at job u there (was u e)));
    })

-- its next transaction begins
pub begins_next : (s : Setting) (p : Progress) (words : List ℕ) (contents : Contents) (started : List (List ℕ)) (jobs : List JobView) (next at : ℕ)
    (job : JobView) (place : Position)
    (rank began : ℕ) → slice_get jobs at ≡ Some job → active_of job ≡ None → job.me ≡ beginning job.me.places
    → Flying s p (airfield words contents started jobs next)
    → Flying s p
    (airfield words contents started (slice_set jobs at (record (answered_with job place (new_tx next rank began job.me)) { busy = 0 })) (next + 1))
begins_next s p words contents started jobs next at job place rank began there none fresh f =
    let w = p.state.world in
    let tx : TxView = new_tx next rank began job.me in
    let job' : JobView = record (answered_with job place tx) { busy = 0 } in
    let st = flight_in w (world_in w words contents started) f.unnoted jobs next in
    let lt : at < length st.active = (let a = slice_get_within jobs at job there in omega (arith, a, flown-count f.unnoted jobs)) in
    let put : flown_jobs (put_in f.unnoted at []) (slice_set jobs at job') ≡ slice_set (flown_jobs f.unnoted jobs) at (Some (flown job.me [] tx)) =
    flown-put f.unnoted jobs at [] job' in
    let behind : (active : List (Option Tx)) → FlightState =
    λ (active : List (Option Tx)). record { state = w; now = world_in w words contents started; active = active; next = next + 1 } in
    let flies = begin_keeps st at job.me f.flies lt
    (flown-at f.unnoted jobs at job there ∙ none_flown job.me (f.unnoted at) job.doing none) in
    let sound : AreSound (begun st at (starting next job.me)) = subst (λ m. AreSound (begun st at (starting next m))) (sym fresh)
    (begin_sound st at job.me.places f.sound lt (f.idle at job there none)) in
    changed s p words words contents contents started started jobs next (next + 1) at [] job job' there (omega arith) refl refl f
    (subst (λ active. InFlight (behind active)) (sym put) flies)
    (subst (λ active. AreSound (behind active)) (sym put) sound)
    (λ none. cc none) (right_active s p [] job' tx refl tt refl)
