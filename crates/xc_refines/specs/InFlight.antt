-- What is true of a station between two turns over a host that tells: each active transaction flies over the plain
-- machine's world, where the journal left it.
use Rattle.xc_world.specs.Fits.{is_back}
use Rattle.std.specs.Prelude.{◌≡◌, false, ℕ, suc, ◌+◌, ◌++◌, List, [], ◌∷◌, map, slice_get, Option}
use Rattle.std.specs.declared.option.Option.TheVariants.{None, Some}
use Rattle.xc_data.specs.declared.call.CallWithAnswer.{CallWithAnswer}
use Rattle.xc_data.specs.declared.entry.Cause.TheVariants as cause
use Rattle.xc_data.specs.declared.private.Private.{Private}
use Rattle.xc_host.specs.Contents.{with_contents}
use Rattle.xc_script.specs.declared.ask.Ask.{Ask}
use Rattle.xc_script.specs.declared.ask.Ask.TheVariants as ask
use Rattle.xc_data.specs.declared.undo.Undo.{Undo}
use Rattle.xc_data.specs.declared.undo.Undo.TheVariants.{NewPipe, NewPair}
use Rattle.xc_world.specs.World.{World, State, pipe_of, pair_of}
use Rattle.xc_world.specs.Run.{BodyResult, asked_of, body}
use Rattle.xc_model.specs.declared.phase.Phase.{Phase as TurnPhase}
use Rattle.xc_model.specs.declared.phase.Phase.TheVariants as phase
use Rattle.xc_model.specs.Setting.{Setting}
use Rattle.xc_model.specs.Progress.{progress_of}
use Rattle.xc_model.specs.Played.{HoldsFor}
use Rattle.xc_model.specs.Moment.{TxView, SavedView, JobView, Doing, Active, Moment, active_of, begun_count}
use Rattle.xc_model.specs.Movers.{asked_at}
use Rattle.xc_flight.specs.Active.{Tx, Saved, Phase, Running, Committing, Undoing}
use Rattle.xc_flight.specs.State.{FlightState, InFlight, AreSound, IsIdleSound}

-- ---- a station's jobs as transactions in flight
-- the phase, without its cause
abbrev pub flown_phase : TurnPhase → Phase
flown_phase phase.Running = Running
flown_phase phase.Committing = Committing
flown_phase (phase.Undoing c) = Undoing
-- a block goes back as a transaction does
flown_phase phase.Backing = Undoing

-- what an active transaction did that isn't noted: nothing, or where it undoes for lack of memory the call that was asked
abbrev pub IsUnnoted : TurnPhase → Ask → List CallWithAnswer → Type 0
IsUnnoted p next [] = Unit {0}
IsUnnoted (phase.Undoing cause.NoMemory) (ask.Call call) (asked ∷ []) = (asked.call ≡ call) × (is_back asked.call ≡ false)
IsUnnoted p next unnoted = ⊥

-- what an open block's save kept
abbrev pub flown_saved : Option SavedView → Option Saved
flown_saved None = None
flown_saved (Some kept) =
    Some (record { places = kept.places; writes = kept.writes; late = kept.late; trail = kept.trail; taken = kept.taken })

-- an active transaction whose job's private state at the start was this, with what isn't noted
abbrev pub flown : Private → List CallWithAnswer → TxView → Tx
flown began unnoted tx =
    record {
      number = tx.number;
      phase = flown_phase tx.phase;
      began = began;
      me = tx.me;
      calls = tx.calls;
      replies = tx.replies;
      unnoted = unnoted;
      held = tx.held;
      writes = tx.writes;
      pending = tx.undo.pending;
      ended = tx.undo.ended;
      taken = tx.taken;
      late = tx.late;
      late_ends = tx.ends;
      saved = flown_saved tx.saved;
    }

-- a job's active transaction, where it has one
abbrev pub flown_in : Private → List CallWithAnswer → Doing → Option Tx
flown_in began unnoted (Active tx) = Some (flown began unnoted tx)
flown_in began unnoted _ = None

-- the same of each job; what isn't noted is by their places
abbrev pub flown_jobs : (ℕ → List CallWithAnswer) → List JobView → List (Option Tx)
flown_jobs unnoted [] = []
flown_jobs unnoted (job ∷ jobs) = flown_in job.me (unnoted 0) job.doing ∷ flown_jobs (λ at. unnoted (suc at)) jobs

-- the plain machine's state that the journal leads to
abbrev pub state_of : Setting → Moment → State
state_of s now = (progress_of s.script now.journal).state

-- the station's world: its words, what the host tells with the kept data in front, and all jobs that were started
abbrev pub world_now : Setting → Moment → World
world_now s now = record (with_contents (state_of s now).world now.contents) { words = now.words; started = now.started }

-- all together
abbrev pub flight_state : Setting → Moment → (ℕ → List CallWithAnswer) → FlightState
flight_state s now unnoted =
    record {
      state = (state_of s now).world;
      now = world_now s now;
      active = flown_jobs unnoted now.jobs;
      next = begun_count now + 1;
    }

-- ---- its body so far, in the world that the journal left
abbrev pub ran_at : World → Private → TxView → BodyResult
ran_at w began tx = body w began tx.number (asked_of tx.calls tx.replies)

-- ---- what a record made is empty
abbrev pub IsEmptyNew : World → Undo → Type 0
IsEmptyNew w (NewPipe num) = (pipe_of w num).held ≡ []
IsEmptyNew w (NewPair num) = ((pair_of w num).first ≡ []) × ((pair_of w num).second ≡ [])
-- no other record makes a pipe or a pair
IsEmptyNew w _ = Unit {0}

-- ---- between two turns: the jobs' transactions fly, and beside it what an entry and a begin need
pub record AreInFlight (s : Setting) (now : Moment) : Type 0 where
  -- what isn't noted, by the places of jobs: at most a call that was asked
  pub unnoted : ℕ → List CallWithAnswer
  pub was_asked : (at : ℕ) (job : JobView) (tx : TxView) → slice_get now.jobs at ≡ Some job → active_of job ≡ Some tx
      → IsUnnoted tx.phase (asked_at s job) (unnoted at)
  pub flies : InFlight (flight_state s now unnoted)
  -- the world is sound for each active transaction, and for the next one of each other job
  pub sound : AreSound (flight_state s now unnoted)
  pub idle : (at : ℕ) (job : JobView) → slice_get now.jobs at ≡ Some job → active_of job ≡ None
      → IsIdleSound (state_of s now).world (begun_count now + 1) job.me.places
  -- the handles and the blocks of the jobs are those that the journal leads to
  pub handles : (state_of s now).handles ≡ map (λ (job : JobView). job.me.places) now.jobs
  pub started : (state_of s now).world.started ≡ map (λ (job : JobView). job.block) now.jobs
  -- and the script's blocks stay
  pub blocks : (state_of s now).world.blocks ≡ s.script.outline.jobs ++ s.script.outline.bodies
  -- each active one holds what its calls claimed, in the order in which they did
  pub holds : (at : ℕ) (job : JobView) (tx : TxView) → slice_get now.jobs at ≡ Some job → active_of job ≡ Some tx
      → HoldsFor (ran_at (state_of s now).world job.me tx) (asked_at s job) tx.phase tx.held
