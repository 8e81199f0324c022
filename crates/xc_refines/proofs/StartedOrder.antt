-- The started jobs are those that are live or have ended, and after them those that the holder of the jobs has started.
use Rattle.std.proofs.Common.{◌≡◌, ℕ, inl, inr, List, [], ◌∷◌, ◌++◌, length, take, map, Option, Some, None, refl, ap, sym, ◌∙◌, subst, append-nil}
use Rattle.std.specs.Prelude.{Contains, slice_get}
use Rattle.xc_data.specs.declared.call.LateCall.{LateCall}
use Rattle.xc_data.specs.declared.call.LateEnd.{LateEnd}
use Rattle.xc_data.specs.declared.object.Object.TheVariants as object
use Rattle.xc_data.specs.Claims.{owned}
use Rattle.xc_world.specs.World.{World}
use Rattle.xc_world.specs.Laws.{AgreeAt}
use Rattle.xc_model.specs.Setting.{Setting}
use Rattle.xc_model.specs.LateCalls.{started_late, started_with}
use Rattle.xc_data.specs.Calls.{thread_in}
use Rattle.xc_model.specs.Moment.{TxView, JobView, Moment, active_of}
use Rattle.xc_model.specs.Movers.{IsActiveAt}
use Rattle.xc_flight.specs.Active.{Tx, Phase, Running, Committing, Undoing}
use Rattle.xc_flight.specs.Flight.{IsPhase, effects, left, ran, returned}
use Rattle.xc_flight.specs.State.{OwnSome, active_at}
use Rattle.xc_flight.proofs.Laws.{ran_late}
use Rattle.xc_refines.specs.InFlight.{flown, flight_state, state_of, world_now, AreInFlight}
use Rattle.xc_refines.proofs.FlownJobs.{flight_there, sound_there}
use Rattle.xc_refines.proofs.FlownLists.{flown_back}
use Rattle.xc_refines.proofs.StartedWorld.{body_started, ended_start, given_started, remains_base}

none_started : (late : List LateCall) → started_late late [] ≡ []
none_started [] = refl
none_started (c ∷ late) = refl

-- the calls that have an end tell all
first_started : (late : List LateCall) (ends : List LateEnd) → started_late (take (length ends) late) ends ≡ started_late late ends
first_started [] [] = refl
first_started [] (e ∷ ends) = refl
first_started (c ∷ late) [] = refl
first_started (c ∷ late) (e ∷ ends) = ap (λ bs. started_with (thread_in c) e ++ bs) (first_started late ends)

module _ (s : Setting) (now : Moment) (all : AreInFlight s now) (at : ℕ) (job : JobView) (tx : TxView) (there : slice_get now.jobs at ≡ Some job)
    (active : active_of job ≡ Some tx) where
  abbrev t : Tx
  t = flown job.me (all.unnoted at) tx

  abbrev w : World
  w = (state_of s now).world

  body : (ran w t).world.started ≡ w.started
  body = body_started w t (flight_there s now all at job tx there active).inside (sound_there s now all at job tx there active)

  no_ends : tx.ends ≡ [] → w.started ≡ w.started ++ started_late tx.late tx.ends
  no_ends none = sym (append-nil w.started) ∙ ap (λ bs. w.started ++ bs) (sym (ap (started_late tx.late) none ∙ none_started tx.late))

  by_phase : (p : Phase) → t.phase ≡ p → IsPhase w t p → AgreeAt (returned (world_now s now) t p) (left w t p) object.Jobs
      → now.started ≡ w.started ++ started_late tx.late tx.ends
  by_phase Running is i agree = agree ∙ body ∙ no_ends i.no_late_ends
  by_phase Committing is i agree =
      let calls = take (length tx.ends) (ran w t).late in
      let late : (ran w t).late ≡ tx.late = ran_late w t (flight_there s now all at job tx there active).inside is in
      agree ∙ ended_start (ran w t).world calls tx.ends i.ends ∙ (λ k. body k ++ started_late (take (length tx.ends) (late k)) tx.ends)
      ∙ ap (λ bs. w.started ++ bs) (first_started tx.late tx.ends)
  by_phase Undoing is none agree =
      sym (given_started (world_now s now) tx.taken) ∙ agree ∙ (remains_base w (effects t)).1 ∙ no_ends none

  -- by the one that holds the jobs
  pub holder_started : Contains (owned tx.held) object.Jobs → now.started ≡ map (λ (x : JobView). x.block) now.jobs ++ started_late tx.late tx.ends
  holder_started holds =
      let f = flight_there s now all at job tx there active in
      by_phase t.phase refl f.inside.phase (f.owns object.Jobs (inl holds)) ∙ ap (λ bs. bs ++ started_late tx.late tx.ends) all.started

-- where nobody holds them there are no others
pub nobody_started : (s : Setting) (now : Moment) (all : AreInFlight s now)
    → ((at : ℕ) (tx : TxView) → IsActiveAt now.jobs at tx → Contains (owned tx.held) object.Jobs → ⊥) → now.started ≡ map (λ (x : JobView). x.block) now.jobs
nobody_started s now all nobody = all.flies.free object.Jobs (λ at own. lacks at (active_at (flight_state s now all.unnoted) at) refl own) ∙ all.started
  where
    lacks : (at : ℕ) (o : Option Tx) → active_at (flight_state s now all.unnoted) at ≡ o → OwnSome o object.Jobs → ⊥
    lacks at None e own = own
    lacks at (Some u) e (inl holds) =
        let f = flown_back all.unnoted now.jobs at u e in
        nobody at f.tx (f.job, f.there, f.active) (subst (λ (x : Tx). Contains (owned x.held) object.Jobs) f.same holds)
    lacks at (Some u) e (inr numbered) = numbered
