-- A committed transaction that does its next late call keeps all flights.
use Rattle.std.proofs.Common.{◌≡◌, ℕ, ◌≤◌, List, [], ◌∷◌, ◌++◌, length, take, refl, ap, subst, Some}
use Rattle.std.specs.Prelude.{IsTrue, slice_get, slice_set}
use Rattle.std.proofs.lemmas.List.{length-take-le}
use Rattle.xc_data.specs.declared.call.LateCall.{LateCall}
use Rattle.xc_data.specs.declared.call.LateCall.TheVariants.{WritePipe}
use Rattle.xc_data.specs.declared.call.LateAnswer.{LateAnswer}
use Rattle.xc_data.specs.declared.call.LateAnswer.TheVariants as late_answer
use Rattle.xc_data.specs.declared.call.LateEnd.{LateEnd}
use Rattle.xc_host.specs.Contents.{Contents, world_of}
use Rattle.xc_world.specs.World.{World}
use Rattle.xc_world.specs.Fits.{late_fits, late_answer_of}
use Rattle.xc_world.specs.Late.{Ended, late, ends}
use Rattle.xc_model.specs.declared.phase.Phase.TheVariants.{Committing}
use Rattle.xc_model.specs.Setting.{Setting}
use Rattle.xc_model.specs.Progress.{Progress}
use Rattle.xc_model.specs.Moment.{TxView, JobView, Active, active_in, late_left}
use Rattle.xc_deferred.specs.Does.{EndsAsPlain}
use Rattle.xc_model.specs.Movers.{with_tx}
use Rattle.xc_flight.specs.Active.{Tx}
use Rattle.xc_flight.specs.State.{FlightState, InFlight, IsActive, turned}
use Rattle.xc_flight.specs.Turns.{IsDoneLate, with_end}
use Rattle.xc_flight.proofs.Laws.{does_late}
use Rattle.xc_refines.specs.InFlight.{flown, flown_phase}
use Rattle.xc_refines.proofs.FlownLists.{flown_there}
use Rattle.xc_refines.proofs.NextLate.{late_split}
use Rattle.xc_refines.proofs.TurnParts.{Flying, world_in, flight_in, flies_on, airfield}

-- an answer fits a late call by what the host has alone
late_fits_in : (w : World) (words : List ℕ) (contents : Contents) (started : List (List ℕ)) (c : LateCall) (a : LateAnswer)
    → late_fits (world_of contents) c a ≡ late_fits (world_in w words contents started) c a
late_fits_in w words contents started c late_answer.Fine = refl
late_fits_in w words contents started (WritePipe num bytes) (late_answer.Fault n) = refl
late_fits_in w words contents started (WritePipe num bytes) (late_answer.NoMemory n) = refl
late_fits_in w words contents started c a = refl

module _ (s : Setting) (p : Progress) (words : List ℕ) (was is : Contents) (started started' : List (List ℕ)) (jobs : List JobView) (next at : ℕ)
    (job : JobView) (tx : TxView)
    (there : slice_get jobs at ≡ Some job) (doing : job.doing ≡ Active tx) (commits : tx.phase ≡ Committing)
    (f : Flying s p (airfield words was started jobs next))
    (call : LateCall) (end : LateEnd) (fits : IsTrue (late_fits (world_in p.state.world words was started) call (late_answer_of end)))
    (ends_so : late (world_in p.state.world words was started) call (late_answer_of end) ≡ ends (world_in p.state.world words is started') end) where
  abbrev flight_now : FlightState
  flight_now = flight_in p.state.world (world_in p.state.world words was started) f.unnoted jobs next

  abbrev tx_flown : Tx
  tx_flown = flown job.me (f.unnoted at) tx

  abbrev after : TxView
  after = record tx { ends = tx.ends ++ end ∷ [] }

  active : IsActive flight_now at tx_flown
  active = flown_there f.unnoted jobs at job tx there doing

  -- it is the next one of those that have no end
  done_so : (calls : List LateCall) → late_left tx ≡ call ∷ calls → length tx.ends ≤ length tx.late
      → IsDoneLate flight_now.now tx_flown call (late_answer_of end)
  done_so calls left few =
      record {
        front = take (length tx.ends) tx.late;
        rest = calls;
        split = late_split tx call calls left;
        done = length-take-le (length tx.ends) tx.late few;
        fit = fits;
        told = ap (λ (e : Ended). late_answer_of e.end) ends_so;
      }

  -- it keeps all
  pub late_lands : (calls : List LateCall) → late_left tx ≡ call ∷ calls → length tx.ends ≤ length tx.late
      → Flying s p (airfield words is started' (slice_set jobs at (with_tx job job.place after)) next)
  late_lands calls left few =
      let behind : InFlight (turned flight_now at (Some (flown job.me (f.unnoted at) after)) (world_in p.state.world words is started')) =
      subst (λ (e : Ended). InFlight (turned flight_now at (Some (with_end tx_flown e.end)) e.world)) ends_so
      (does_late flight_now at tx_flown call (late_answer_of end) f.flies active (ap flown_phase commits) (done_so calls left few)) in
      flies_on s p words words was is started started' jobs next at (f.unnoted at) job job.place tx after there doing refl f behind
      (f.was_asked at job tx there (ap active_in doing)) (f.holds at job tx there (ap active_in doing))

-- one that is done at the host
pub host_late : (w : World) (words : List ℕ) (was is : Contents) (started : List (List ℕ)) (call : LateCall) (end : LateEnd) → EndsAsPlain was is call end
    → IsTrue (late_fits (world_in w words was started) call (late_answer_of end))
    × (late (world_in w words was started) call (late_answer_of end) ≡ ends (world_in w words is started) end)
host_late w words was is started call end does =
    (subst IsTrue (late_fits_in w words was started call (late_answer_of end)) does.fits, does.step (record w { words = words; started = started }))
