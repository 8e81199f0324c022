-- A job's active transaction in the flights of all.
use Rattle.std.proofs.Common.{◌≡◌, ℕ, true, ◌++◌, Some, map, subst}
use Rattle.std.specs.Prelude.{slice_get, IsTrue}
use Rattle.std.proofs.lemmas.Bool.{and_parts}
use Rattle.xc_world.specs.Run.{asked_of, body_state, opens, fits_on, body_fits}
use Rattle.xc_world.specs.Effects.{AreMadeIn}
use Rattle.xc_world.proofs.Laws.{fits_on_append}
use Rattle.xc_model.specs.Setting.{Setting}
use Rattle.xc_model.specs.Moment.{TxView, JobView, Moment, active_of}
use Rattle.xc_flight.specs.State.{IsActive, IsSoundFor}
use Rattle.xc_flight.specs.Flight.{stood, Flight}
use Rattle.xc_flight.proofs.Laws.{records_made}
use Rattle.xc_refines.specs.InFlight.{flown, state_of, flight_state, AreInFlight}
use Rattle.xc_refines.proofs.FlownLists.{flown_there, active_does}

-- ---- the active transaction of a job
module _ (s : Setting) (now : Moment) (all : AreInFlight s now) (at : ℕ) (job : JobView) (tx : TxView) (there : slice_get now.jobs at ≡ Some job)
    (active : active_of job ≡ Some tx) where
  -- it flies in the job's place
  pub flies_there : IsActive (flight_state s now all.unnoted) at (flown job.me (all.unnoted at) tx)
  flies_there = flown_there all.unnoted now.jobs at job tx there (active_does job.doing tx active)

  -- its flight
  pub flight_there : Flight (state_of s now).world (flight_state s now all.unnoted).now (flown job.me (all.unnoted at) tx)
  flight_there = all.flies.flights at (flown job.me (all.unnoted at) tx) flies_there

  -- the journal's world is sound for its begin
  pub sound_there : IsSoundFor (state_of s now).world (flown job.me (all.unnoted at) tx)
  sound_there = all.sound at (flown job.me (all.unnoted at) tx) flies_there

  both_fit : (body_fits (state_of s now).world job.me tx.number (asked_of tx.calls tx.replies) ≡ true)
      × (fits_on tx.number (stood (state_of s now).world (flown job.me (all.unnoted at) tx)) (all.unnoted at) ≡ true)
  both_fit =
      let w = (state_of s now).world in
      let body_so = body_state w job.me tx.number (asked_of tx.calls tx.replies) in
      and_parts (body_fits w job.me tx.number (asked_of tx.calls tx.replies)) (fits_on tx.number body_so (all.unnoted at))
      (subst IsTrue (fits_on_append tx.number (opens w job.me) (asked_of tx.calls tx.replies) (all.unnoted at)) flight_there.inside.fits)

  -- the answers of its body fit
  pub fits_there : IsTrue (body_fits (state_of s now).world job.me tx.number (asked_of tx.calls tx.replies))
  fits_there = both_fit.0

  -- and that of the call that isn't noted, where the body ended
  pub rest_fits : IsTrue (fits_on tx.number (stood (state_of s now).world (flown job.me (all.unnoted at) tx)) (all.unnoted at))
  rest_fits = both_fit.1

  -- its records were made one after another
  pub records_made_there : AreMadeIn (state_of s now).world (tx.undo.pending ++ map (λ r. r.0) tx.undo.ended)
  records_made_there = records_made (flight_state s now all.unnoted) at (flown job.me (all.unnoted at) tx) all.flies flies_there sound_there
