-- What a call of a running transaction has open and may claim is there.
use Rattle.std.proofs.Common.{◌≡◌, ℕ, inl, is_some, List, [], ◌∷◌, ◌++◌, Some, ap, sym, ◌∙◌, subst}
use Rattle.std.specs.Prelude.{All, Contains, slice_get}
use Rattle.std.proofs.lemmas.List.Elements.{All-nil, All-cons, All-head}
use Rattle.xc_data.specs.declared.call.Call.{Call}
use Rattle.xc_data.specs.declared.claim.Claim.{Claim}
use Rattle.xc_data.specs.declared.object.Object.{Object}
use Rattle.xc_data.specs.declared.object.Object.TheVariants as object
use Rattle.xc_data.specs.declared.private.Place.{Place}
use Rattle.xc_data.specs.declared.private.Place.TheVariants as place
use Rattle.xc_data.specs.declared.private.Private.{Private}
use Rattle.xc_data.specs.Private.{place_of}
use Rattle.xc_data.specs.Claims.{held_of, holding, objects}
use Rattle.xc_host.specs.Contents.{world_of}
use Rattle.xc_world.specs.World.{World}
use Rattle.xc_world.specs.Own.{AgreeOn}
use Rattle.xc_world.specs.Laws.{AgreeAt}
use Rattle.xc_world.specs.Run.{BodyResult, asked_of}
use Rattle.xc_world.specs.Sound.{IsKnown}
use Rattle.xc_world.specs.Touch.{object_at}
use Rattle.xc_world.proofs.Laws.{body-sound}
use Rattle.xc_model.specs.declared.phase.Phase.TheVariants.{Running}
use Rattle.xc_model.specs.Setting.{Setting}
use Rattle.xc_model.specs.Played.{HoldsFor}
use Rattle.xc_model.specs.Moment.{TxView, JobView, Moment, active_of}
use Rattle.xc_model.specs.Movers.{asked_at}
use Rattle.xc_model.specs.Rivals.{HasNoRival}
use Rattle.xc_model.specs.PlainSteps.{claims_at}
use Rattle.xc_flight.specs.Active.{Tx, Has, HoldTheSame}
use Rattle.xc_flight.specs.Active as flight
use Rattle.xc_flight.specs.Flight.{noted, ran}
use Rattle.xc_flight.specs.State.{FlightState, InFlight, IsActive, turned}
use Rattle.xc_flight.specs.Turns.{claiming, world_seen}
use Rattle.xc_flight.proofs.Laws.{all_noted, sees, back_held, claims_keep, covers_through, merged_held, call_granted}
use Rattle.xc_refines.specs.InFlight.{flown, flown_phase, ran_at, flight_state, state_of, world_now, AreInFlight}
use Rattle.xc_refines.proofs.FlownJobs.{flies_there, flight_there, sound_there, fits_there}
use Rattle.xc_data.proofs.Laws.{put_at}
use Rattle.xc_refines.proofs.TurnRivals.{no_rivals}

-- what is known in one world is known in the host's contents of another that agrees with it there
known_there : (w : World) (s : Setting) (now : Moment) (p : Place) → All (AgreeAt w (world_now s now)) (object_at p) → IsKnown w p
    → IsKnown (world_of now.contents) p
known_there w s now place.Vacant agree known = tt
known_there w s now (place.File num at) agree known = ap is_some (sym (All-head (AgreeAt w (world_now s now)) (object.File num) [] agree)) ∙ known
known_there w s now (place.Pipe num) agree known = ap is_some (sym (All-head (AgreeAt w (world_now s now)) (object.Pipe num) [] agree)) ∙ known
known_there w s now (place.Pair num side) agree known =
    (ap is_some (sym (All-head (AgreeAt w (world_now s now)) (object.Pair num) [] agree)) ∙ known.0, known.1)

one_of : (P : Object → Type 0) (o : Object) → P o → All P (o ∷ [])
one_of P o p = All-cons P o [] p (All-nil P)

module _ (s : Setting) (now : Moment) (all : AreInFlight s now) (at : ℕ) (job : JobView) (tx : TxView) (c : Call) (there : slice_get now.jobs at ≡ Some job)
    (active : active_of job ≡ Some tx) (runs : tx.phase ≡ Running) (alone : All (HasNoRival now.jobs at) (claims_at now tx c)) where
  abbrev st : FlightState
  st = flight_state s now all.unnoted

  abbrev t : Tx
  t = flown job.me (all.unnoted at) tx

  abbrev w : World
  w = (state_of s now).world

  abbrev claims : List Claim
  claims = claims_at now tx c

  abbrev all_held : List Claim
  all_held = holding tx.held claims

  abbrev claimant : Tx
  claimant = claiming t all_held

  running : t.phase ≡ flight.Running
  running = ap flown_phase runs

  flies : IsActive st at t
  flies = flies_there s now all at job tx there active

  held : tx.held ≡ held_of (ran_at w job.me tx).touched
  held = subst (λ ph. HoldsFor (ran_at w job.me tx) (asked_at s job) ph tx.held) runs
      (all.holds at job tx there active)

  same : HoldTheSame all_held (tx.held ++ claims)
  same = subst (λ l. HoldTheSame (holding l claims) (l ++ claims)) (sym held) (merged_held (ran_at w job.me tx).touched claims)

  claims_first : InFlight (turned st at (Some claimant) st.now)
  claims_first =
      claims_keep st at t claims all_held all.flies flies
      (call_granted st at t c _ all.flies flies running (sound_there s now all at job tx there active)
      (no_rivals w st.now all.unnoted now.jobs st.next at claims alone)) same running

  agrees : AgreeOn (Has claimant) (ran w claimant).world (world_seen st.now claimant)
  agrees = sees (turned st at (Some claimant) st.now) at claimant claims_first (put_at st.active at t claimant flies) running

  -- its object is there
  pub claimed_there : (h : ℕ) → All (Contains (objects claims)) (object_at (place_of tx.me.places h))
      → IsKnown (world_of now.contents) (place_of tx.me.places h)
  claimed_there h touched =
      let covers = covers_through all_held (tx.held ++ claims) claims same.left (back_held tx.held claims) in
      let me = (flight_there s now all at job tx there active).inside.me in
      let after = body-sound w job.me tx.number (asked_of tx.calls tx.replies) (sound_there s now all at job tx there active)
      (fits_there s now all at job tx there active) in
      let whole : ran w t ≡ noted w t = all_noted st at t all.flies flies running in
      let known : IsKnown (ran w t).world (place_of tx.me.places h) =
      subst (λ (r : BodyResult). IsKnown r.world (place_of tx.me.places h)) (sym whole)
      (subst (λ (m : Private). IsKnown (noted w t).world (place_of m.places h)) me (after.handles h)) in
      known_there (ran w t).world s now (place_of tx.me.places h)
      (objects_agree (place_of tx.me.places h) (λ o at. agrees o (inl (covers.objects o at))) touched) known
    where
      objects_agree : (p : Place) → ((o : Object) → Contains (objects claims) o → AgreeAt (ran w t).world (world_seen st.now claimant) o)
          → All (Contains (objects claims)) (object_at p) → All (AgreeAt (ran w t).world (world_now s now)) (object_at p)
      objects_agree place.Vacant go touched = All-nil (AgreeAt (ran w t).world (world_now s now))
      objects_agree (place.File num at) go touched = one_of (AgreeAt (ran w t).world (world_now s now)) (object.File num)
          (go (object.File num) (All-head (Contains (objects claims)) (object.File num) [] touched))
      objects_agree (place.Pipe num) go touched = one_of (AgreeAt (ran w t).world (world_now s now)) (object.Pipe num)
          (go (object.Pipe num) (All-head (Contains (objects claims)) (object.Pipe num) [] touched))
      objects_agree (place.Pair num side) go touched = one_of (AgreeAt (ran w t).world (world_now s now)) (object.Pair num)
          (go (object.Pair num) (All-head (Contains (objects claims)) (object.Pair num) [] touched))
