-- The late calls of a transaction are ready: their objects are there. A run with its late calls keeps all sound.
use Rattle.std.proofs.Common.{◌≡◌, ◌≢◌, ℕ, List, [], ◌∷◌, ◌++◌, length, take, ap, sym, ◌∙◌, subst, refl}
use Rattle.std.specs.Prelude.{All, IsTrue, is_some}
use Rattle.std.proofs.lemmas.List.Elements.{All-head, All-tail, All-weaker, All-nil, All-append, All-contains, All-take}
use Rattle.xc_data.specs.declared.object.Object.{Object}
use Rattle.xc_data.specs.declared.object.Object.TheVariants as object
use Rattle.xc_data.specs.declared.call.CallWithAnswer.{CallWithAnswer}
use Rattle.xc_data.specs.declared.call.LateCall.{LateCall}
use Rattle.xc_data.specs.declared.call.LateCall.TheVariants.{Sync, WritePipe, Shutdown, Send}
use Rattle.xc_data.specs.declared.call.LateEnd.{LateEnd}
use Rattle.xc_data.specs.declared.call.LateAnswer.{LateAnswer}
use Rattle.xc_data.specs.declared.private.Private.{Private}
use Rattle.xc_world.specs.World.{World}
use Rattle.xc_world.specs.Act.{act}
use Rattle.xc_world.specs.Late.{late, kept_call}
use Rattle.xc_world.specs.Run.{BodyResult, step, opens, body, body_fits, lates, run, late_asked_of}
use Rattle.xc_world.specs.Sound.{IsFit, IsSound, IsReady, is_there, names_there}
use Rattle.xc_world.specs.Laws.{AgreeAt, late_objects}
use Rattle.xc_world.specs.Own.{LooksWithin}
use Rattle.xc_world.proofs.Laws.{agreed, act_sound, late_fit, late_sound, act_keeps_ready, act_leaves_ready, late_keeps_ready, back_sound, body-sound}
use Rattle.xc_world.proofs.Laws.{body-others_sound, Fits, fit_all, runs_keep}
use Rattle.xc_flight.specs.Active.{Tx, Committing, Has, Own}
use Rattle.xc_flight.specs.Flight.{asked, ran, late_done, late_result, left, Inside}
use Rattle.xc_flight.specs.State.{FlightState, IsActive, InFlight}
use Rattle.xc_flight.proofs.Frames.{ran_whole, late_answered, late_within}
use Rattle.xc_flight.proofs.Ending.{one_of, ran_late, left_there}

-- ---- of a body
-- it is sound, and its late calls are ready
record Readies (tx : ℕ) (r : BodyResult) : Type 0 where
  sound : IsSound r.world r.me tx
  ready : All (IsReady r.world) r.late

step_readies : (tx : ℕ) (r : BodyResult) (c : CallWithAnswer) → Fits tx r c → Readies tx r → Readies tx (step tx r c)
step_readies tx r c fit so =
    let s = act r.world r.me tx c.call c.answer in
    record {
      sound = act_sound r.world r.me tx c.call c.answer fit so.sound;
      ready = All-append (IsReady s.world) r.late (kept_call c.call r.me s.reply)
          (All-weaker (IsReady r.world) (IsReady s.world) (λ d. act_keeps_ready r.world r.me tx c.call c.answer d fit so.sound) r.late so.ready)
          (act_leaves_ready r.world r.me tx c.call c.answer fit so.sound);
    }

-- those that it leaves are ready at its end
leaves_ready : (w : World) (me : Private) (tx : ℕ) (asked : List CallWithAnswer) → IsSound w me tx → IsTrue (body_fits w me tx asked)
    → All (IsReady (body w me tx asked).world) (body w me tx asked).late
leaves_ready w me tx asked sound fit =
    (runs_keep tx (Fits tx) (Readies tx) (record {
      plain = step_readies tx;
      back = λ s calls fits was is. record { sound = back_sound tx s calls fits was.sound is.sound; ready = was.ready };
    }) (opens w me) asked (fit_all tx (opens w me) asked fit)
    (record { now = record { sound = sound; ready = All-nil (IsReady w) }; saved = tt })).now.ready

-- ---- several, one after another
abbrev AllReady : World → List (LateCall × LateAnswer) → Type 0
AllReady w calls = All (λ x. IsReady w x.0) calls

-- the first one leaves the others ready
others_ready : (w : World) (c : LateCall) (a : LateAnswer) (rest : List (LateCall × LateAnswer)) → IsFit w → AllReady w ((c, a) ∷ rest)
    → AllReady (late w c a).world rest
others_ready w c a rest fit ready =
    let P : LateCall × LateAnswer → Type 0 = λ x. IsReady w x.0 in
    let Q : LateCall × LateAnswer → Type 0 = λ x. IsReady (late w c a).world x.0 in
    let here : IsReady w c = All-head P (c, a) rest ready in
    All-weaker P Q (λ x. late_keeps_ready w c a x.0 here.short fit) rest (All-tail P (c, a) rest ready)

-- they keep all sound
lates_sound : (w : World) (you : Private) (ty : ℕ) (calls : List (LateCall × LateAnswer)) → AllReady w calls → IsSound w you ty
    → IsSound (lates w calls).world you ty
lates_sound w you ty [] ready sound = sound
lates_sound w you ty ((c, a) ∷ rest) ready sound =
    let here : IsReady w c = All-head (λ (x : LateCall × LateAnswer). IsReady w x.0) (c, a) rest ready in
    lates_sound (late w c a).world you ty rest (others_ready w c a rest sound.world ready) (late_sound w you ty c a here.short here.there sound)

-- and another one ready
lates_keep_ready : (w : World) (calls : List (LateCall × LateAnswer)) (d : LateCall) → AllReady w calls → IsFit w → IsReady w d
    → IsReady (lates w calls).world d
lates_keep_ready w [] d ready fit one = one
lates_keep_ready w ((c, a) ∷ rest) d ready fit one =
    let here : IsReady w c = All-head (λ (x : LateCall × LateAnswer). IsReady w x.0) (c, a) rest ready in
    lates_keep_ready (late w c a).world rest d (others_ready w c a rest fit ready) (late_fit w c a here.short fit)
    (late_keeps_ready w c a d here.short fit one)

-- a run with its late calls keeps all sound
pub run_sound : (w : World) (me you : Private) (tx ty : ℕ) (asked : List CallWithAnswer) (ends : List LateEnd) → IsSound w me tx
    → IsTrue (body_fits w me tx asked)
    → IsSound (body w me tx asked).world you ty
    → IsSound (run w me tx asked ends).late.world you ty
run_sound w me you tx ty asked ends sound fit other =
    let r = body w me tx asked in
    lates_sound r.world you ty (late_asked_of r.late ends) (late_answered (IsReady r.world) r.late ends
    (leaves_ready w me tx asked sound fit)) other

-- ---- of a transaction
module _ (w : World) (t : Tx) (i : Inside w t) (sound : IsSound w t.began t.number) where
  -- those that its body left are ready
  ran_ready : All (IsReady (ran w t).world) (ran w t).late
  ran_ready =
      subst (λ (r : BodyResult). All (IsReady r.world) r.late) (ran_whole w t)
      (leaves_ready w t.began t.number (asked t) sound i.fits)

  done_ready : AllReady (ran w t).world (late_done w t)
  done_ready =
      let r = ran w t in
      late_answered (IsReady r.world) (take (length t.late_ends) r.late) t.late_ends
      (All-take (IsReady r.world) (length t.late_ends) r.late ran_ready)

  -- what it did with its late calls so far keeps every other one sound
  pub done_sound : (you : Private) (ty : ℕ) → ty ≢ t.number → IsSound w you ty → IsSound (late_result w t).world you ty
  done_sound you ty ne other =
      lates_sound (ran w t).world you ty (late_done w t) done_ready
      (subst (λ (r : BodyResult). IsSound r.world you ty) (ran_whole w t)
      (body-others_sound w t.began you t.number ty (asked t) sound i.fits other ne))

  -- and leaves the others ready
  still_ready : (front : List LateCall) (c : LateCall) (rest : List LateCall) → (ran w t).late ≡ front ++ c ∷ rest → IsReady (late_result w t).world c
  still_ready front c rest split =
      let r = ran w t in
      let end = subst (λ (q : BodyResult). IsFit q.world) (ran_whole w t) (body-sound w t.began t.number (asked t) sound i.fits).world in
      lates_keep_ready r.world (late_done w t) c done_ready end (one_of (IsReady r.world) front c rest (subst (All (IsReady r.world)) split ran_ready))

-- ---- what is there in one world is there in another that agrees with it
object_alike : (w v : World) (o : Object) → AgreeAt w v o → is_there w o ≡ is_there v o
object_alike w v (object.File num) agree = ap is_some agree
object_alike w v (object.Pipe num) agree = ap is_some agree
object_alike w v (object.Pair num) agree = ap is_some agree
object_alike w v _ agree = refl

names_alike : (w v : World) (c : LateCall) → All (AgreeAt w v) (late_objects c) → names_there w c ≡ names_there v c
names_alike w v (Sync num) agree = object_alike w v (object.File num) (All-head (AgreeAt w v) (object.File num) [] agree)
names_alike w v (WritePipe num bytes) agree = object_alike w v (object.Pipe num) (All-head (AgreeAt w v) (object.Pipe num) [] agree)
names_alike w v (Shutdown o) agree = object_alike w v o (All-head (AgreeAt w v) o [] agree)
names_alike w v (Send num side bytes) agree = object_alike w v (object.Pair num) (All-head (AgreeAt w v) (object.Pair num) [] agree)
names_alike w v _ agree = refl

-- ---- the next one of a committing transaction is ready in the station's world
pub next_ready : (s : FlightState) (job : ℕ) (t : Tx) (c : LateCall) (front rest : List LateCall) → InFlight s → IsActive s job t → t.phase ≡ Committing
    → IsSound s.state t.began t.number → t.late ≡ front ++ c ∷ rest → IsReady s.now c
next_ready s job t c front rest h active phase sound split =
    let w = s.state in
    let i = (h.flights job t active).inside in
    let its = ran_late w t i phase ∙ split in
    let there = left_there s job t h active phase in
    let speaks : LooksWithin (Has t) (Own t) c =
    one_of (LooksWithin (Has t) (Own t)) front c rest (subst (All (LooksWithin (Has t) (Own t))) its (late_within w t i.covers)) in
    let agree = agreed (Has t) (left w t Committing) s.now (late_objects c) there (λ o at. All-contains (Has t) (late_objects c) o speaks.looks at) in
    let ready = still_ready w t i sound front c rest its in
    record { short = ready.short; there = sym (names_alike (left w t Committing) s.now c agree) ∙ ready.there }
