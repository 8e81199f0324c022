-- The files that a running transaction has open are there, whoever holds them.
use Rattle.std.proofs.Common.{◌≡◌, ℕ, ◌+◌, ◌≤◌, ◌⊎◌, inl, inr, ⊎_elim, zero, suc, true, is_some, List, [], ◌∷◌, ◌++◌, Option, Some, None, length, map}
use Rattle.std.proofs.Common.{unwrap_or, ap, sym, ◌∙◌, subst, refl, arith}
use Rattle.std.specs.Prelude.{slice_get}
use Rattle.std.specs.FinMap as finite
use Rattle.std.proofs.lemmas.Bool.Decides.{leb_tells}
use Rattle.xc_data.specs.declared.entry.KeptItem.{KeptItem}
use Rattle.xc_data.specs.declared.entry.KeptItem.TheVariants.{Bytes, Message}
use Rattle.xc_data.specs.declared.object.Num.{Num}
use Rattle.xc_data.specs.declared.object.Object.TheVariants as object
use Rattle.xc_data.specs.declared.private.Place.{Place}
use Rattle.xc_data.specs.declared.private.Place.TheVariants as place
use Rattle.xc_data.specs.declared.private.Private.{Private}
use Rattle.xc_data.specs.declared.undo.Undo.{Undo}
use Rattle.xc_data.specs.declared.undo.UndoEnd.TheVariants.{Blocked}
use Rattle.xc_data.specs.Private.{place_of}
use Rattle.xc_file.specs.Checks.{IsOpenIn}
use Rattle.xc_host.specs.Contents.{Contents}
use Rattle.xc_world.specs.World.{World}
use Rattle.xc_world.specs.Sound.{IsFit, IsKnown, IsSound}
use Rattle.xc_world.specs.Run.{BodyResult, asked_of, given_back}
use Rattle.xc_world.specs.Ends.{Ending, remains, with_remains}
use Rattle.xc_world.specs.Effects.{whole, AreMadeIn}
use Rattle.xc_world.specs.Laws.{AgreeAt}
use Rattle.xc_world.proofs.Laws.{body-sound, body-others_sound, StaysFit, remains-fit}
use Rattle.xc_model.specs.declared.phase.Phase.TheVariants as turn
use Rattle.xc_model.specs.Setting.{Setting}
use Rattle.xc_model.specs.Moment.{TxView, JobView, Moment, active_of, begun_count}
use Rattle.xc_flight.specs.Active.{Tx, Phase, Running, Committing, Undoing, Has, Own}
use Rattle.xc_flight.specs.Flight.{asked, left, noted, returned, ran}
use Rattle.xc_flight.specs.State.{active_at, OwnSome, OwnAt}
use Rattle.xc_flight.proofs.Laws.{has_decide, owns_has, ran_keeps, ran_whole, all_noted, sees, done_sound}
use Rattle.xc_refines.specs.InFlight.{flown, flown_phase, state_of, flight_state, world_now, AreInFlight}
use Rattle.xc_refines.proofs.FlownJobs.{flies_there, flight_there, sound_there, fits_there, records_made_there}
use Rattle.xc_refines.proofs.FlownLists.{flown_back}

-- ---- a file that is there, within its limit
abbrev pub IsFileWithin : Option (List ℕ) → Type 0
IsFileWithin o = (is_some o ≡ true) × (length (unwrap_or o []) ≤ 65536)

none_within : IsFileWithin None → ⊥
none_within h = let lacks = h.0 in cc lacks

within_decide : (o : Option (List ℕ)) → IsFileWithin o ⊎ (IsFileWithin o → ⊥)
within_decide None = inr none_within
within_decide (Some bytes) = elim (leb_tells (length bytes) 65536) [
  | inl low ↦ inl (refl, low.1)
  | inr high ↦ inr (λ h. let more = high.1 in let less = h.1 in omega (arith, more, less))
]

-- a known place is open in contents that have each file of its world
open_there : (c : Contents) (w : World) (p : Place) → ((num : Num) → IsFileWithin (finite.get w.files num) → IsFileWithin (finite.get c.files num))
    → IsKnown w p → ((num : Num) → length (unwrap_or (finite.get w.files num) []) ≤ 65536) → IsOpenIn c p
open_there c w place.Vacant stays known files = tt
open_there c w (place.File num at) stays known files = stays num (known, files num)
open_there c w (place.Pipe num) stays known files = tt
open_there c w (place.Pair num side) stays known files = tt

-- what is given back changes no file
given_files : (w : World) (items : List KeptItem) (num : Num) → finite.get w.files num ≡ finite.get (given_back w items).files num
given_files w [] num = refl
given_files w (Bytes pipe bytes ∷ items) num = given_files w items num
given_files w (Message pair side bytes ∷ items) num = given_files w items num

-- ---- records that stand whole remain as if all of them were blocked
abbrev blocked : List Undo → List Ending
blocked us = map (λ (u : Undo). (u, Blocked 0)) us

remains_blocked : (us : List Undo) (es : List Ending) → remains (blocked us ++ es) ≡ whole us ++ remains es
remains_blocked [] es = refl
remains_blocked (u ∷ us) es = ap (λ l. (u, 0) ∷ l) (remains_blocked us es)

records_blocked : (us : List Undo) (es : List Ending) → map (λ (r : Ending). r.0) (blocked us ++ es) ≡ us ++ map (λ (r : Ending). r.0) es
records_blocked [] es = refl
records_blocked (u ∷ us) es = ap (λ l. u ∷ l) (records_blocked us es)

-- what stands of records that were made keeps a world fit
standing_fit : (w : World) (us : List Undo) (es : List Ending) → AreMadeIn w (us ++ map (λ (r : Ending). r.0) es) → IsFit w
    → StaysFit w (with_remains w (whole us ++ remains es))
standing_fit w us es made fit =
    subst (λ l. StaysFit w (with_remains w l)) (remains_blocked us es)
    (remains-fit w (blocked us ++ es) (subst (AreMadeIn w) (sym (records_blocked us es)) made) fit)

-- ---- the private state of a transaction that has one file open
abbrev looking : Num → Private
looking num = record { places = place.File num 0 ∷ []; made = 0; stored = 0 }

only_known : (w : World) (num : Num) (h : ℕ) → is_some (finite.get w.files num) ≡ true → IsKnown w (place_of (place.File num 0 ∷ []) h)
only_known w num zero there = there
only_known w num (suc h) there = tt

file_within : (w : World) (num : Num) (tx : ℕ) → IsSound w (looking num) tx → IsFileWithin (finite.get w.files num)
file_within w num tx sound = (sound.handles 0, sound.world.files num)

-- ---- what an active transaction left has each file that the journal's world has
module _ (s : Setting) (now : Moment) (all : AreInFlight s now) (at : ℕ) (job : JobView) (tx : TxView) (there : slice_get now.jobs at ≡ Some job)
    (active : active_of job ≡ Some tx) where
  abbrev state : World
  state = (state_of s now).world

  abbrev mine : Tx
  mine = flown job.me (all.unnoted at) tx

  look_sound : (num : Num) → IsFileWithin (finite.get state.files num) → IsSound state (looking num) (begun_count now + 1)
  look_sound num within =
      record {
        world = (sound_there s now all at job tx there active).world;
        made = omega arith;
        stored = omega arith;
        new = λ k low. all.flies.future (begun_count now + 1) k (omega arith);
        handles = λ h. only_known state num h within.0;
      }

  body_within : (num : Num) → IsFileWithin (finite.get state.files num) → IsFileWithin (finite.get (ran state mine).world.files num)
  body_within num within =
      let begun = all.flies.begun at mine (flies_there s now all at job tx there active) in
      file_within (ran state mine).world num (begun_count now + 1)
      (subst (λ (r : BodyResult). IsSound r.world (looking num) (begun_count now + 1)) (ran_whole state mine)
      (body-others_sound state job.me (looking num) tx.number (begun_count now + 1) (asked mine) (sound_there s now all at job tx there active)
      (flight_there s now all at job tx there active).inside.fits (look_sound num within) (λ e. omega (arith, begun, e))))

  left_within : (num : Num) → IsFileWithin (finite.get state.files num) → (p : Phase) → IsFileWithin (finite.get (left state mine p).files num)
  left_within num within Running = body_within num within
  left_within num within Committing =
      let begun = all.flies.begun at mine (flies_there s now all at job tx there active) in
      file_within (left state mine Committing) num (begun_count now + 1)
      (done_sound state mine (flight_there s now all at job tx there active).inside (sound_there s now all at job tx there active)
      (looking num) (begun_count now + 1) (λ e. omega (arith, begun, e)) (look_sound num within))
  left_within num within Undoing =
      let stays = standing_fit state tx.undo.pending tx.undo.ended (records_made_there s now all at job tx there active)
      (sound_there s now all at job tx there active).world in
      (stays.known (place.File num 0) within.0, stays.fit.files num)

  returned_file : (num : Num) (p : Phase) → AgreeAt (returned (world_now s now) mine p) (left state mine p) (object.File num)
      → finite.get now.contents.files num ≡ finite.get (left state mine p).files num
  returned_file num Running e = e
  returned_file num Committing e = e
  returned_file num Undoing e = given_files (world_now s now) tx.taken num ∙ e

  -- and where it owns the file, so the station has it
  pub owned_within : (num : Num) → IsFileWithin (finite.get state.files num) → Own mine (object.File num) → IsFileWithin (finite.get now.contents.files num)
  owned_within num within own =
      let p = flown_phase tx.phase in
      let e = returned_file num p ((flight_there s now all at job tx there active).owns (object.File num) own) in
      subst IsFileWithin (sym e) (left_within num within p)

-- ---- the station has each file that the journal's world has
owner_within : (s : Setting) (now : Moment) (all : AreInFlight s now) (num : Num) → IsFileWithin (finite.get (state_of s now).world.files num)
    → (at : ℕ) (o : Option Tx) → active_at (flight_state s now all.unnoted) at ≡ o → OwnSome o (object.File num)
    → IsFileWithin (finite.get now.contents.files num)
owner_within s now all num within at None e own = absurd own
owner_within s now all num within at (Some t) e own =
    let f = flown_back all.unnoted now.jobs at t e in
    owned_within s now all at f.job f.tx f.there f.active num within (subst (λ u. Own u (object.File num)) f.same own)

-- within its limit there, and so here
pub still_within : (s : Setting) (now : Moment) (all : AreInFlight s now) (num : Num) → IsFileWithin (finite.get (state_of s now).world.files num)
    → IsFileWithin (finite.get now.contents.files num)
still_within s now all num within =
    ⊎_elim (λ (is : IsFileWithin (finite.get now.contents.files num)). is) (λ (lacks : IsFileWithin (finite.get now.contents.files num) → ⊥).
    let nobody : (at : ℕ) → OwnAt (flight_state s now all.unnoted) at (object.File num) → ⊥ =
    λ at own. lacks (owner_within s now all num within at (active_at (flight_state s now all.unnoted) at) refl own) in
    let e : finite.get now.contents.files num ≡ finite.get (state_of s now).world.files num = all.flies.free (object.File num) nobody in
    subst IsFileWithin (sym e) within)
    (within_decide (finite.get now.contents.files num))

-- ---- and each file that a running transaction's body left
module _ (s : Setting) (now : Moment) (all : AreInFlight s now) (at : ℕ) (job : JobView) (tx : TxView) (there : slice_get now.jobs at ≡ Some job)
    (active : active_of job ≡ Some tx) (runs : tx.phase ≡ turn.Running) where
  abbrev runner : Tx
  runner = flown job.me (all.unnoted at) tx

  body_there : (num : Num) → IsFileWithin (finite.get (ran (state_of s now).world runner).world.files num) → IsFileWithin (finite.get now.contents.files num)
  body_there num within =
      ⊎_elim
      (λ (has : Has runner (object.File num)).
      let e : finite.get (ran (state_of s now).world runner).world.files num ≡ finite.get now.contents.files num =
      sees (flight_state s now all.unnoted) at runner all.flies (flies_there s now all at job tx there active) (ap flown_phase runs) (object.File num) has in
      subst IsFileWithin e within)
      (λ (lacks : Has runner (object.File num) → ⊥).
      let keeps = ran_keeps (state_of s now).world runner (flight_there s now all at job tx there active).inside.covers in
      let e : finite.get (state_of s now).world.files num ≡ finite.get (ran (state_of s now).world runner).world.files num =
      keeps.others (object.File num) (λ own. lacks (owns_has runner (object.File num) own)) in
      still_within s now all num (subst IsFileWithin (sym e) within))
      (has_decide runner (object.File num))

  -- so all that it has open
  pub open_files : (h : ℕ) → IsOpenIn now.contents (place_of tx.me.places h)
  open_files h =
      let w = (state_of s now).world in
      let me = (flight_there s now all at job tx there active).inside.me in
      let after = body-sound w job.me tx.number (asked_of tx.calls tx.replies) (sound_there s now all at job tx there active)
      (fits_there s now all at job tx there active) in
      let world = (noted w runner).world in
      let same : ran w runner ≡ noted w runner =
      all_noted (flight_state s now all.unnoted) at runner all.flies (flies_there s now all at job tx there active) (ap flown_phase runs) in
      open_there now.contents world (place_of tx.me.places h)
      (λ num within. body_there num (subst (λ (r : BodyResult). IsFileWithin (finite.get r.world.files num)) (sym same) within))
      (subst (λ (m : Private). IsKnown world (place_of m.places h)) me (after.handles h)) after.world.files
