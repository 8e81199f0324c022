-- A transaction that turned back: its records can be undone, and its abort leaves all sound.
use Rattle.std.proofs.Common.{◌≡◌, ◌≢◌, ℕ, ◌+◌, List, [], ◌∷◌, ◌++◌, length, None, Some, append_assoc, ap, sym, ◌∙◌, subst, arith}
use Rattle.std.specs.Prelude.{All, map}
use mathlib.Core.Logic.{dite}
use native.Mathlib.Decide.{ℕ_discrete}
use Rattle.std.proofs.lemmas.List.Elements.{All-weaker}
use Rattle.xc_data.specs.declared.undo.Undo.{Undo}
use Rattle.xc_data.specs.declared.undo.Undo.TheVariants as undo
use Rattle.xc_data.specs.declared.undo.UndoEnd.{UndoEnd}
use Rattle.xc_data.specs.declared.private.Place.{Place}
use Rattle.xc_data.specs.declared.private.Private.{Private}
use Rattle.xc_data.specs.Private.{place_of}
use Rattle.xc_world.specs.World.{World, beginning}
use Rattle.xc_world.specs.Run.{BodyResult}
use Rattle.xc_world.specs.Ends.{Ending, IsLegalEnd, blocker, remains, with_remains}
use Rattle.xc_world.specs.Effects.{AreMadeIn, SparesNew, undone_to, whole}
use Rattle.xc_world.proofs.Laws.{body-made, record-undone, remains-fit, remains-sound}
use Rattle.xc_flight.specs.Active.{Tx, Undoing}
use Rattle.xc_flight.specs.Flight.{asked, effects}
use Rattle.xc_flight.specs.State.{FlightState, active_at, IsActive, InFlight, AreSound, IsSoundFor, IsIdleSound, Flies, turned, entered}
use Rattle.xc_flight.specs.Turns.{with_undone, after_abort}
use Rattle.xc_flight.proofs.Frames.{ran_whole, all_back}
use Rattle.xc_flight.proofs.Moving.{active_set_same, active_set_other, is_inside}
use Rattle.xc_flight.proofs.Taking.{Coined, trail_coined}
use Rattle.xc_flight.proofs.Undoing.{undoes}

-- its records were made one after another
pub records_made : (s : FlightState) (job : ℕ) (t : Tx) → InFlight s → IsActive s job t → IsSoundFor s.state t
    → AreMadeIn s.state (t.pending ++ map (λ r. r.0) t.ended)
records_made s job t h active sound =
    let i = (h.flights job t active).inside in
    subst (AreMadeIn s.state) i.trail
    (subst (λ (r : BodyResult). AreMadeIn s.state r.trail) (ran_whole s.state t) (body-made s.state t.began t.number (asked t) sound i.fits))

-- the newest of them is undone, however its compensation ends
pub newest_undone : (s : FlightState) (job : ℕ) (t : Tx) (older : List Undo) (u : Undo) (end : UndoEnd) → Flies s job t Undoing → IsSoundFor s.state t
    → AreMadeIn s.state (t.pending ++ map (λ r. r.0) t.ended) → t.pending ≡ older ++ u ∷ []
    → (tries : ℕ) → IsLegalEnd tries u end (blocker (length older + 1 + 1) u t.ended)
    → InFlight (turned s job (Some (with_undone t older u end)) (undone_to s.now u end))
newest_undone s job t older u end f sound made newest tries legal =
    let split : t.pending ++ map (λ (r : Ending). r.0) t.ended ≡ older ++ u ∷ map (λ (r : Ending). r.0) t.ended =
    ap (λ us. us ++ map (λ (r : Ending). r.0) t.ended) newest ∙ append_assoc older (u ∷ []) (map (λ (r : Ending). r.0) t.ended) in
    undoes s job t older u end f.all f.active f.phase sound newest
    (subst (λ us. undone_to (with_remains s.state (whole us ++ remains t.ended)) u end ≡ with_remains s.state (effects (with_undone t older u end)))
    (sym newest)
    (record-undone s.state older u t.ended tries end (subst (AreMadeIn s.state) split made) legal))

-- ---- its abort
-- a record of one transaction makes nothing that another is still to make
coined_spares : (me : Private) (m n : ℕ) (u : Undo) → n ≢ m → Coined n u → SparesNew me m u
coined_spares me m n (undo.Create name num) ne coined = λ e. absurd (ne (sym coined ∙ e))
coined_spares me m n (undo.NewPipe num) ne coined = λ e. absurd (ne (sym coined ∙ e))
coined_spares me m n (undo.NewPair num) ne coined = λ e. absurd (ne (sym coined ∙ e))
coined_spares me m n (undo.Overwrite file at before after k) ne coined = tt
coined_spares me m n (undo.Append file from after k) ne coined = tt
coined_spares me m n (undo.Rename from to) ne coined = tt

module _ (s : FlightState) (job : ℕ) (t : Tx) (f : Flies s job t Undoing) where
  ended_spare : (me : Private) (m : ℕ) → t.number ≢ m → All (SparesNew me m) (map (λ r. r.0) t.ended)
  ended_spare me m ne =
      let ended = map (λ (r : Ending). r.0) t.ended in
      let i = (f.all.flights job t f.active).inside in
      All-weaker (Coined t.number) (SparesNew me m) (λ u coined. coined_spares me m t.number u ne coined) ended
      (all_back (Coined t.number) t.pending ended (subst (All (Coined t.number)) i.trail (trail_coined s.state t)))

  -- every other active transaction stays sound
  pub abort_sound : (now : World) → AreSound s → AreMadeIn s.state (map (λ r. r.0) t.ended) → AreSound (entered s job (after_abort s.state t) now)
  abort_sound now sound made j u e =
      let s' = entered s job (after_abort s.state t) now in
      let none : active_at s' job ≡ None = active_set_same s.active job None (is_inside s.active job t f.active) in
      dite (ℕ_discrete j job)
      (λ (q : j ≡ job). let mine : IsActive s' job u = subst (λ k. IsActive s' k u) q e in absurd (cc (none, mine)))
      (λ (ne : j ≢ job).
      let before : IsActive s j u = sym (active_set_other s.active job j None ne) ∙ e in
      let two : t.number ≢ u.number = λ same. ne (f.all.single j job u t before f.active (sym same)) in
      remains-sound s.state u.began u.number t.ended made (ended_spare u.began u.number two) (sound j u before))

  -- the jobs that have none stay so
  pub abort_idle : (places : List Place) → AreMadeIn s.state (map (λ r. r.0) t.ended) → IsIdleSound s.state s.next places
      → IsIdleSound (after_abort s.state t) s.next places
  abort_idle places made idle m le =
      let two : t.number ≢ m = λ same. let lt = f.all.begun job t f.active in omega (arith, same, lt, le) in
      remains-sound s.state (beginning places) m t.ended made (ended_spare (beginning places) m two) (idle m le)

-- its own job may begin its next transaction, with the handles that it had
pub own_after_abort : (s : FlightState) (job : ℕ) (t : Tx) (now : World) → IsSoundFor s.state t → AreMadeIn s.state (map (λ r. r.0) t.ended)
    → InFlight (entered s job (after_abort s.state t) now) → IsIdleSound (after_abort s.state t) s.next t.began.places
own_after_abort s job t now sound made after m le =
    let stays = remains-fit s.state t.ended made sound.world in
    record {
      world = stays.fit;
      made = omega arith;
      stored = omega arith;
      new = λ k low. after.future m k le;
      handles = λ h. stays.known (place_of t.began.places h) (sound.handles h);
    }
