-- The end of a block's way back: all that it did is undone and given back, and the transaction runs on from the save.
use Rattle.std.proofs.Common.{◌≡◌, ◌≢◌, ℕ, ◌+◌, Bool, true, false, Option, None, Some, List, [], ◌∷◌, ◌++◌, length, ap, ap₂, sym, ◌∙◌, subst, refl, arith}
use Rattle.std.specs.Prelude.{All, IsTrue, map, drop}
use Rattle.std.proofs.lemmas.List.{append-nil}
use Rattle.std.proofs.lemmas.List.Elements.{All-weaker}
use Rattle.xc_data.specs.declared.object.Object.{Object}
use Rattle.xc_data.specs.declared.call.Call.TheVariants as call
use Rattle.xc_data.specs.declared.call.Answer.TheVariants as answer
use Rattle.xc_data.specs.declared.call.Reply.TheVariants as reply
use Rattle.xc_data.specs.declared.call.CallWithAnswer.{CallWithAnswer}
use Rattle.xc_data.specs.declared.entry.KeptItem.{KeptItem}
use Rattle.xc_data.specs.declared.undo.Undo.{Undo}
use Rattle.xc_data.specs.declared.private.Private.{Private}
use Rattle.xc_data.specs.Remaining.{objects_of}
use Rattle.xc_world.specs.World.{World}
use Rattle.xc_world.specs.Run.{BodyResult, BlockState, gone_back, back_from, step, block_step, runs_on, opens, body_state, body_fits, asked_of, given_back}
use Rattle.xc_world.specs.Run.{item_object}
use Rattle.xc_world.specs.Ends.{Ending, remains, with_remains}
use Rattle.xc_world.specs.Effects.{whole}
use Rattle.xc_world.specs.Sound.{IsSound}
use Rattle.xc_world.specs.Laws.{AgreeAt}
use Rattle.xc_world.specs.Own.{IsNumbered, AgreeOn, KeepsBut}
use Rattle.xc_world.specs.Inner.{IsInnerBlock}
use Rattle.xc_world.proofs.Laws.{agree_back, agree_on, remains_keep, remains-words, given_alike, given_away, given_words, given_blocks, body_last, open_block}
use Rattle.xc_flight.specs.Active.{Tx, Saved, Phase, Running, Undoing, Own, Covers}
use Rattle.xc_flight.specs.Flight.{stood, noted, ran, asked, effects, left, returned, is_source, IsCopy, IsSaved, IsSourced, IsPhase, Inside, Flight}
use Rattle.xc_flight.specs.State.{FlightState, IsActive, InFlight, turned}
use Rattle.xc_flight.specs.Turns.{went_back, IsWayBack}
use Rattle.xc_flight.proofs.Frames.{whole_of, all_front, all_back}
use Rattle.xc_flight.proofs.Rows.{flight_goes_on}
use Rattle.xc_flight.proofs.Bodies.{fits_more, asked_more, replies_count, asked_count}
use Rattle.xc_flight.proofs.Taking.{Coined, trail_coined, given_reworded, taken_own, taken_elsewhere}
use Rattle.xc_flight.proofs.Undoing.{a_source, no_source, all_away}

same_rest : {X : Type 0} (xs ys zs : List X) → xs ++ ys ≡ xs ++ zs → ys ≡ zs
same_rest [] ys zs e = e
same_rest (x ∷ xs) ys zs e = same_rest xs ys zs (cc e)

same_front : {X : Type 0} (xs ys rest other : List X) → xs ++ rest ≡ ys ++ other → length xs ≡ length ys → xs ≡ ys
same_front [] [] rest other e n = refl
same_front [] (y ∷ ys) rest other e n = absurd (omega arith)
same_front (x ∷ xs) [] rest other e n = absurd (omega arith)
same_front (x ∷ xs) (y ∷ ys) rest other e n =
    let one : x ≡ y = cc e in
    let more : xs ++ rest ≡ ys ++ other = cc e in
    ap₂ (λ a l. a ∷ l) one (same_front xs ys rest other more (omega arith))

drop_front : {X : Type 0} (xs ys : List X) → drop (length xs) (xs ++ ys) ≡ ys
drop_front [] ys = refl
drop_front (x ∷ xs) ys = drop_front xs ys

-- a back with so many faults on the way
abbrev back_call : ℕ → CallWithAnswer
back_call faults = record { call = call.Back; answer = answer.Undone faults }

-- the copy of an open block
record IsOpenBlock (w : World) (t : Tx) (kept : Saved) : Type 0 where
  was : BodyResult
  is : (stood w t).saved ≡ Some was
  copy : IsCopy w t.number t.held was kept

open_at : (w : World) (t : Tx) (kept : Saved) (b : Option BodyResult) → (stood w t).saved ≡ b → IsSaved w t.number t.held b (Some kept) → IsOpenBlock w t kept
open_at w t kept None e so = absurd so
open_at w t kept (Some was) e so = record { was = was; is = e; copy = so }

-- ---- an open block
module _ (s : FlightState) (job : ℕ) (t : Tx) (kept : Saved) (h : InFlight s) (active : IsActive s job t) (sound : IsSound s.state t.began t.number)
    (is_open : t.saved ≡ Some kept) (noted_so : t.unnoted ≡ []) where
  inside_so : Inside s.state t
  inside_so = (h.flights job t active).inside

  opened : IsOpenBlock s.state t kept
  opened = open_at s.state t kept (stood s.state t).saved refl (subst (IsSaved s.state t.number t.held (stood s.state t).saved) is_open inside_so.saved)

  noted_all : ran s.state t ≡ noted s.state t
  noted_all = ap (λ l. (runs_on t.number (stood s.state t) l).now) noted_so

  fits_so : IsTrue (body_fits s.state t.began t.number (asked_of t.calls t.replies))
  fits_so =
      subst (λ l. IsTrue (body_fits s.state t.began t.number l)) (append-nil (asked_of t.calls t.replies))
      (subst (λ l. IsTrue (body_fits s.state t.began t.number (asked_of t.calls t.replies ++ l))) noted_so inside_so.fits)

  block_so : IsInnerBlock s.state opened.was (noted s.state t)
  block_so = open_block s.state t.began t.number (asked_of t.calls t.replies) sound fits_so opened.was opened.is

  -- its records are those at the save, and then the block's
  all_records : t.pending ++ map (λ (r : Ending). r.0) t.ended ≡ kept.trail ++ block_so.trail
  all_records =
      sym inside_so.trail ∙ ap (λ (r : BodyResult). r.trail) noted_all ∙ block_so.all_records ∙ ap (λ l. l ++ block_so.trail) opened.copy.trail

  -- and so what it took
  all_taken : t.taken ≡ kept.taken ++ block_so.taken
  all_taken = sym inside_so.taken ∙ ap (λ (r : BodyResult). r.taken) noted_all ∙ block_so.all_taken ∙ ap (λ l. l ++ block_so.taken) opened.copy.taken

  -- where as many records as at the save have no end, a way back may end
  pub way_back : length t.pending ≡ length kept.trail → remains t.ended ≡ [] → IsWayBack t kept (drop (length kept.taken) t.taken)
  way_back count none =
      record {
        block = is_open;
        noted = noted_so;
        older = same_front t.pending kept.trail (map (λ (r : Ending). r.0) t.ended) block_so.trail all_records count;
        none = none;
        taken = all_taken ∙ ap (λ l. kept.taken ++ l) (sym (ap (drop (length kept.taken)) all_taken ∙ drop_front kept.taken block_so.taken));
      }

-- ---- its way back ends
module _ (s : FlightState) (job : ℕ) (t : Tx) (kept : Saved) (back : List KeptItem) (faults : ℕ) (h : InFlight s) (active : IsActive s job t)
    (phase : t.phase ≡ Undoing) (sound : IsSound s.state t.began t.number) (k : IsWayBack t kept back) where
  flight : Flight s.state s.now t
  flight = h.flights job t active

  inside : Inside s.state t
  inside = flight.inside

  abbrev here : IsOpenBlock s.state t kept
  here = opened s job t kept h active sound k.block k.noted

  all_noted : ran s.state t ≡ noted s.state t
  all_noted = noted_all s job t kept h active sound k.block k.noted

  fits_before : IsTrue (body_fits s.state t.began t.number (asked_of t.calls t.replies))
  fits_before = fits_so s job t kept h active sound k.block k.noted

  block : IsInnerBlock s.state here.was (noted s.state t)
  block = block_so s job t kept h active sound k.block k.noted

  -- what it took since the save is given back
  its_taken : block.taken ≡ back
  its_taken =
      same_rest kept.taken block.taken back
      (ap (λ l. l ++ block.taken) (sym here.copy.taken) ∙ sym block.all_taken ∙ ap (λ (r : BodyResult). r.taken) (sym all_noted) ∙ inside.taken ∙ k.taken)

  -- the world of its body, and that of the save, with S's words
  abbrev there : World
  there = record (noted s.state t).world { words = s.state.words }

  abbrev save : World
  save = record here.was.world { words = s.state.words }

  from_save : given_back there back ≡ with_remains save (whole block.trail)
  from_save =
      given_reworded (noted s.state t).world s.state.words back
      ∙ ap (λ (x : World). record x { words = s.state.words }) (ap (given_back (noted s.state t).world) (sym its_taken) ∙ block.back)
      ∙ sym (remains-words here.was.world s.state.words (whole block.trail))

  to_save : given_back save here.was.taken ≡ with_remains s.state (whole here.was.trail)
  to_save =
      given_reworded here.was.world s.state.words here.was.taken
      ∙ ap (λ (x : World). record x { words = s.state.words }) block.before
      ∙ sym (remains-words s.state s.state.words (whole here.was.trail))

  still_stands : effects t ≡ whole here.was.trail
  still_stands =
      ap₂ (λ us rest. whole us ++ rest) (k.older ∙ sym here.copy.trail) k.none ∙ append-nil (whole here.was.trail)

  -- no record of the block speaks of what the transaction took from
  block_away : (o : Object) → is_source t.taken o ≡ true → All (λ u. All (λ p. o ≢ p) (objects_of u)) block.trail
  block_away o is =
      All-weaker (Coined t.number) (λ u. All (λ p. o ≢ p) (objects_of u))
      (λ u coined. a_source t.taken o (λ q. All (λ p. q ≢ p) (objects_of u)) is
      (All-weaker (λ x. IsNumbered t.number (item_object x) → ⊥) (λ x. All (λ p. item_object x ≢ p) (objects_of u))
      (λ x elsewhere. all_away t.number u x coined elsewhere) t.taken
      (subst (All (λ x. IsNumbered t.number (item_object x) → ⊥)) inside.taken (taken_elsewhere s.state t inside sound))))
      block.trail
      (all_back (Coined t.number) here.was.trail block.trail (subst (All (Coined t.number)) (ap (λ (r : BodyResult). r.trail) all_noted ∙ block.all_records)
      (trail_coined s.state t)))

  -- where it took something the station has what its body left
  at_source : (o : Object) → Own t o → is_source t.taken o ≡ true → AgreeAt (given_back s.now back) save o
  at_source o own is =
      let us = whole block.trail in
      let left_there : AgreeAt s.now there o =
      subst (λ (r : BodyResult). AgreeAt s.now (record r.world { words = s.state.words }) o) all_noted
      (subst (IsSourced s.state s.now t) phase flight.sources o (own, is)) in
      let kept_there = (remains_keep (λ p. o ≢ p) save us (whole_of (λ u. All (λ p. o ≢ p) (objects_of u)) block.trail (block_away o is))).others o
      (λ ne. ne refl) in
      agree_on (given_back s.now back) (given_back there back) save o (given_alike s.now there back o left_there)
      (subst (λ x. AgreeAt x save o) (sym from_save) (agree_back save (with_remains save us) o kept_there))

  -- elsewhere what its records before the save tell
  at_other : (o : Object) → Own t o → is_source t.taken o ≡ false → AgreeAt (given_back s.now back) save o
  at_other o own none =
      let away = no_source t.taken o none in
      let parts = subst (All (λ x. item_object x ≢ o)) k.taken away in
      let now' = given_back s.now back in
      let all_back_there = given_back s.now t.taken in
      let older = with_remains s.state (whole here.was.trail) in
      let told : AgreeAt all_back_there older o =
      subst (λ es. AgreeAt all_back_there (with_remains s.state es) o) still_stands
      (subst (λ p. AgreeOn (Own t) (returned s.now t p) (left s.state t p)) phase flight.owns o own) in
      let saved_away = subst (All (λ x. item_object x ≢ o)) (sym here.copy.taken) (all_front (λ x. item_object x ≢ o) kept.taken back parts) in
      agree_on now' s.now save o
      (agree_back s.now now' o (given_away s.now back o (all_back (λ x. item_object x ≢ o) kept.taken back parts)))
      (agree_on s.now all_back_there save o (given_away s.now t.taken o away)
      (agree_on all_back_there older save o told
      (subst (λ x. AgreeAt x save o) to_save (agree_back save (given_back save here.was.taken) o (given_away save here.was.taken o saved_away)))))

  owns_save : AgreeOn (Own t) (given_back s.now back) save
  owns_save o own = by_test (is_source t.taken o) refl
    where
      by_test : (b : Bool) → is_source t.taken o ≡ b → AgreeAt (given_back s.now back) save o
      by_test true e = at_source o own e
      by_test false e = at_other o own e

  -- only what it owns changes
  back_keeps : KeepsBut (Own t) s.now (given_back s.now back)
  back_keeps =
      let own = subst (All (λ x. Own t (item_object x))) (inside.taken ∙ k.taken) (taken_own s.state t inside sound) in
      record {
        others = λ o lacks. given_away s.now back o
            (All-weaker (λ x. Own t (item_object x)) (λ x. item_object x ≢ o) (λ x mine e. lacks (subst (Own t) e mine)) back
            (all_back (λ x. Own t (item_object x)) kept.taken back own));
        count = ap length (given_words s.now back);
        blocks = given_blocks s.now back;
      }

  -- ---- its body with the back
  abbrev then : Tx
  then = went_back t kept faults

  abbrev gone : BodyResult
  gone = gone_back here.was (step t.number (noted s.state t) (back_call faults))

  asked_then : asked_of then.calls then.replies ≡ asked_of t.calls t.replies ++ back_call faults ∷ []
  asked_then =
      let calls = asked_count t.calls t.replies in
      let bodies = replies_count t.number (opens s.state t.began) (asked_of t.calls t.replies) in
      let same = ap length inside.replies in
      asked_more t.calls t.replies call.Back (reply.Undone faults) (omega (arith, calls, bodies, same))

  stood_then : stood s.state then ≡ block_step t.number (stood s.state t) (back_call faults)
  stood_then = ap (body_state s.state t.began t.number) asked_then ∙ body_last s.state t.began t.number (asked_of t.calls t.replies) (back_call faults)

  noted_then : noted s.state then ≡ gone
  noted_then =
      ap (λ (b : BlockState). b.now) stood_then ∙ ap (λ o. back_from o (step t.number (noted s.state t) (back_call faults))) here.is

  ran_then : ran s.state then ≡ gone
  ran_then = ap (λ l. (runs_on t.number (stood s.state then) l).now) k.noted ∙ noted_then

  inside_then : Inside s.state then
  inside_then =
      record {
        new = inside.new;
        fits = subst (λ l. IsTrue (body_fits s.state t.began t.number l))
            (sym (ap₂ (λ a b. a ++ b) asked_then k.noted ∙ append-nil (asked_of t.calls t.replies ++ back_call faults ∷ [])))
            (fits_more t.number (opens s.state t.began) (asked_of t.calls t.replies) (back_call faults) fits_before refl);
        replies = ap (λ (r : BodyResult). r.replies) noted_then ∙ ap (λ l. l ++ reply.Undone faults ∷ []) inside.replies;
        me = ap (λ (r : BodyResult). r.me) noted_then ∙ ap₂ (λ (m : Private) places. record m { places = places }) inside.me here.copy.places;
        late = ap (λ (r : BodyResult). r.late) noted_then ∙ here.copy.late;
        trail = ap (λ (r : BodyResult). r.trail) ran_then ∙ here.copy.trail ∙ sym (append-nil kept.trail);
        taken = ap (λ (r : BodyResult). r.taken) ran_then ∙ here.copy.taken;
        covers = subst (λ (r : BodyResult). Covers t.held r.touched) (sym ran_then)
            (subst (Covers t.held) (sym (append-nil (noted s.state t).touched))
            (subst (λ (r : BodyResult). Covers t.held r.touched) all_noted inside.covers));
        phase = record {
          none = refl;
          all_noted = k.noted;
          no_late_ends = subst (IsPhase s.state t) phase inside.phase;
          words = ap (λ (r : BodyResult). r.world.words) ran_then ∙ here.copy.words;
          stored = here.copy.stored;
        };
        saved = subst (λ b. IsSaved s.state t.number t.held b None) (sym (ap (λ (b : BlockState). b.saved) stood_then)) tt;
      }

  -- it claimed what it had claimed
  pub body_gone : (noted s.state then).touched ≡ (noted s.state t).touched
  body_gone = ap (λ (r : BodyResult). r.touched) noted_then ∙ append-nil (noted s.state t).touched

  -- the end of a way back keeps all
  pub backs : InFlight (turned s job (Some (went_back t kept faults)) (given_back s.now back))
  backs =
      flight_goes_on s job t then (given_back s.now back) h active refl refl back_keeps (record {
        inside = inside_then;
        owns = subst (λ (r : BodyResult). AgreeOn (Own t) (given_back s.now back) (record r.world { words = s.state.words })) (sym ran_then) owns_save;
        sources = tt;
      })
