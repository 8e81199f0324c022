-- A transaction's flight depends on what it has alone.
use Rattle.std.proofs.Common.{◌≡◌, ◌≢◌, ℕ, inl, inr, ⊎_elim, List, [], ◌∷◌, ◌++◌, Option, ap, sym, ◌∙◌, subst, refl}
use Rattle.std.specs.Prelude.{All, Contains, IsTrue, length, take, map, slice_get}
use Rattle.std.specs.List.{cons_option}
use Rattle.std.specs.declared.option.Option.TheVariants.{None, Some}
use Rattle.std.proofs.lemmas.List.Elements.{All-weaker, All-take, All-head, All-tail, All-nil, All-cons, All-append}
use Rattle.std.proofs.lemmas.List.Sums.{fold-append}
use Rattle.xc_data.specs.declared.object.Object.{Object}
use Rattle.xc_data.specs.declared.object.Object.TheVariants as object
use Rattle.xc_data.specs.declared.call.LateCall.{LateCall}
use Rattle.xc_data.specs.declared.call.LateEnd.{LateEnd}
use Rattle.xc_data.specs.declared.call.LateAnswer.{LateAnswer}
use Rattle.xc_data.specs.declared.call.LateAnswer.TheVariants as late_answer
use Rattle.xc_data.specs.declared.private.Private.{Private}
use Rattle.xc_data.specs.declared.undo.Undo.{Undo}
use Rattle.xc_data.specs.Remaining.{objects_of, remains_from}
use Rattle.xc_txmem.specs.Overlay.{overlaid}
use Rattle.xc_world.specs.World.{World}
use Rattle.xc_world.specs.Fits.{late_answer_of}
use Rattle.xc_world.specs.Run.{BodyResult, BlockState, block_step, runs_on, opens, body, body_fits, lates, lates_fit, asked_of, late_asked_of}
use Rattle.xc_world.specs.Ends.{Ending, standing_part, remains}
use Rattle.xc_world.specs.Effects.{whole}
use Rattle.xc_world.specs.Laws.{AgreeAt, late_objects}
use Rattle.xc_world.specs.Sound.{IsFree}
use Rattle.xc_data.specs.Claims.{objects}
use Rattle.xc_world.specs.Own.{Sees, Owns, AgreeOn, KeepsBut, LooksWithin, SpeaksOfOwn, late_changes}
use Rattle.xc_world.proofs.Laws.{agree_back, agree_on, words_same, agree_itself, Alike, StateAlike, SavedAlike, CopiesAlike, opens_alike, runs_alike}
use Rattle.xc_world.proofs.Laws.{runs_fit_alike, runs_touched, runs_owned, keeps_more, keeps_on, body_keeps, IsOf, remains_agree, remains_keep, LateWithin}
use Rattle.xc_world.proofs.Laws.{EndAlike, lates_alike, lates_keep, body_speaks, given_alike}
use Rattle.xc_flight.specs.Active.{Tx, Saved, Phase, Running, Committing, Undoing, Has, Own, Covers, num}
use Rattle.xc_flight.specs.Flight.{stood, noted, ran, asked, late_done, effects, left, returned, IsPhase, IsCopy, IsSaved, Source, IsSourced, Inside, Flight}
use Rattle.xc_flight.proofs.Basics.{has_decide, owns_has, sees_has, owns_own}
use Rattle.xc_flight.proofs.Worlds.{words_agree, overlaid_other, overlaid_alike}

-- ---- what a body left, by what its transaction has and owns
pub ran_whole : (w : World) (t : Tx) → body w t.began t.number (asked t) ≡ ran w t
ran_whole w t = ap (λ (b : BlockState). b.now) (fold-append (block_step t.number) (opens w t.began) (asked_of t.calls t.replies) t.unnoted)

-- it changes only what it owns
pub ran_keeps : (w : World) (t : Tx) → Covers t.held (ran w t).touched → KeepsBut (Own t) w (ran w t).world
ran_keeps w t covers =
    keeps_more (Owns t.number (ran w t).touched) (Own t) w (ran w t).world (owns_own t (ran w t).touched covers)
    (subst (λ (r : BodyResult). KeepsBut (Owns t.number r.touched) w r.world) (ran_whole w t) (body_keeps w t.began t.number (asked t)))

ran_speaks : (w : World) (t : Tx) → SpeaksOfOwn t.number (ran w t)
ran_speaks w t = subst (SpeaksOfOwn t.number) (ran_whole w t) (body_speaks w t.began t.number (asked t))

-- its late calls look at what it has, and change what it owns
pub late_within : (w : World) (t : Tx) → Covers t.held (ran w t).touched → All (LooksWithin (Has t) (Own t)) (ran w t).late
late_within w t covers =
    let sees = Sees t.number (ran w t).touched in
    let owns = Owns t.number (ran w t).touched in
    All-weaker (LooksWithin sees owns) (LooksWithin (Has t) (Own t))
    (λ l of. record {
      looks = All-weaker sees (Has t) (sees_has t (ran w t).touched covers) (late_objects l) of.looks;
      changes = All-weaker owns (Own t) (owns_own t (ran w t).touched covers) (late_changes l) of.changes;
    }) (ran w t).late (ran_speaks w t).late

-- its records speak of what it owns
pub trail_own : (w : World) (t : Tx) → Covers t.held (ran w t).touched → All (λ u. All (Own t) (objects_of u)) (ran w t).trail
trail_own w t covers =
    let owns = Owns t.number (ran w t).touched in
    All-weaker (λ u. All owns (objects_of u)) (λ u. All (Own t) (objects_of u))
    (λ u of. All-weaker owns (Own t) (owns_own t (ran w t).touched covers) (objects_of u) of)
    (ran w t).trail (ran_speaks w t).trail

-- ---- of records, what stands of them
pub whole_of : (P : Undo → Type 0) (us : List Undo) → All P us → All (λ e. P e.0) (whole us)
whole_of P [] all = All-nil (λ (e : Undo × ℕ). P e.0)
whole_of P (u ∷ us) all = All-cons (λ (e : Undo × ℕ). P e.0) (u, 0) (whole us) (All-head P u us all) (whole_of P us (All-tail P u us all))

one_remains : (Q : Undo × ℕ → Type 0) (u : Undo) (rest : List (Undo × ℕ)) → ((k : ℕ) → Q (u, k)) → All Q rest → (from : Option ℕ)
    → All Q (cons_option (standing_part u from) rest)
one_remains Q u rest here all None = all
one_remains Q u rest here all (Some k) = All-cons Q (u, k) rest (here k) all

remains_of : (P : Undo → Type 0) (es : List Ending) → All P (map (λ r. r.0) es) → All (λ e. P e.0) (remains es)
remains_of P [] all = All-nil (λ (e : Undo × ℕ). P e.0)
remains_of P ((u, end) ∷ es) all =
    one_remains (λ (e : Undo × ℕ). P e.0) u (remains es) (λ k. All-head P u (map (λ (r : Ending). r.0) es) all)
    (remains_of P es (All-tail P u (map (λ (r : Ending). r.0) es) all)) (remains_from u end)

-- what is so of a list is so of its front
pub all_front : {X : Type 0} (P : X → Type 0) (xs ys : List X) → All P (xs ++ ys) → All P xs
all_front P [] ys all = All-nil P
all_front P (x ∷ xs) ys all = All-cons P x xs (All-head P x (xs ++ ys) all) (all_front P xs ys (All-tail P x (xs ++ ys) all))

-- and of its back
pub all_back : {X : Type 0} (P : X → Type 0) (xs ys : List X) → All P (xs ++ ys) → All P ys
all_back P [] ys all = all
all_back P (x ∷ xs) ys all = all_back P xs ys (All-tail P x (xs ++ ys) all)

effects_of : (P : Undo → Type 0) (w : World) (t : Tx) → Inside w t → All P (ran w t).trail → All (λ e. P e.0) (effects t)
effects_of P w t i all =
    let ends = map (λ (r : Ending). r.0) t.ended in
    let parts = subst (All P) i.trail all in
    All-append (λ (e : Undo × ℕ). P e.0) (whole t.pending) (remains t.ended) (whole_of P t.pending (all_front P t.pending ends parts))
    (remains_of P t.ended (all_back P t.pending ends parts))

-- what stands of its records speaks of its own objects
pub effects_own : (w : World) (t : Tx) → Inside w t → All (IsOf (Own t)) (effects t)
effects_own w t i = effects_of (λ u. All (Own t) (objects_of u)) w t i (trail_own w t i.covers)

-- ---- late calls with their answers
pub late_answered : (P : LateCall → Type 0) (calls : List LateCall) (ends : List LateEnd) → All P calls
    → All (λ (c : LateCall × LateAnswer). P c.0) (late_asked_of calls ends)
late_answered P [] ends all = All-nil (λ (c : LateCall × LateAnswer). P c.0)
late_answered P (c ∷ calls) [] all =
    All-cons (λ (x : LateCall × LateAnswer). P x.0) (c, late_answer.Fine) (late_asked_of calls []) (All-head P c calls all)
    (late_answered P calls [] (All-tail P c calls all))
late_answered P (c ∷ calls) (e ∷ ends) all =
    All-cons (λ (x : LateCall × LateAnswer). P x.0) (c, late_answer_of e) (late_asked_of calls ends) (All-head P c calls all)
    (late_answered P calls ends (All-tail P c calls all))

done_within : (w : World) (t : Tx) → Covers t.held (ran w t).touched → All (LateWithin (Has t) (Own t)) (late_done w t)
done_within w t covers =
    late_answered (LooksWithin (Has t) (Own t)) (take (length t.late_ends) (ran w t).late) t.late_ends
    (All-take (LooksWithin (Has t) (Own t)) (length t.late_ends) (ran w t).late (late_within w t covers))

-- ---- what it left differs from S in what it owns at most
pub left_keeps : (w : World) (t : Tx) → Inside w t → (p : Phase) → KeepsBut (Own t) w (left w t p)
left_keeps w t i Running =
    let keeps = ran_keeps w t i.covers in
    record { others = λ o lacks. words_agree w (ran w t).world w w o (keeps.others o lacks) (agree_itself w o); count = refl; blocks = keeps.blocks }
left_keeps w t i Committing =
    keeps_on (Own t) w (ran w t).world (left w t Committing) (ran_keeps w t i.covers)
    (lates_keep (Has t) (Own t) (ran w t).world (late_done w t) (done_within w t i.covers))
left_keeps w t i Undoing = remains_keep (Own t) w (effects t) (effects_own w t i)

-- ---- words that are as its stores tell wherever it has them are so everywhere
pub unstored : (t : Tx) (xs : List ℕ) (stores : List (ℕ × ℕ)) (at : ℕ) → All (λ (s : ℕ × ℕ). Own t (object.Word s.0)) stores → (Own t (object.Word at) → ⊥)
    → slice_get xs at ≡ slice_get (overlaid xs stores) at
unstored t xs stores at stored lacks =
    overlaid_other xs stores at (All-weaker (λ (s : ℕ × ℕ). Own t (object.Word s.0)) (λ (s : ℕ × ℕ). s.0 ≢ at)
    (λ s e q. lacks (subst (λ k. Own t (object.Word k)) q e)) stores stored)

-- its stores give its words
pub words_there : (w x : World) (t : Tx) (stores : List (ℕ × ℕ)) → KeepsBut (Own t) w x → All (λ (s : ℕ × ℕ). Own t (object.Word s.0)) stores
    → ((at : ℕ) → Has t (object.Word at) → slice_get x.words at ≡ slice_get (overlaid w.words stores) at) → x.words ≡ overlaid w.words stores
words_there w x t stores keeps stored there =
    words_same x.words (overlaid w.words stores) (λ at. ⊎_elim (there at)
    (λ (none : Has t (object.Word at) → ⊥). let lacks : Own t (object.Word at) → ⊥ = λ e. none (owns_has t (object.Word at) e) in
    sym (keeps.others (object.Word at) lacks) ∙ unstored t w.words stores at stored lacks)
    (has_decide t (object.Word at)))

-- ---- two states that agree on what it has
module _ (w v : World) (t : Tx) (count : length w.words ≡ length v.words) (blocks : w.blocks ≡ v.blocks) (agree : AgreeOn (Has t) w v) (i : Inside w t) where
  stood_alike : StateAlike (Has t) t.number (w, v) (stood w t) (stood v t)
  stood_alike =
      runs_alike (Has t) t.number w v (opens w t.began) (opens v t.began) (asked_of t.calls t.replies)
      (opens_alike (Has t) t.number w v t.began count agree)
      (λ o at. inl (i.covers.objects o (runs_touched t.number (stood w t) t.unnoted o at))) (λ o e. inr e)

  noted_alike : Alike (Has t) t.number (w, v) (noted w t) (noted v t)
  noted_alike = stood_alike.now

  ran_alike : Alike (Has t) t.number (w, v) (ran w t) (ran v t)
  ran_alike = (runs_alike (Has t) t.number w v (stood w t) (stood v t) t.unnoted stood_alike (λ o at. inl (i.covers.objects o at)) (λ o e. inr e)).now

  fits_alike : body_fits w t.began t.number (asked t) ≡ body_fits v t.began t.number (asked t)
  fits_alike =
      runs_fit_alike (Has t) t.number w v (opens w t.began) (opens v t.began) (asked t) (opens_alike (Has t) t.number w v t.began count agree)
      (λ o at. inl (i.covers.objects o (subst (λ (r : BodyResult). Contains (objects r.touched) o) (ran_whole w t) at))) (λ o e. inr e)

  ends_alike : EndAlike (Has t) (Own t) (ran w t).world (ran v t).world (late_done w t)
  ends_alike =
      lates_alike (Has t) (Own t) (ran w t).world (ran v t).world (late_done w t)
      (ran_alike.left.blocks ∙ blocks ∙ sym ran_alike.right.blocks) ran_alike.agree (done_within w t i.covers)

  same_done : late_done w t ≡ late_done v t
  same_done = ap (λ l. late_asked_of (take (length t.late_ends) l) t.late_ends) ran_alike.gave.late

  covers_alike : Covers t.held (ran v t).touched
  covers_alike = subst (Covers t.held) ran_alike.gave.touched i.covers

  left_alike : (p : Phase) → AgreeOn (Own t) (left w t p) (left v t p)
  left_alike Running o e = words_agree (ran w t).world (ran v t).world w v o (ran_alike.agree o (owns_has t o e)) (agree o (owns_has t o e))
  left_alike Committing o e = subst (λ done. AgreeAt (left w t Committing) (lates (ran v t).world done).world o) same_done (ends_alike.agree o (owns_has t o e))
  left_alike Undoing o e = remains_agree (Own t) w v (effects t) (effects_own w t i) (λ p q. agree p (owns_has t p q)) o e

  phase_alike : (p : Phase) → IsPhase w t p → IsPhase v t p
  phase_alike Running h =
      record {
        none = h.none;
        all_noted = h.all_noted;
        no_late_ends = h.no_late_ends;
        words = words_there v (ran v t).world t t.writes (ran_keeps v t covers_alike) h.stored
            (λ at e. sym (ran_alike.agree (object.Word at) e) ∙ ap (λ ws. slice_get ws at) h.words ∙ overlaid_alike w.words v.words t.writes at
            (agree (object.Word at) e));
        stored = h.stored;
      }
  phase_alike Committing h =
      record {
        none = h.none;
        all_noted = h.all_noted;
        few = h.few;
        ends = ap (λ done. (lates (ran v t).world done).ends) (sym same_done) ∙ sym ends_alike.ends ∙ h.ends;
        fits = subst (λ done. IsTrue (lates_fit (ran v t).world done)) same_done (subst IsTrue ends_alike.fits h.fits);
      }
  phase_alike Undoing h = h

  -- what its block's save kept is so in both
  copy_alike : (r q : BodyResult) (kept : Saved) → CopiesAlike (Has t) t.number (w, v) (r, q) (noted w t, noted v t) → IsCopy w t.number t.held r kept
      → IsCopy v t.number t.held q kept
  copy_alike r q kept both so =
      let one = both.alike in
      let own : (o : Object) → Owns t.number q.touched o → Own t o =
      λ o e. owns_own t (noted v t).touched (noted_covers v covers_alike) o (both.right o e) in
      record {
        places = ap (λ (m : Private). m.places) (sym one.gave.me) ∙ so.places;
        late = sym one.gave.late ∙ so.late;
        trail = sym one.gave.trail ∙ so.trail;
        taken = sym one.gave.taken ∙ so.taken;
        words = words_there v q.world t kept.writes (keeps_more (Owns t.number q.touched) (Own t) v q.world own one.right) so.stored
            (λ at e. sym (one.agree (object.Word at) e) ∙ ap (λ ws. slice_get ws at) so.words ∙ overlaid_alike w.words v.words kept.writes at
            (agree (object.Word at) e));
        stored = so.stored;
      }
    where
      noted_covers : (x : World) → Covers t.held (ran x t).touched → Covers t.held (noted x t).touched
      noted_covers x covers =
          record {
            objects = λ o at. covers.objects o (runs_touched t.number (stood x t) t.unnoted o at);
            owned = λ o at. covers.owned o (runs_owned t.number (stood x t) t.unnoted o at);
          }

  saved_alike : (a b : Option BodyResult) (kept : Option Saved) → SavedAlike (Has t) t.number (w, v) a b (noted w t) (noted v t)
      → IsSaved w t.number t.held a kept
      → IsSaved v t.number t.held b kept
  saved_alike None None None both so = tt
  saved_alike (Some r) (Some q) (Some kept) both so = copy_alike r q kept both so
  saved_alike None None (Some kept) both so = absurd so
  saved_alike (Some r) (Some q) None both so = absurd so
  saved_alike None (Some q) kept both so = absurd both
  saved_alike (Some r) None kept both so = absurd both

  -- it is inside the other as it is in the one, where that has no object with its number either
  inside_alike : ((k : ℕ) → IsFree v (num t.number k)) → Inside v t
  inside_alike new =
      record {
        new = new;
        fits = subst IsTrue fits_alike i.fits;
        replies = sym noted_alike.gave.replies ∙ i.replies;
        me = sym noted_alike.gave.me ∙ i.me;
        late = sym noted_alike.gave.late ∙ i.late;
        trail = sym ran_alike.gave.trail ∙ i.trail;
        taken = sym ran_alike.gave.taken ∙ i.taken;
        covers = covers_alike;
        phase = phase_alike t.phase i.phase;
        saved = saved_alike (stood w t).saved (stood v t).saved t.saved stood_alike.saved i.saved;
      }

  returned_alike : (now now' : World) → AgreeOn (Own t) now now' → (p : Phase) → AgreeOn (Own t) (returned now t p) (returned now' t p)
  returned_alike now now' same Running o e = same o e
  returned_alike now now' same Committing o e = same o e
  returned_alike now now' same Undoing o e = given_alike now now' t.taken o (same o e)

  owns_alike : (now now' : World) → AgreeOn (Own t) now now' → (p : Phase) → AgreeOn (Own t) (returned now t p) (left w t p)
      → AgreeOn (Own t) (returned now' t p) (left v t p)
  owns_alike now now' same p owns o e =
      let x = returned now t p in
      let y = returned now' t p in
      agree_on y x (left v t p) o (agree_back x y o (returned_alike now now' same p o e)) (agree_on x (left w t p) (left v t p) o (owns o e) (left_alike p o e))

  sources_alike : (now now' : World) → AgreeOn (Own t) now now' → (p : Phase) → IsSourced w now t p → IsSourced v now' t p
  sources_alike now now' same Running so = tt
  sources_alike now now' same Committing so = tt
  sources_alike now now' same Undoing so = λ o e.
      agree_on now' now (left v t Running) o (agree_back now now' o (same o e.0))
      (agree_on now (left w t Running) (left v t Running) o (so o e) (left_alike Running o e.0))

-- ---- the move of another
free_alike : (w v : World) (t : Tx) → AgreeOn (Has t) w v → ((k : ℕ) → IsFree w (num t.number k))
    → (k : ℕ) → IsFree v (num t.number k)
free_alike w v t agree new k =
    let n = num t.number k in
    record {
      file = sym (agree (object.File n) (inr refl)) ∙ (new k).file;
      pipe = sym (agree (object.Pipe n) (inr refl)) ∙ (new k).pipe;
      pair = sym (agree (object.Pair n) (inr refl)) ∙ (new k).pair;
    }

-- what another owns it doesn't have: so its flight goes on
pub flight_kept : (own : Object → Type 0) (w v now now' : World) (t : Tx) → KeepsBut own w v → KeepsBut own now now' → ((o : Object) → own o → Has t o → ⊥)
    → Flight w now t → Flight v now' t
flight_kept own w v now now' t state host apart f =
    let agree : AgreeOn (Has t) w v = λ o e. state.others o (λ q. apart o q e) in
    let i = f.inside in
    record {
      inside = inside_alike w v t (sym state.count) (sym state.blocks) agree i (free_alike w v t agree i.new);
      owns = owns_alike w v t (sym state.count) (sym state.blocks) agree i now now' (λ o e. host.others o (λ q. apart o q (owns_has t o e))) t.phase f.owns;
      sources = sources_alike w v t (sym state.count) (sym state.blocks) agree i now now' (λ o e. host.others o (λ q. apart o q (owns_has t o e))) t.phase
          f.sources;
    }
