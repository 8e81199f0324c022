-- What a running transaction sees, and a call that it makes.
use Rattle.std.proofs.Common.{◌≡◌, ◌≢◌, ℕ, inl, inr, ⊎_elim, List, [], ◌∷◌, ◌++◌, length, Some, ap, ap₂, sym, ◌∙◌, subst, refl, arith, Option, None}
use Rattle.std.specs.Prelude.{All, Contains, IsTrue, map, slice_get}
use Rattle.std.proofs.lemmas.List.{append-nil}
use Rattle.std.proofs.lemmas.List.Elements.{Contains-append_cases}
use mathlib.Core.Logic.{dite}
use native.Mathlib.Decide.{ℕ_discrete}
use Rattle.xc_data.specs.declared.object.Object.{Object}
use Rattle.xc_data.specs.declared.object.Object.TheVariants as object
use Rattle.xc_data.specs.declared.claim.Claim.{Claim}
use Rattle.xc_data.specs.declared.call.CallWithAnswer.{CallWithAnswer}
use Rattle.xc_data.specs.Claims.{objects, owned}
use Rattle.xc_txmem.specs.Overlay.{overlaid}
use Rattle.xc_world.specs.World.{World}
use Rattle.xc_world.specs.Touch.{touch, made_by}
use Rattle.xc_world.specs.Late.{kept_call}
use Rattle.xc_world.specs.Fits.{fits}
use Rattle.xc_world.specs.Run.{BodyResult, BlockState, step, marked, block_step, runs_on, opens, body_state, body_fits, asked_of}
use Rattle.xc_world.specs.Ends.{Ending}
use Rattle.xc_world.specs.Modes.{claims_of}
use Rattle.xc_world.specs.Laws.{AgreeAt}
use Rattle.xc_world.specs.Own.{Owns, AgreeOn, KeepsBut}
use Rattle.xc_world.proofs.Laws.{agree_back, agree_on, keeps_itself, fits_alike, Alike, CallWithin, step_alike, call_agreed, keeps_more, objects_append}
use Rattle.xc_world.proofs.Laws.{owned_append, body_last, marked_now}
use Rattle.xc_data.specs.declared.call.Call.{Call}
use Rattle.xc_data.specs.declared.call.Call.TheVariants as call
use Rattle.xc_data.specs.declared.private.Private.{Private}
use Rattle.xc_flight.specs.Active.{Saved, Tx, Phase, Running, Has, Own, Covers}
use Rattle.xc_flight.specs.Flight.{stood, IsCopy, IsSaved, IsSourced, noted, ran, asked, left, returned, IsRunningFlight, IsPhase, Inside, Flight}
use Rattle.xc_flight.specs.State.{FlightState, IsActive, InFlight, OwnAt, turned}
use Rattle.xc_flight.specs.Turns.{copy_of, saved_after, world_seen, did, record_of_call, taken_by_call, noting_call, after_call, MayDo, IsNoted}
use Rattle.xc_flight.proofs.Basics.{own_decide, owns_has, owns_own}
use Rattle.xc_flight.proofs.Worlds.{overlaid_alike, overlaid_count}
use Rattle.xc_flight.proofs.Frames.{ran_keeps, left_keeps, words_there}
use Rattle.xc_flight.proofs.Moving.{has_it, it_owns}
use Rattle.xc_flight.proofs.Rows.{flight_goes_on as job_goes_on}
use Rattle.xc_flight.proofs.Bodies.{fits_more, asked_more, replies_count, asked_count}

-- ---- worlds with other words
pub reworded : (w v : World) (xs ys : List ℕ) (o : Object) → AgreeAt w v o → ((at : ℕ) → o ≡ object.Word at → slice_get xs at ≡ slice_get ys at)
    → AgreeAt (record w { words = xs }) (record v { words = ys }) o
reworded w v xs ys (object.Word at) e f = f at refl
reworded w v xs ys (object.Name name) e f = e
reworded w v xs ys (object.File num) e f = e
reworded w v xs ys (object.Pipe num) e f = e
reworded w v xs ys (object.Pair num) e f = e
reworded w v xs ys object.Jobs e f = e

-- stores over words that agree with S
over_words : (now w x : World) (stores : List (ℕ × ℕ)) (o : Object) → x.words ≡ overlaid w.words stores → AgreeAt now (record x { words = w.words }) o
    → AgreeAt (record now { words = overlaid now.words stores }) x o
over_words now w x stores (object.Word at) same e = overlaid_alike now.words w.words stores at e ∙ ap (λ ws. slice_get ws at) (sym same)
over_words now w x stores (object.Name name) same e = e
over_words now w x stores (object.File num) same e = e
over_words now w x stores (object.Pipe num) same e = e
over_words now w x stores (object.Pair num) same e = e
over_words now w x stores object.Jobs same e = e

-- ---- what an active transaction has without owning it is as in S
pub free_of : (s : FlightState) (job : ℕ) (t : Tx) → InFlight s → IsActive s job t → (o : Object) → Has t o → (Own t o → ⊥) → AgreeAt s.now s.state o
free_of s job t h active o has lacks =
    h.free o (λ j e. dite (ℕ_discrete j job)
    (λ (q : j ≡ job). lacks (it_owns s job t o active (subst (λ k. OwnAt s k o) q e)))
    (λ (ne : j ≢ job). h.apart j job o ne e (has_it s job t o active has)))

-- until it turns back the station tells what it left at all that it has
pub now_left : (s : FlightState) (job : ℕ) (t : Tx) → InFlight s → IsActive s job t → (p : Phase) → AgreeOn (Own t) s.now (left s.state t p)
    → AgreeOn (Has t) s.now (left s.state t p)
now_left s job t h active p owns o has =
    ⊎_elim (λ (e : Own t o). owns o e) (λ (lacks : Own t o → ⊥). agree_on s.now s.state (left s.state t p) o (free_of s job t h active o has lacks)
    ((left_keeps s.state t (h.flights job t active).inside p).others o lacks)) (own_decide t o)

module _ (s : FlightState) (job : ℕ) (t : Tx) (h : InFlight s) (active : IsActive s job t) (phase : t.phase ≡ Running) where
  flight : Flight s.state s.now t
  flight = h.flights job t active

  -- what its phase says
  pub is_running : IsRunningFlight s.state t
  is_running = subst (IsPhase s.state t) phase flight.inside.phase

  -- what it left is in the station, its stores aside
  pub running_left : AgreeOn (Has t) s.now (left s.state t Running)
  running_left = now_left s job t h active Running (subst (λ p. AgreeOn (Own t) (returned s.now t p) (left s.state t p)) phase flight.owns)

  -- all that it has it sees as its body left it
  pub sees : AgreeOn (Has t) (ran s.state t).world (world_seen s.now t)
  sees o has = agree_back (world_seen s.now t) (ran s.state t).world o (over_words s.now s.state (ran s.state t).world t.writes o is_running.words
      (running_left o has))

  -- no call of its is without a reply
  pub all_noted : ran s.state t ≡ noted s.state t
  all_noted = ap (λ l. (runs_on t.number (stood s.state t) l).now) is_running.all_noted

-- ---- claims one after another
pub covers_both : (held a b : List Claim) → Covers held a → Covers held b → Covers held (a ++ b)
covers_both held a b p q =
    record {
      objects = λ o at. ⊎_elim (p.objects o) (q.objects o) (Contains-append_cases (objects a) (objects b) o
          (subst (λ l. Contains l o) (objects_append a b) at));
      owned = λ o at. ⊎_elim (p.owned o) (q.owned o) (Contains-append_cases (owned a) (owned b) o (subst (λ l. Contains l o) (owned_append a b) at));
    }

-- ---- a call of a running transaction
module _ (s : FlightState) (job : ℕ) (t : Tx) (c : CallWithAnswer) (h : InFlight s) (active : IsActive s job t) (phase : t.phase ≡ Running)
    (k : MayDo s.now t c) where
  inside : Inside s.state t
  inside = (h.flights job t active).inside

  body_sees : AgreeOn (Has t) (noted s.state t).world (world_seen s.now t)
  body_sees = subst (λ (r : BodyResult). AgreeOn (Has t) r.world (world_seen s.now t)) (all_noted s job t h active phase) (sees s job t h active phase)

  body_covers : Covers t.held (noted s.state t).touched
  body_covers = subst (λ (r : BodyResult). Covers t.held r.touched) (all_noted s job t h active phase) inside.covers

  body_keeps_own : KeepsBut (Own t) s.state (noted s.state t).world
  body_keeps_own = subst (λ (r : BodyResult). KeepsBut (Own t) s.state r.world) (all_noted s job t h active phase) (ran_keeps s.state t inside.covers)

  seen_count : length (noted s.state t).world.words ≡ length s.now.words
  seen_count = body_keeps_own.count ∙ sym h.count

  -- the body in what it sees
  abbrev in_sight : BodyResult
  in_sight = record (noted s.state t) { world = world_seen s.now t; me = t.me }

  both_alike : Alike (Has t) t.number ((noted s.state t).world, world_seen s.now t) (noted s.state t) in_sight
  both_alike =
      record {
        gave = record { me = inside.me; replies = refl; late = refl; trail = refl; taken = refl; touched = refl };
        agree = body_sees;
        count = seen_count ∙ sym (overlaid_count s.now.words t.writes);
        left = keeps_itself (Owns t.number (noted s.state t).touched) (noted s.state t).world;
        right = keeps_itself (Owns t.number (noted s.state t).touched) (world_seen s.now t);
      }

  -- its claims there are those in the body
  same_claims : claims_of c.call t.me (length s.now.words) ≡ claims_of c.call (noted s.state t).me (length (noted s.state t).world.words)
  same_claims = ap₂ (claims_of c.call) (sym inside.me) (sym seen_count)

  call_covers : Covers t.held (claims_of c.call (noted s.state t).me (length (noted s.state t).world.words))
  call_covers = subst (Covers t.held) same_claims k.covers

  within : CallWithin (Has t) t.number (noted s.state t) c
  within = record { claimed = λ o at. inl (call_covers.objects o at); numbered = λ o e. inr e }

  -- one step more, in the body and in what it sees
  steps : Alike (Has t) t.number ((noted s.state t).world, world_seen s.now t) (step t.number (noted s.state t) c) (step t.number in_sight c)
  steps = step_alike (Has t) t.number (noted s.state t).world (world_seen s.now t) (noted s.state t) in_sight c both_alike within

  -- its claims cover those of the call too
  pub step_covers : Covers t.held (step t.number (noted s.state t) c).touched
  step_covers = covers_both t.held (noted s.state t).touched (claims_of c.call (noted s.state t).me
      (length (noted s.state t).world.words)) body_covers call_covers

  did_keeps : KeepsBut (Own t) (world_seen s.now t) (did s.now t c).world
  did_keeps =
      keeps_more (Owns t.number (step t.number in_sight c).touched) (Own t) (world_seen s.now t) (did s.now t c).world
      (owns_own t (step t.number in_sight c).touched (subst (Covers t.held) steps.gave.touched step_covers)) steps.right

  -- the call changes only what it owns
  pub after_keeps : KeepsBut (Own t) s.now (after_call s.now t c)
  after_keeps =
      record {
        others = λ o lacks. reworded (world_seen s.now t) (did s.now t c).world s.now.words s.now.words o (did_keeps.others o lacks) (λ at e. refl);
        count = refl;
        blocks = did_keeps.blocks;
      }

  step_fits : IsTrue (fits (noted s.state t).world (noted s.state t).me t.number c.call c.answer)
  step_fits =
      subst (λ m. IsTrue (fits (noted s.state t).world m t.number c.call c.answer)) (sym inside.me)
      (subst IsTrue (sym (fits_alike (noted s.state t).world (world_seen s.now t) t.me t.number c.call c.answer both_alike.count
      (subst (λ m. All (AgreeAt (noted s.state t).world (world_seen s.now t)) (touch c.call m
      (length (noted s.state t).world.words) ++ made_by c.call m t.number)) inside.me
      (call_agreed (Has t) t.number (noted s.state t) in_sight c body_sees within)))) k.fit)

  -- the answer fits its body
  pub fits_then : IsTrue (body_fits s.state t.began t.number (asked_of t.calls t.replies ++ c ∷ []))
  fits_then =
      fits_more t.number (opens s.state t.began) (asked_of t.calls t.replies) c
      (subst (λ l. IsTrue (body_fits s.state t.began t.number l)) (append-nil (asked_of t.calls t.replies))
      (subst (λ l. IsTrue (body_fits s.state t.began t.number (asked_of t.calls t.replies ++ l)))
      (is_running s job t h active phase).all_noted inside.fits))
      step_fits

  -- the words that it has are those of S
  words_now : (at : ℕ) → Has t (object.Word at) → slice_get s.now.words at ≡ slice_get s.state.words at
  words_now at has = running_left s job t h active phase (object.Word at) has

  old_trail : (noted s.state t).trail ≡ t.pending
  old_trail =
      ap (λ (r : BodyResult). r.trail) (sym (all_noted s job t h active phase)) ∙ inside.trail
      ∙ ap (λ es. t.pending ++ map (λ (e : Ending). e.0) es) (is_running s job t h active phase).none ∙ append-nil t.pending

  -- its records, and then that of the call
  pub step_trail : (step t.number (noted s.state t) c).trail ≡ (t.pending ++ record_of_call s.now t c) ++ map (λ r. r.0) t.ended
  step_trail =
      steps.gave.trail ∙ ap (λ us. us ++ record_of_call s.now t c) old_trail ∙ sym (append-nil (t.pending ++ record_of_call s.now t c))
      ∙ ap (λ es. (t.pending ++ record_of_call s.now t c) ++ map (λ (e : Ending). e.0) es) (sym (is_running s job t h active phase).none)

  -- what it took, and then what the call took
  pub step_taken : (step t.number (noted s.state t) c).taken ≡ t.taken ++ taken_by_call s.now t c
  step_taken =
      steps.gave.taken ∙ ap (λ l. l ++ taken_by_call s.now t c) (ap (λ (r : BodyResult). r.taken) (sym (all_noted s job t h active phase)) ∙ inside.taken)

  -- the body's world after the step is in the station, its stores aside
  pub step_stands : AgreeOn (Has t) (after_call s.now t c) (record (step t.number (noted s.state t) c).world { words = s.state.words })
  step_stands o has =
      let x = (step t.number (noted s.state t) c).world in
      reworded (did s.now t c).world x s.now.words s.state.words o (agree_back x (did s.now t c).world o (steps.agree o has))
      (λ at e. words_now at (subst (Has t) e has))

-- ---- what a save of the call keeps
saved_marked : (w : World) (number : ℕ) (held : List Claim) (c : Call) (b : Option BodyResult) (kept : Option Saved) (r : BodyResult) (copy : Saved)
    → IsSaved w number held b kept
    → IsCopy w number held r copy → IsSaved w number held (marked c b r).saved (saved_after c kept copy)
saved_marked w number held call.Save b kept r copy so is = is
saved_marked w number held call.Keep b kept r copy so is = tt
saved_marked w number held call.Back b kept r copy so is = tt
saved_marked w number held _ b kept r copy so is = so

-- ---- it is noted
module _ (s : FlightState) (job : ℕ) (t : Tx) (c : CallWithAnswer) (writes : List (ℕ × ℕ)) (h : InFlight s) (active : IsActive s job t)
    (phase : t.phase ≡ Running)
    (k : MayDo s.now t c) (d : IsNoted s.now t c writes) where
  stood_more : stood s.state (noting_call s.now t c writes) ≡ block_step t.number (stood s.state t) c
  stood_more =
      let calls = asked_count t.calls t.replies in
      let bodies = replies_count t.number (opens s.state t.began) (asked_of t.calls t.replies) in
      let same = ap length (inside s job t c h active phase k).replies in
      ap (body_state s.state t.began t.number) (asked_more t.calls t.replies c.call (did s.now t c).reply (omega (arith, calls, bodies, same))
      ∙ ap (λ a. asked_of t.calls t.replies ++ record { call = c.call; answer = a } ∷ []) d.told)
      ∙ body_last s.state t.began t.number (asked_of t.calls t.replies) c

  noted_more : noted s.state (noting_call s.now t c writes) ≡ step t.number (noted s.state t) c
  noted_more =
      ap (λ (b : BlockState). b.now) stood_more ∙ marked_now c.call (stood s.state t).saved (step t.number (noted s.state t) c) k.ahead

  ran_more : ran s.state (noting_call s.now t c writes) ≡ step t.number (noted s.state t) c
  ran_more = ap (λ l. (runs_on t.number (stood s.state (noting_call s.now t c writes)) l).now) (is_running s job t h active phase).all_noted ∙ noted_more

  asked_now : asked (noting_call s.now t c writes) ≡ asked_of t.calls t.replies ++ c ∷ []
  asked_now =
      let calls = asked_count t.calls t.replies in
      let bodies = replies_count t.number (opens s.state t.began) (asked_of t.calls t.replies) in
      let same = ap length (inside s job t c h active phase k).replies in
      ap₂ (λ l m. l ++ m) (asked_more t.calls t.replies c.call (did s.now t c).reply (omega (arith, calls, bodies, same))
      ∙ ap (λ a. asked_of t.calls t.replies ++ record { call = c.call; answer = a } ∷ []) d.told) (is_running s job t h active phase).all_noted
      ∙ append-nil (asked_of t.calls t.replies ++ c ∷ [])

  words_then : (ran s.state (noting_call s.now t c writes)).world.words ≡ overlaid s.state.words writes
  words_then =
      ap (λ (r : BodyResult). r.world.words) ran_more
      ∙ words_there s.state (step t.number (noted s.state t) c).world t writes
      (subst (λ (r : BodyResult). KeepsBut (Own t) s.state r.world) ran_more (ran_keeps s.state (noting_call s.now t c writes)
      (subst (λ (r : BodyResult). Covers t.held r.touched) (sym ran_more) (step_covers s job t c h active phase k))))
      d.stored
      (λ at has. (steps s job t c h active phase k).agree (object.Word at) has ∙ ap (λ ws. slice_get ws at) (sym d.words)
      ∙ overlaid_alike s.now.words s.state.words writes at ((words_now s job t c h active phase k) at has))

  -- what a save would keep
  copy_then : IsCopy s.state t.number t.held (step t.number (noted s.state t) c) (copy_of (noting_call s.now t c writes))
  copy_then =
      let so = (steps s job t c h active phase k).gave in
      record {
        places = ap (λ (m : Private). m.places) so.me;
        late = so.late ∙ ap (λ l. l ++ kept_call c.call t.me (did s.now t c).reply) (inside s job t c h active phase k).late;
        trail = so.trail ∙ ap (λ us. us ++ record_of_call s.now t c) (old_trail s job t c h active phase k);
        taken = step_taken s job t c h active phase k;
        words = sym (ap (λ (r : BodyResult). r.world.words) ran_more) ∙ words_then;
        stored = d.stored;
      }

  saved_then : IsSaved s.state t.number t.held (stood s.state (noting_call s.now t c writes)).saved (noting_call s.now t c writes).saved
  saved_then =
      subst (λ (b : BlockState). IsSaved s.state t.number t.held b.saved (noting_call s.now t c writes).saved) (sym stood_more)
      (saved_marked s.state t.number t.held c.call (stood s.state t).saved t.saved (step t.number (noted s.state t) c)
      (copy_of (noting_call s.now t c writes)) (inside s job t c h active phase k).saved copy_then)

  noted_inside : Inside s.state (noting_call s.now t c writes)
  noted_inside =
      let p = is_running s job t h active phase in
      record {
        new = (inside s job t c h active phase k).new;
        fits = subst (λ l. IsTrue (body_fits s.state t.began t.number l)) (sym asked_now) (fits_then s job t c h active phase k);
        replies = ap (λ (r : BodyResult). r.replies) noted_more ∙ (steps s job t c h active phase k).gave.replies ∙ ap (λ l. l ++ (did s.now t c).reply ∷ [])
            (inside s job t c h active phase k).replies;
        me = ap (λ (r : BodyResult). r.me) noted_more ∙ (steps s job t c h active phase k).gave.me;
        late = ap (λ (r : BodyResult). r.late) noted_more ∙ (steps s job t c h active phase k).gave.late ∙ ap
            (λ l. l ++ kept_call c.call t.me (did s.now t c).reply) (inside s job t c h active phase k).late;
        trail = ap (λ (r : BodyResult). r.trail) ran_more ∙ (step_trail s job t c h active phase k);
        taken = ap (λ (r : BodyResult). r.taken) ran_more ∙ step_taken s job t c h active phase k;
        covers = subst (λ (r : BodyResult). Covers t.held r.touched) (sym ran_more) (step_covers s job t c h active phase k);
        phase = subst (IsPhase s.state (noting_call s.now t c writes)) (sym phase)
            (record { none = p.none; all_noted = p.all_noted; no_late_ends = p.no_late_ends; words = words_then; stored = d.stored });
        saved = saved_then;
      }

  -- a call that is noted keeps all
  pub called : InFlight (turned s job (Some (noting_call s.now t c writes)) (after_call s.now t c))
  called =
      job_goes_on s job t (noting_call s.now t c writes) (after_call s.now t c) h active refl refl (after_keeps s job t c h active phase k) (record {
        inside = noted_inside;
        owns = subst (λ p. AgreeOn (Own t) (returned (after_call s.now t c) (noting_call s.now t c writes) p)
            (left s.state (noting_call s.now t c writes) p)) (sym phase)
            (λ o e. subst (λ (r : BodyResult). AgreeAt (after_call s.now t c) (record r.world { words = s.state.words }) o) (sym ran_more)
            ((step_stands s job t c h active phase k) o (owns_has t o e)));
        sources = subst (IsSourced s.state (after_call s.now t c) (noting_call s.now t c writes)) (sym phase) tt;
      })
