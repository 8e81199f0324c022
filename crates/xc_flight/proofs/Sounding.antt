-- Soundness beside the flights: what a call touches, and the entry of a commit.
use Rattle.std.proofs.Common.{◌≡◌, ◌≢◌, ℕ, ◌<◌, ◌≤◌, inr, ⊎_elim, Bool, true, false, List, [], ◌∷◌, ◌++◌, None, ap, sym, ◌∙◌, subst, refl, arith}
use Rattle.std.specs.Prelude.{All, Contains, IsTrue, nat_eq, if◌then◌else◌}
use Rattle.std.specs.Cmp.Lexicographic.{pointwise}
use mathlib.Core.Logic.{dite}
use native.Mathlib.Decide.{ℕ_discrete}
use Rattle.std.proofs.lemmas.List.{append-nil}
use Rattle.std.proofs.lemmas.Bool.{cases_lt}
use Rattle.std.proofs.lemmas.List.Elements.{All-nil, All-cons, All-contains}
use Rattle.std.specs.FinMap as finite
use Rattle.xc_data.specs.declared.object.Num.{Num}
use Rattle.xc_data.specs.declared.object.Object.{Object}
use Rattle.xc_data.specs.declared.object.Object.TheVariants as object
use Rattle.xc_data.specs.declared.call.Call.{Call}
use Rattle.xc_data.specs.declared.call.Call.TheVariants as call
use Rattle.xc_data.specs.declared.private.Place.{Place}
use Rattle.xc_data.specs.declared.private.Place.TheVariants as place
use Rattle.xc_data.specs.declared.private.Private.{Private}
use Rattle.xc_data.specs.Private.{place_of}
use Rattle.xc_world.specs.World.{World, beginning}
use Rattle.xc_world.specs.Checks.{is_refused}
use Rattle.xc_world.specs.Touch.{touch, objects_of_call, object_at}
use Rattle.xc_world.specs.Run.{BodyResult, body, body_fits, run, asked_of}
use Rattle.xc_world.specs.Sound.{IsSound, IsKnown, IsFree, is_there}
use Rattle.xc_world.specs.Laws.{AgreeAt}
use Rattle.xc_world.specs.Own.{AgreeOn, IsNumbered}
use Rattle.xc_world.proofs.Laws.{body-sound, body-others_sound}
use Rattle.xc_flight.specs.Active.{Tx, Running, Committing, Has, num, IsBelow}
use Rattle.xc_flight.specs.Flight.{noted, ran, asked, left, IsCommittingFlight, IsPhase, Inside}
use Rattle.xc_flight.specs.State.{FlightState, IsActive, InFlight, AreSound, IsIdleSound, entered}
use Rattle.xc_flight.specs.Turns.{IsOpenFor}
use Rattle.xc_flight.proofs.Basics.{owns_has}
use Rattle.xc_flight.proofs.Calling.{running_left, all_noted}
use Rattle.xc_flight.proofs.Frames.{ran_whole, ran_keeps}
use Rattle.xc_flight.proofs.LateReady.{run_sound}
use Rattle.xc_flight.proofs.Moving.{has_it, own_it, active_set_same, active_set_other, is_inside}

-- ---- what a call touches is in the world where its handles are known
abbrev IsObjectThere : World → Object → Type 0
IsObjectThere w o = is_there w o ≡ true

one_there : (w : World) (o : Object) → IsObjectThere w o → All (IsObjectThere w) (o ∷ [])
one_there w o e = All-cons (IsObjectThere w) o [] e (All-nil (IsObjectThere w))

at_place : (w : World) (p : Place) → IsKnown w p → All (IsObjectThere w) (object_at p)
at_place w place.Vacant known = All-nil (IsObjectThere w)
at_place w (place.File q at) known = one_there w (object.File q) known
at_place w (place.Pipe q) known = one_there w (object.Pipe q) known
at_place w (place.Pair q side) known = one_there w (object.Pair q) known.0

two_names : (w : World) (a b : List ℕ) (same : Bool) → All (IsObjectThere w) (if same then object.Name a ∷ [] else object.Name a ∷ object.Name b ∷ [])
two_names w a b true = one_there w (object.Name a) refl
two_names w a b false = All-cons (IsObjectThere w) (object.Name a) (object.Name b ∷ []) refl (one_there w (object.Name b) refl)

of_call : (w : World) (me : Private) (c : Call) → ((h : ℕ) → IsKnown w (place_of me.places h)) → All (IsObjectThere w) (objects_of_call c me)
of_call w me (call.Load at) known = one_there w (object.Word at) refl
of_call w me (call.Store at value) known = one_there w (object.Word at) refl
of_call w me (call.XOpen name) known = one_there w (object.Name name) refl
of_call w me (call.XCreate name) known = one_there w (object.Name name) refl
of_call w me (call.XRead h n) known = at_place w (place_of me.places h) (known h)
of_call w me (call.XWriteOvr h bytes) known = at_place w (place_of me.places h) (known h)
of_call w me (call.XWriteSeq h bytes) known = at_place w (place_of me.places h) (known h)
of_call w me (call.XSeek h to) known = All-nil (IsObjectThere w)
of_call w me (call.XLen h) known = at_place w (place_of me.places h) (known h)
of_call w me (call.XRename from to) known = two_names w from to (pointwise nat_eq from to)
of_call w me (call.XClose h) known = All-nil (IsObjectThere w)
of_call w me call.XPipe known = All-nil (IsObjectThere w)
of_call w me (call.XReadPipe h n) known = at_place w (place_of me.places h) (known h)
of_call w me call.XPair known = All-nil (IsObjectThere w)
of_call w me (call.XRecvmsg h) known = at_place w (place_of me.places h) (known h)
of_call w me (call.XUnlink name slot) known = one_there w (object.Name name) refl
of_call w me (call.XSync h slot) known = at_place w (place_of me.places h) (known h)
of_call w me (call.XWritePipe h bytes slot) known = at_place w (place_of me.places h) (known h)
of_call w me (call.XShutdown h slot) known = at_place w (place_of me.places h) (known h)
of_call w me (call.XSendmsg h bytes slot) known = at_place w (place_of me.places h) (known h)
of_call w me (call.XThreadCreate body slot) known = one_there w object.Jobs refl
of_call w me call.Save known = All-nil (IsObjectThere w)
of_call w me call.Keep known = All-nil (IsObjectThere w)
of_call w me call.Back known = All-nil (IsObjectThere w)

touch_there : (w : World) (me : Private) (c : Call) (words : ℕ) → ((h : ℕ) → IsKnown w (place_of me.places h)) → (o : Object)
    → Contains (touch c me words) o → IsObjectThere w o
touch_there w me c words known o has = at (is_refused c me words) has
  where
    at : (b : Bool) → Contains (if b then [] else objects_of_call c me) o → IsObjectThere w o
    at true has = (let lt = has.1 in absurd (omega (arith, lt)))
    at false has = All-contains (IsObjectThere w) (objects_of_call c me) o (of_call w me c known) has

-- ---- a body's world has no object with the number of another, or one that is still to be given
free_in : (w v : World) (q : Num) → AgreeAt w v (object.File q) → AgreeAt w v (object.Pipe q) → AgreeAt w v (object.Pair q) → IsFree w q → IsFree v q
free_in w v q file pipe pair h = record { file = sym file ∙ h.file; pipe = sym pipe ∙ h.pipe; pair = sym pair ∙ h.pair }

not_there : (w : World) (m : ℕ) (o : Object) → ((k : ℕ) → IsFree w (num m k)) → IsNumbered m o → IsObjectThere w o → ⊥
not_there w m (object.File q) free e there = let none : finite.get w.files q ≡ None = subst (λ x. finite.get w.files (num x q.k) ≡ None) (sym e)
    (free q.k).file in cc (none, there)
not_there w m (object.Pipe q) free e there = let none : finite.get w.pipes q ≡ None = subst (λ x. finite.get w.pipes (num x q.k) ≡ None) (sym e)
    (free q.k).pipe in cc (none, there)
not_there w m (object.Pair q) free e there = let none : finite.get w.pairs q ≡ None = subst (λ x. finite.get w.pairs (num x q.k) ≡ None) (sym e)
    (free q.k).pair in cc (none, there)
not_there w m (object.Word at) free e there = e
not_there w m (object.Name name) free e there = e
not_there w m object.Jobs free e there = e

below_or : (next : ℕ) (w : World) (o : Object) → ((m k : ℕ) → next ≤ m → IsFree w (num m k)) → IsObjectThere w o → IsBelow next o
below_or next w (object.File q) free there = ⊎_elim (λ (lt : q.tx < next). lt) (λ (le : next ≤ q.tx). absurd
    (not_there w q.tx (object.File q) (λ k. free q.tx k le) refl there)) (cases_lt q.tx next)
below_or next w (object.Pipe q) free there = ⊎_elim (λ (lt : q.tx < next). lt) (λ (le : next ≤ q.tx). absurd
    (not_there w q.tx (object.Pipe q) (λ k. free q.tx k le) refl there)) (cases_lt q.tx next)
below_or next w (object.Pair q) free there = ⊎_elim (λ (lt : q.tx < next). lt) (λ (le : next ≤ q.tx). absurd
    (not_there w q.tx (object.Pair q) (λ k. free q.tx k le) refl there)) (cases_lt q.tx next)
below_or next w (object.Word at) free there = tt
below_or next w (object.Name name) free there = tt
below_or next w object.Jobs free there = tt

module _ (s : FlightState) (job : ℕ) (t : Tx) (h : InFlight s) (active : IsActive s job t) where
  inside : Inside s.state t
  inside = (h.flights job t active).inside

  same_at : (o : Object) → (Has t o → ⊥) → AgreeAt s.state (ran s.state t).world o
  same_at o lacks = (ran_keeps s.state t inside.covers).others o (λ e. lacks (owns_has t o e))

  others_absent : (j : ℕ) (u : Tx) → j ≢ job → IsActive s j u → (k : ℕ) → IsFree (ran s.state t).world (num u.number k)
  others_absent j u ne other k =
      let made : (o : Object) → IsNumbered u.number o → AgreeAt s.state (ran s.state t).world o = λ o e. same_at o
      (λ has. h.apart j job o ne (own_it s j u o other (inr e)) (has_it s job t o active has)) in
      free_in s.state (ran s.state t).world (num u.number k) (made (object.File (num u.number k)) refl) (made (object.Pipe (num u.number k)) refl)
      (made (object.Pair (num u.number k)) refl)
      ((h.flights j u other).inside.new k)

  future_absent : (m k : ℕ) → s.next ≤ m → IsFree (ran s.state t).world (num m k)
  future_absent m k le =
      let far : (o : Object) → (IsBelow s.next o → ⊥) → AgreeAt s.state (ran s.state t).world o = λ o not. same_at o
      (λ has. not (h.names job o (has_it s job t o active has))) in
      free_in s.state (ran s.state t).world (num m k) (far (object.File (num m k)) (λ lt. omega (arith, lt, le)))
      (far (object.Pipe (num m k)) (λ lt. omega (arith, lt, le)))
      (far (object.Pair (num m k)) (λ lt. omega (arith, lt, le))) (h.future m k le)

  -- a running transaction's private state is sound in its body's world
  ran_sound : IsSound s.state t.began t.number → ran s.state t ≡ noted s.state t → IsSound (ran s.state t).world t.me t.number
  ran_sound sound same =
      let end = body-sound s.state t.began t.number (asked t) sound inside.fits in
      let whole = subst (λ (r : BodyResult). IsSound r.world r.me t.number) (ran_whole s.state t) end in
      subst (λ (m : Private). IsSound (ran s.state t).world m t.number) (ap (λ (r : BodyResult). r.me) same ∙ inside.me) whole

  -- what a call touches is open to it
  pub touches_open : IsSound s.state t.began t.number → ran s.state t ≡ noted s.state t → (c : Call) (words : ℕ) (o : Object)
      → Contains (touch c t.me words) o → IsOpenFor s job o
  touches_open sound same c words o e =
      let there = touch_there (ran s.state t).world t.me c words (ran_sound sound same).handles o e in
      record {
        below = below_or s.next (ran s.state t).world o future_absent there;
        foreign = λ j u ne other numbered. not_there (ran s.state t).world u.number o (others_absent j u ne other) numbered there;
      }

  -- the station has no object with a number that a running transaction is still to give
  pub still_absent : t.phase ≡ Running → IsSound s.state t.began t.number → (k : ℕ) → t.me.made ≤ k → IsFree s.now (num t.number k)
  still_absent phase sound k le =
      let q = num t.number k in
      let there : AgreeOn (Has t) s.now (left s.state t Running) = running_left s job t h active phase in
      free_in (ran s.state t).world s.now q (sym (there (object.File q) (inr refl))) (sym (there (object.Pipe q) (inr refl)))
      (sym (there (object.Pair q) (inr refl))) ((ran_sound sound (all_noted s job t h active phase)).new k le)

-- ---- the entry of a commit
module _ (s : FlightState) (job : ℕ) (t : Tx) (h : InFlight s) (sound : AreSound s) (active : IsActive s job t) (phase : t.phase ≡ Committing) where
  fit : IsTrue (body_fits s.state t.began t.number (asked_of t.calls t.replies))
  fit =
      let i = (h.flights job t active).inside in
      let p : IsCommittingFlight s.state t = subst (IsPhase s.state t) phase i.phase in
      subst (λ l. IsTrue (body_fits s.state t.began t.number l)) (append-nil (asked_of t.calls t.replies))
      (subst (λ l. IsTrue (body_fits s.state t.began t.number (asked_of t.calls t.replies ++ l))) p.all_noted i.fits)

  others_sound : (you : Private) (ty : ℕ) → ty ≢ t.number → IsSound s.state you ty
      → IsSound (run s.state t.began t.number (asked_of t.calls t.replies) t.late_ends).late.world you ty
  others_sound you ty ne other =
      run_sound s.state t.began you t.number ty (asked_of t.calls t.replies) t.late_ends (sound job t active) fit
      (body-others_sound s.state t.began you t.number ty (asked_of t.calls t.replies) (sound job t active) fit other ne)

  -- for all others
  pub sound_after : (now : World) → AreSound (entered s job (run s.state t.began t.number (asked_of t.calls t.replies) t.late_ends).late.world now)
  sound_after now j u e = dite (ℕ_discrete j job)
      (λ (q : j ≡ job). absurd (cc (
        subst (λ k. IsActive (entered s job (run s.state t.began t.number
            (asked_of t.calls t.replies) t.late_ends).late.world now) k u) q e,
        active_set_same s.active job None (is_inside s.active job t active),
      )))
      (λ (ne : j ≢ job). let before : IsActive s j u = sym (active_set_other s.active job j None ne) ∙ e in
      others_sound u.began u.number (λ z. ne (h.single j job u t before active z)) (sound j u before))

  -- for the jobs that have none
  pub idle_after : (places : List Place) → IsIdleSound s.state s.next places
      → IsIdleSound (run s.state t.began t.number (asked_of t.calls t.replies) t.late_ends).late.world s.next places
  idle_after places idle m le = others_sound (beginning places) m (λ e. let lt = h.begun job t active in omega (arith, e, lt, le)) (idle m le)

  -- for its own job
  pub own_after : (now : World) → InFlight (entered s job (run s.state t.began t.number (asked_of t.calls t.replies) t.late_ends).late.world now)
      → IsIdleSound (run s.state t.began t.number (asked_of t.calls t.replies) t.late_ends).late.world s.next t.me.places
  own_after now after m le =
      let i = (h.flights job t active).inside in
      let asks = asked_of t.calls t.replies in
      let end = run_sound s.state t.began (noted s.state t).me t.number t.number asks t.late_ends (sound job t active) fit
      (body-sound s.state t.began t.number asks (sound job t active) fit) in
      let mine = subst (λ (x : Private). IsSound (run s.state t.began t.number asks t.late_ends).late.world x t.number) i.me end in
      record { world = mine.world; made = omega arith; stored = omega arith; new = λ k low. after.future m k le; handles = mine.handles }
