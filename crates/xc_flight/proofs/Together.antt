-- A call with its claims in one turn; and what keeps all sound.
use Rattle.std.proofs.Common.{false, ◌≡◌, ◌≢◌, ℕ, ◌+◌, ◌<◌, List, [], ◌∷◌, ◌++◌, length, Option, Some, zero, suc, ap, sym, ◌∙◌, subst, refl, arith}
use Rattle.std.specs.Prelude.{All, Contains, IsTrue, map, replicate, slice_set}
use mathlib.Core.Logic.{dite}
use native.Mathlib.Decide.{ℕ_discrete}
use Rattle.std.proofs.lemmas.List.Elements.{All-nil, All-cons, All-head, All-tail, All-weaker, All-contains_itself}
use Rattle.xc_data.specs.declared.object.Object.{Object}
use Rattle.xc_data.specs.declared.claim.Claim.{Claim}
use Rattle.xc_data.specs.declared.claim.Mode.{Mode}
use Rattle.xc_data.specs.declared.call.Call.{Call}
use Rattle.xc_data.specs.declared.call.CallWithAnswer.{CallWithAnswer}
use Rattle.xc_data.specs.declared.private.Private.{Private}
use Rattle.xc_data.specs.declared.private.Place.{Place}
use Rattle.xc_data.specs.declared.private.Place.TheVariants as place
use Rattle.xc_data.specs.Private.{place_of}
use Rattle.xc_data.specs.Claims.{claim}
use Rattle.xc_world.specs.World.{World, beginning, no_handles}
use Rattle.xc_world.specs.Fits.{is_back, fits}
use Rattle.xc_world.specs.Touch.{touch}
use Rattle.xc_world.specs.Modes.{mode_of, claims_of}
use Rattle.xc_world.specs.Sound.{IsSound, IsFit, IsKnown}
use Rattle.xc_flight.specs.Active.{Tx, Running, HoldTheSame}
use Rattle.xc_flight.specs.State.{FlightState, IsActive, InFlight, AreSound, IsIdleSound, turned}
use Rattle.xc_flight.specs.Turns.{starting, claiming, world_seen, IsOpenFor, FitsOthers, MayBeGranted, MayDo, IsNoted, noting_call, after_call}
use Rattle.xc_flight.proofs.Moving.{active_set_same, active_set_other, is_inside, one_active}
use Rattle.xc_flight.proofs.Calling.{called, all_noted}
use Rattle.xc_flight.proofs.Claiming.{claims_keep, back_held, covers_through}
use Rattle.xc_flight.proofs.Sounding.{touches_open}

-- ---- two turns of one job are one
set_twice : (xs : List (Option Tx)) (i : ℕ) (x y : Option Tx) → slice_set (slice_set xs i x) i y ≡ slice_set xs i y
set_twice [] i x y = refl
set_twice (z ∷ zs) zero x y = refl
set_twice (z ∷ zs) (suc i) x y = ap (λ l. z ∷ l) (set_twice zs i x y)

-- the later one counts
pub two_turns : (s : FlightState) (job : ℕ) (t u : Option Tx) (now later : World) → turned (turned s job t now) job u later ≡ turned s job u later
two_turns s job t u now later = ap (λ (l : List (Option Tx)). record s { now = later; active = l }) (set_twice s.active job t u)

-- ---- the claims of a call
each_granted : (s : FlightState) (job : ℕ) (m : Mode) (os : List Object) → All (IsOpenFor s job) os → All (FitsOthers s job) (map (claim m) os)
    → All (MayBeGranted s job) (map (claim m) os)
each_granted s job m [] here alone = All-nil (MayBeGranted s job)
each_granted s job m (o ∷ os) here alone =
    All-cons (MayBeGranted s job) (claim m o) (map (claim m) os)
    (record { object = All-head (IsOpenFor s job) o os here; together = All-head (FitsOthers s job) (claim m o) (map (claim m) os) alone })
    (each_granted s job m os (All-tail (IsOpenFor s job) o os here) (All-tail (FitsOthers s job) (claim m o) (map (claim m) os) alone))

-- they may be granted where they have no rival
pub call_granted : (s : FlightState) (job : ℕ) (t : Tx) (c : Call) (words : ℕ) → InFlight s → IsActive s job t → t.phase ≡ Running
    → IsSound s.state t.began t.number
    → All (FitsOthers s job) (claims_of c t.me words) → All (MayBeGranted s job) (claims_of c t.me words)
call_granted s job t c words h active phase sound alone =
    each_granted s job (mode_of c) (touch c t.me words)
    (All-weaker (Contains (touch c t.me words)) (IsOpenFor s job) (λ o at. touches_open s job t h active sound
    (all_noted s job t h active phase) c words o at) (touch c t.me words) (All-contains_itself (touch c t.me words)))
    alone

-- a call whose claims have no rival is done and noted in one turn
pub called_with_claims : (s : FlightState) (job : ℕ) (t : Tx) (asked : CallWithAnswer) (held : List Claim) (writes : List (ℕ × ℕ)) → InFlight s
    → IsActive s job t
    → t.phase ≡ Running → IsSound s.state t.began t.number → is_back asked.call ≡ false
    → All (FitsOthers s job) (claims_of asked.call t.me (length s.now.words)) → HoldTheSame held (t.held ++ claims_of asked.call t.me (length s.now.words))
    → IsTrue (fits (world_seen s.now t) t.me t.number asked.call asked.answer) → IsNoted s.now (claiming t held) asked writes
    → InFlight (turned s job (Some (noting_call s.now (claiming t held) asked writes)) (after_call s.now t asked))
called_with_claims s job t asked held writes h active phase sound ahead alone same fit noted =
    let claims = claims_of asked.call t.me (length s.now.words) in
    let t1 = claiming t held in
    let s1 = turned s job (Some t1) s.now in
    let first = claims_keep s job t claims held h active (call_granted s job t asked.call (length s.now.words) h active phase sound alone) same phase in
    let is : IsActive s1 job t1 = active_set_same s.active job (Some t1) (is_inside s.active job t active) in
    let may : MayDo s.now t1 asked = record {
      ahead = ahead;
      fit = fit;
      covers = covers_through held (t.held ++ claims) claims same.left
          (back_held t.held claims);
    } in
    subst InFlight (two_turns s job (Some t1) (Some (noting_call s.now t1 asked writes)) s.now (after_call s.now t asked))
    (called s1 job t1 asked writes first is phase may noted)

-- ---- what keeps all sound
pub turn_keeps_sound : (s : FlightState) (job : ℕ) (t t' : Tx) (now : World) → AreSound s → IsActive s job t → t'.number ≡ t.number → t'.began ≡ t.began
    → AreSound (turned s job (Some t') now)
turn_keeps_sound s job t t' now sound active number began j u e = dite (ℕ_discrete j job)
    (λ (q : j ≡ job).
    let is : IsActive (turned s job (Some t') now) job t' = active_set_same s.active job (Some t') (is_inside s.active job t active) in
    let same : t' ≡ u = one_active (turned s job (Some t') now) job t' u is (subst (λ k. IsActive (turned s job (Some t') now) k u) q e) in
    subst (λ (x : Tx). IsSound s.state x.began x.number) same
    (subst (λ n. IsSound s.state t'.began n) (sym number) (subst (λ (b : Private). IsSound s.state b t.number) (sym began) (sound job t active))))
    (λ (ne : j ≢ job). sound j u (sym (active_set_other s.active job j (Some t') ne) ∙ e))

-- a begin keeps all sound
pub begin_sound : (s : FlightState) (job : ℕ) (places : List Place) → AreSound s → job < length s.active → IsIdleSound s.state s.next places
    → AreSound (record s { active = slice_set s.active job (Some (starting s.next (beginning places))); next = s.next + 1 })
begin_sound s job places sound lt idle j u e =
    let t = starting s.next (beginning places) in
    let s' = record s { active = slice_set s.active job (Some t); next = s.next + 1 } in
    let is : IsActive s' job t = active_set_same s.active job (Some t) lt in
    dite (ℕ_discrete j job)
    (λ (q : j ≡ job). subst (λ (x : Tx). IsSound s.state x.began x.number) (one_active s' job t u is (subst (λ k. IsActive s' k u) q e))
    (idle s.next (omega arith)))
    (λ (ne : j ≢ job). sound j u (sym (active_set_other s.active job j (Some t) ne) ∙ e))

-- ---- a job that has no handle
vacant_at : (n h : ℕ) → place_of (replicate n place.Vacant) h ≡ place.Vacant
vacant_at zero h = refl
vacant_at (suc n) zero = refl
vacant_at (suc n) (suc h) = vacant_at n h

-- it may begin its first transaction in a world that is fit
pub joining_sound : (s : FlightState) → InFlight s → IsFit s.state → IsIdleSound s.state s.next no_handles
joining_sound s h fit m le =
    record {
      world = fit;
      made = omega arith;
      stored = omega arith;
      new = λ k low. h.future m k le;
      handles = λ i. subst (IsKnown s.state) (sym (vacant_at 256 i)) tt;
    }
