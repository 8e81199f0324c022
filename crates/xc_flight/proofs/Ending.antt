-- A commit, its late calls, and its entry.
use Rattle.std.proofs.Common.{◌≡◌, ℕ, ◌≤◌, Bool, true, false, ◌&&◌, List, [], ◌∷◌, ◌++◌, zero, suc, length, take, Some, ap, ap₂, sym, ◌∙◌, subst, refl, arith}
use Rattle.std.specs.Prelude.{All, IsTrue}
use Rattle.std.proofs.lemmas.List.{take_all}
use Rattle.std.proofs.lemmas.List.Elements.{All-head, All-tail, All-contains}
use Rattle.xc_data.specs.declared.object.Object.{Object}
use Rattle.xc_data.specs.declared.object.Object.TheVariants as object
use Rattle.xc_data.specs.declared.call.LateCall.{LateCall}
use Rattle.xc_data.specs.declared.call.LateEnd.{LateEnd}
use Rattle.xc_data.specs.declared.call.LateAnswer.{LateAnswer}
use Rattle.xc_world.specs.World.{World}
use Rattle.xc_world.specs.Late.{late}
use Rattle.xc_world.specs.Fits.{late_fits, late_answer_of}
use Rattle.xc_world.specs.Run.{BodyResult, runs_on, lates, lates_fit, late_asked_of}
use Rattle.xc_world.specs.Laws.{AgreeAt, EndsAlike, late_objects}
use Rattle.xc_world.specs.Own.{AgreeOn, LooksWithin}
use Rattle.xc_world.proofs.Laws.{agree_back, late_alike, agreed, still_agree, keeps_itself, late_keeps, late_fits_alike}
use Rattle.xc_flight.specs.Active.{Tx, Running, Committing, Has, Own}
use Rattle.xc_flight.specs.Flight.{noted, ran, late_done, left, returned, IsCommittingFlight, IsPhase, Inside, stood, IsSourced}
use Rattle.xc_flight.specs.State.{FlightState, IsActive, InFlight, turned, entered}
use Rattle.xc_flight.specs.Turns.{world_seen, in_phase, IsDoneLate, with_end, after_commit}
use Rattle.xc_flight.proofs.Basics.{owns_has}
use Rattle.xc_flight.proofs.Worlds.{overlaid_count}
use Rattle.xc_flight.proofs.Frames.{late_within, left_keeps, unstored}
use Rattle.xc_flight.proofs.Rows.{flight_goes_on, end_keeps}
use Rattle.xc_flight.proofs.Calling.{is_running, sees, now_left}
use Rattle.xc_flight.proofs.Bodies.{both_true, push_count}

-- ---- a commit: its stores are written
unwritten : (now : World) (t : Tx) → All (λ (s : ℕ × ℕ). Own t (object.Word s.0)) t.writes → (o : Object) → (Own t o → ⊥) → AgreeAt now (world_seen now t) o
unwritten now t stored (object.Word k) lacks = unstored t now.words t.writes k stored lacks
unwritten now t stored (object.Name name) lacks = refl
unwritten now t stored (object.File q) lacks = refl
unwritten now t stored (object.Pipe q) lacks = refl
unwritten now t stored (object.Pair q) lacks = refl
unwritten now t stored object.Jobs lacks = refl

-- a commit keeps all
pub commits : (s : FlightState) (job : ℕ) (t : Tx) → InFlight s → IsActive s job t → t.phase ≡ Running
    → InFlight (turned s job (Some (in_phase t Committing)) (world_seen s.now t))
commits s job t h active phase =
    let w = s.state in
    let i = (h.flights job t active).inside in
    let p = is_running s job t h active phase in
    let none : (P : List LateEnd → Type 0) → P [] → P t.late_ends = λ P x. subst P (sym p.no_late_ends) x in
    flight_goes_on s job t (in_phase t Committing) (world_seen s.now t) h active refl refl
    (record { others = unwritten s.now t p.stored; count = overlaid_count s.now.words t.writes; blocks = refl }) (record {
      inside = record {
        new = i.new;
        fits = i.fits;
        replies = i.replies;
        me = i.me;
        late = i.late;
        trail = i.trail;
        taken = i.taken;
        covers = i.covers;
        phase = record {
          none = p.none;
          all_noted = p.all_noted;
          few = none (λ ends. length ends ≤ length t.late) (omega arith);
          ends = none (λ ends. (lates (ran w t).world (late_asked_of (take (length ends) (ran w t).late) ends)).ends ≡ ends) refl;
          fits = none (λ ends. IsTrue (lates_fit (ran w t).world (late_asked_of (take (length ends) (ran w t).late) ends))) refl;
        };
        saved = i.saved;
      };
      owns = λ o e. none (λ ends. AgreeAt (world_seen s.now t) (lates (ran w t).world (late_asked_of (take (length ends) (ran w t).late) ends)).world o)
          (agree_back (ran w t).world (world_seen s.now t) o (sees s job t h active phase o (owns_has t o e)));
      sources = tt;
    })

-- ---- late calls one after another
take_front : (front : List LateCall) (xs : List LateCall) (n : ℕ) → length front ≡ n → take n (front ++ xs) ≡ front
take_front [] xs zero e = refl
take_front [] xs (suc n) e = absurd (omega arith)
take_front (c ∷ front) xs zero e = absurd (omega arith)
take_front (c ∷ front) xs (suc n) e = ap (λ l. c ∷ l) (take_front front xs n (omega arith))

take_one : (front : List LateCall) (c : LateCall) (rest : List LateCall) (n : ℕ) → length front ≡ n → take (suc n) (front ++ c ∷ rest) ≡ front ++ c ∷ []
take_one [] c rest zero e = refl
take_one [] c rest (suc n) e = absurd (omega arith)
take_one (d ∷ front) c rest zero e = absurd (omega arith)
take_one (d ∷ front) c rest (suc n) e = ap (λ l. d ∷ l) (take_one front c rest n (omega arith))

late_asked_more : (front : List LateCall) (ends : List LateEnd) (c : LateCall) (e : LateEnd) → length front ≡ length ends
    → late_asked_of (front ++ c ∷ []) (ends ++ e ∷ []) ≡ late_asked_of front ends ++ (c, late_answer_of e) ∷ []
late_asked_more [] [] c e h = refl
late_asked_more [] (q ∷ ends) c e h = absurd (omega arith)
late_asked_more (d ∷ front) [] c e h = absurd (omega arith)
late_asked_more (d ∷ front) (q ∷ ends) c e h = ap (λ xs. (d, late_answer_of q) ∷ xs) (late_asked_more front ends c e (omega arith))

record MoreLate (w : World) (calls : List (LateCall × LateAnswer)) (c : LateCall) (a : LateAnswer) : Type 0 where
  world : (lates w (calls ++ (c, a) ∷ [])).world ≡ (late (lates w calls).world c a).world
  ends : (lates w (calls ++ (c, a) ∷ [])).ends ≡ (lates w calls).ends ++ (late (lates w calls).world c a).end ∷ []
  fits : lates_fit w (calls ++ (c, a) ∷ []) ≡ (lates_fit w calls && late_fits (lates w calls).world c a)

and_true : (b : Bool) → (b && true) ≡ b
and_true true = refl
and_true false = refl

and_assoc : (p q r : Bool) → (p && (q && r)) ≡ ((p && q) && r)
and_assoc true q r = refl
and_assoc false q r = refl

lates_more : (w : World) (calls : List (LateCall × LateAnswer)) (c : LateCall) (a : LateAnswer) → MoreLate w calls c a
lates_more w [] c a = record { world = refl; ends = refl; fits = and_true (late_fits w c a) }
lates_more w ((d, b) ∷ calls) c a =
    let x = (late w d b).world in
    let more = lates_more x calls c a in
    record {
      world = more.world;
      ends = ap (λ es. (late w d b).end ∷ es) more.ends;
      fits = ap (λ f. late_fits w d b && f) more.fits ∙ and_assoc (late_fits w d b) (lates_fit x calls) (late_fits (lates x calls).world c a);
    }

-- one of several
pub one_of : (P : LateCall → Type 0) (front : List LateCall) (c : LateCall) (rest : List LateCall) → All P (front ++ c ∷ rest) → P c
one_of P [] c rest h = All-head P c rest h
one_of P (d ∷ front) c rest h = one_of P front c rest (All-tail P d (front ++ c ∷ rest) h)

front_count : (front : List LateCall) (c : LateCall) (rest : List LateCall) → suc (length front) ≤ length (front ++ c ∷ rest)
front_count [] c rest = omega arith
front_count (d ∷ front) c rest = let more = front_count front c rest in omega (arith, more)

-- ---- a committing transaction
is_committing : (w : World) (t : Tx) → Inside w t → t.phase ≡ Committing → IsCommittingFlight w t
is_committing w t i phase = subst (IsPhase w t) phase i.phase

-- its late calls are those that its body left
pub ran_late : (w : World) (t : Tx) → Inside w t → t.phase ≡ Committing → (ran w t).late ≡ t.late
ran_late w t i phase =
    ap (λ (r : BodyResult). r.late) (ap (λ l. (runs_on t.number (stood w t) l).now) (is_committing w t i phase).all_noted) ∙ i.late

-- what it left so far is in the station
pub left_there : (s : FlightState) (job : ℕ) (t : Tx) → InFlight s → IsActive s job t → t.phase ≡ Committing
    → AgreeOn (Has t) (left s.state t Committing) s.now
left_there s job t h active phase o e =
    agree_back s.now (left s.state t Committing) o
    (now_left s job t h active Committing (subst (λ p. AgreeOn (Own t) (returned s.now t p) (left s.state t p)) phase
    (h.flights job t active).owns) o e)

-- ---- it does its next late call
module _ (s : FlightState) (job : ℕ) (t : Tx) (c : LateCall) (a : LateAnswer) (h : InFlight s) (active : IsActive s job t) (phase : t.phase ≡ Committing)
    (k : IsDoneLate s.now t c a) where
  inside : Inside s.state t
  inside = (h.flights job t active).inside

  committing : IsCommittingFlight s.state t
  committing = is_committing s.state t inside phase

  split : (ran s.state t).late ≡ k.front ++ c ∷ k.rest
  split = ran_late s.state t inside phase ∙ k.split

  -- the late calls with this one
  one_more : late_done s.state (with_end t (late s.now c a).end) ≡ late_done s.state t ++ (c, a) ∷ []
  one_more =
      let ls = (ran s.state t).late in
      let es = t.late_ends in
      let e = (late s.now c a).end in
      let first : take (length es) ls ≡ k.front = ap (take (length es)) split ∙ take_front k.front (c ∷ k.rest) (length es) k.done in
      ap (λ m. late_asked_of (take m ls) (es ++ e ∷ [])) (push_count es e) ∙ ap (λ l. late_asked_of (take (suc (length es)) l) (es ++ e ∷ [])) split
      ∙ ap (λ l. late_asked_of l (es ++ e ∷ [])) (take_one k.front c k.rest (length es) k.done) ∙ late_asked_more k.front es c e k.done
      ∙ ap (λ b. late_asked_of k.front es ++ (c, b) ∷ []) k.told ∙ ap (λ l. late_asked_of l es ++ (c, a) ∷ []) (sym first)

  there : AgreeOn (Has t) (left s.state t Committing) s.now
  there = left_there s job t h active phase

  speaks : LooksWithin (Has t) (Own t) c
  speaks = one_of (LooksWithin (Has t) (Own t)) k.front c k.rest (subst (All (LooksWithin (Has t) (Own t))) split (late_within s.state t inside.covers))

  agree : All (AgreeAt (left s.state t Committing) s.now) (late_objects c)
  agree = agreed (Has t) (left s.state t Committing) s.now (late_objects c) there (λ o at. All-contains (Has t) (late_objects c) o speaks.looks at)

  late_both : EndsAlike (late_objects c) (left s.state t Committing) s.now (late (left s.state t Committing) c a) (late s.now c a)
  late_both = late_alike (left s.state t Committing) s.now c a ((left_keeps s.state t inside Committing).blocks ∙ sym h.blocks) agree

  more : MoreLate (ran s.state t).world (late_done s.state t) c a
  more = lates_more (ran s.state t).world (late_done s.state t) c a

  late_inside : Inside s.state (with_end t (late s.now c a).end)
  late_inside =
      let i = inside in
      let p = committing in
      let x = (ran s.state t).world in
      record {
        new = i.new;
        fits = i.fits;
        replies = i.replies;
        me = i.me;
        late = i.late;
        trail = i.trail;
        taken = i.taken;
        covers = i.covers;
        phase = subst (IsPhase s.state (with_end t (late s.now c a).end)) (sym phase) (record {
          none = p.none;
          all_noted = p.all_noted;
          few = (let a1 = push_count t.late_ends
              (late s.now c a).end in let a2 = front_count k.front c k.rest in let a3 = k.done in let a4 = ap length k.split in omega (arith, a1, a2, a3, a4));
          ends = ap (λ l. (lates x l).ends) one_more ∙ more.ends ∙ ap₂ (λ es e. es ++ e ∷ []) p.ends late_both.end;
          fits = subst (λ l. IsTrue (lates_fit x l)) (sym one_more) (subst IsTrue (sym more.fits)
              (both_true (lates_fit x (late_done s.state t)) (late_fits (left s.state t Committing) c a) p.fits
              (subst IsTrue (sym (late_fits_alike (left s.state t Committing) s.now c a agree)) k.fit)));
        });
        saved = i.saved;
      }

  -- a late call keeps all
  pub does_late : InFlight (turned s job (Some (with_end t (late s.now c a).end)) (late s.now c a).world)
  does_late =
      let x = (ran s.state t).world in
      flight_goes_on s job t (with_end t (late s.now c a).end) (late s.now c a).world h active refl refl (late_keeps (Own t) s.now c a speaks.changes) (record {
        inside = late_inside;
        owns = subst (λ p. AgreeOn (Own t) (returned (late s.now c a).world (with_end t (late s.now c a).end) p)
            (left s.state (with_end t (late s.now c a).end) p)) (sym phase)
            (λ o e. let y = late (left s.state t Committing) c a in
            subst (λ v. AgreeAt (late s.now c a).world v o) (sym (ap (λ l. (lates x l).world) one_more ∙ more.world))
            (agree_back y.world (late s.now c a).world o (still_agree (Has t) (left s.state t Committing) s.now y.world (late s.now c a).world
            (late_objects c) late_both.worlds there o (owns_has t o e))));
        sources = subst (IsSourced s.state (late s.now c a).world (with_end t (late s.now c a).end)) (sym phase) tt;
      })

-- ---- a committed transaction whose late calls are all done enters
-- what it left is where its run leads
pub left_run : (w : World) (t : Tx) → Inside w t → t.phase ≡ Committing → length t.late_ends ≡ length t.late
    → left w t Committing ≡ after_commit w t
left_run w t i phase all =
    let same : ran w t ≡ noted w t = ap (λ l. (runs_on t.number (stood w t) l).now) (is_committing w t i phase).all_noted in
    let done : take (length t.late_ends) (ran w t).late ≡ (ran w t).late = take_all (length t.late_ends) (ran w t).late
    (let e = ap length (ran_late w t i phase) in omega (arith, e, all)) in
    ap (λ l. (lates (ran w t).world (late_asked_of l t.late_ends)).world) done ∙ ap
    (λ (r : BodyResult). (lates r.world (late_asked_of r.late t.late_ends)).world) same

-- it enters
pub commit_enters : (s : FlightState) (job : ℕ) (t : Tx) → InFlight s → IsActive s job t → t.phase ≡ Committing → length t.late_ends ≡ length t.late
    → InFlight (entered s job (after_commit s.state t) s.now)
commit_enters s job t h active phase all =
    let w = s.state in
    let f = h.flights job t active in
    subst (λ v. InFlight (entered s job v s.now)) (left_run w t f.inside phase all)
    (end_keeps s job t (left w t Committing) s.now h active (left_keeps w t f.inside Committing) (keeps_itself (Own t) s.now)
    (subst (λ q. AgreeOn (Own t) (returned s.now t q) (left w t q)) phase f.owns))
