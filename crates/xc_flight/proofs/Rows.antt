-- A transaction begins, goes on, claims or ends.
use Rattle.std.proofs.Common.{◌≡◌, ◌≢◌, ℕ, ◌+◌, ◌<◌, ◌≤◌, inl, inr, List, [], ◌∷◌, ◌++◌, zero, suc, Option, Some, None, get_or, ap, sym, ◌∙◌, subst}
use Rattle.std.proofs.Common.{refl, arith}
use Rattle.std.specs.Prelude.{slice_set, length}
use Rattle.std.proofs.lemmas.List.Elements.{All-nil}
use Rattle.xc_data.specs.declared.object.Object.{Object}
use Rattle.xc_data.specs.declared.object.Object.TheVariants as object
use Rattle.xc_data.specs.declared.private.Private.{Private}
use Rattle.xc_data.specs.Claims.{owned}
use Rattle.xc_world.specs.World.{World}
use Rattle.xc_world.specs.Sound.{IsFree}
use Rattle.xc_world.specs.Laws.{AgreeAt}
use Rattle.xc_world.specs.Own.{IsNumbered, Sees, Owns, KeepsBut, AgreeOn}
use Rattle.xc_world.proofs.Laws.{agree_itself, keeps_itself, keeps_more}
use Rattle.xc_flight.specs.Active.{Tx, Has, Own, num, IsBelow}
use Rattle.xc_flight.specs.Flight.{Inside, Flight}
use Rattle.xc_flight.specs.State.{FlightState, active_at, IsActive, HasSome, OwnSome, HasAt, OwnAt, InFlight, turned, entered}
use Rattle.xc_flight.specs.Turns.{starting}
use Rattle.xc_flight.proofs.Basics.{owns_has}
use Rattle.xc_flight.proofs.Moving.{move_keeps, has_it, own_it, it_has, it_owns, own_at_has, active_set_same, active_set_other, is_inside, one_active}

numbered_low : (n next : ℕ) (o : Object) → n < next → IsNumbered n o → IsBelow next o
numbered_low n next (object.File q) lt e = omega (arith, lt, e)
numbered_low n next (object.Pipe q) lt e = omega (arith, lt, e)
numbered_low n next (object.Pair q) lt e = omega (arith, lt, e)
numbered_low n next (object.Word at) lt e = tt
numbered_low n next (object.Name name) lt e = tt
numbered_low n next object.Jobs lt e = tt

not_below : (n next : ℕ) (o : Object) → next ≤ n → IsBelow next o → IsNumbered n o → ⊥
not_below n next (object.File q) le lt e = omega (arith, le, lt, e)
not_below n next (object.Pipe q) le lt e = omega (arith, le, lt, e)
not_below n next (object.Pair q) le lt e = omega (arith, le, lt, e)
not_below n next (object.Word at) le lt e = e
not_below n next (object.Name name) le lt e = e
not_below n next object.Jobs le lt e = e

-- ---- the job's active transaction is another one now, or has changed
module _ (s : FlightState) (job : ℕ) (t t' : Tx) (now' : World) (h : InFlight s) (active : IsActive s job t) where
  in_list : job < length s.active
  in_list = is_inside s.active job t active

  -- what it has and owns grows, and goes together with what the others have and own
  pub record OwnsMore : Type 0 where
    pub same : t'.number ≡ t.number
    pub own : (o : Object) → Own t o → Own t' o
    pub gains : (j : ℕ) (o : Object) → j ≢ job → Own t' o → HasAt s j o → ⊥
    pub joins : (j : ℕ) (o : Object) → j ≢ job → Has t' o → OwnAt s j o → ⊥
    pub names : (o : Object) → Has t' o → IsBelow s.next o

  -- it goes on, and has and owns more
  pub goes_on_with : OwnsMore → KeepsBut (Own t) s.now now' → Flight s.state now' t' → InFlight (turned s job (Some t') now')
  goes_on_with g keeps flight =
      let is : active_at (turned s job (Some t') now') job ≡ Some t' = active_set_same s.active job (Some t') in_list in
      let becomes : (u : Tx) → IsActive (turned s job (Some t') now') job u → t' ≡ u = λ u e. one_active (turned s job (Some t') now') job t' u is e in
      move_keeps s (turned s job (Some t') now') job h (record {
        state = keeps_itself (OwnAt s job) s.state;
        now = keeps_more (Own t) (OwnAt s job) s.now now' (λ o e. own_it s job t o active e) keeps;
        others = λ j ne. active_set_other s.active job j (Some t') ne;
        mine = λ u e. subst (Flight s.state now') (becomes u e) flight;
        gains = λ j o ne e q. g.gains j o ne (it_owns (turned s job (Some t') now') job t' o is e) q;
        joins = λ j o ne e q. g.joins j o ne (it_has (turned s job (Some t') now') job t' o is e) q;
        free = λ o e lacks. absurd (lacks (own_it (turned s job (Some t') now') job t' o is (g.own o (it_owns s job t o active e))));
        single = λ j v u ne a b e. ne (h.single j job v t a active (e ∙ sym (ap (λ (x : Tx). x.number) (becomes u b)) ∙ g.same));
        begun = λ u e. subst (λ n. n < s.next) (sym g.same ∙ ap (λ (x : Tx). x.number) (becomes u e)) (h.begun job t active);
        names = λ o e. g.names o (it_has (turned s job (Some t') now') job t' o is e);
        rises = omega arith;
        future = h.future;
      })

  -- it has and owns the same as before
  pub flight_goes_on : t'.number ≡ t.number → t'.held ≡ t.held → KeepsBut (Own t) s.now now' → Flight s.state now' t' → InFlight (turned s job (Some t') now')
  flight_goes_on number held keeps flight =
      let has : (o : Object) → Has t' o → Has t o = λ o e. subst (λ n. Sees n t.held o) number (subst (λ c. Sees t'.number c o) held e) in
      let own : (o : Object) → Own t' o → Own t o = λ o e. subst (λ n. Owns n t.held o) number (subst (λ c. Owns t'.number c o) held e) in
      goes_on_with (record {
        same = number;
        own = λ o e. subst (λ n. Owns n t'.held o) (sym number) (subst (λ c. Owns t.number c o) (sym held) e);
        gains = λ j o ne e q. h.apart job j o (λ z. ne (sym z)) (own_it s job t o active (own o e)) q;
        joins = λ j o ne e q. h.apart j job o ne q (has_it s job t o active (has o e));
        names = λ o e. h.names job o (has_it s job t o active (has o e));
      }) keeps flight

-- ---- it ends: what it owned is as the new state says
pub end_keeps : (s : FlightState) (job : ℕ) (t : Tx) (state now : World) → InFlight s → IsActive s job t → KeepsBut (Own t) s.state state
    → KeepsBut (Own t) s.now now → AgreeOn (Own t) now state
    → InFlight (entered s job state now)
end_keeps s job t state now h active model host owned =
    let s' = entered s job state now in
    let none : active_at s' job ≡ None = active_set_same s.active job None (is_inside s.active job t active) in
    let nobody : (u : Tx) → IsActive s' job u → ⊥ = λ u e. cc (none, e) in
    let away : (o : Object) → (IsBelow s.next o → ⊥) → AgreeAt s.state state o = λ o far. model.others o
    (λ e. far (h.names job o (has_it s job t o active (owns_has t o e)))) in
    move_keeps s s' job h (record {
      state = keeps_more (Own t) (OwnAt s job) s.state state (λ o e. own_it s job t o active e) model;
      now = keeps_more (Own t) (OwnAt s job) s.now now (λ o e. own_it s job t o active e) host;
      others = λ j ne. active_set_other s.active job j None ne;
      mine = λ u e. absurd (nobody u e);
      gains = λ j o ne e q. subst (λ x. OwnSome x o) none e;
      joins = λ j o ne e q. subst (λ x. HasSome x o) none e;
      free = λ o e lacks. owned o (it_owns s job t o active e);
      single = λ j u v ne a b e. nobody v b;
      begun = λ u e. absurd (nobody u e);
      names = λ o e. absurd (subst (λ x. HasSome x o) none e);
      rises = omega arith;
      future = λ m k le. (let f = h.future m k le in record {
        file = sym (away (object.File (num m k)) (λ lt. omega (arith, lt, le))) ∙ f.file;
        pipe = sym (away (object.Pipe (num m k)) (λ lt. omega (arith, lt, le))) ∙ f.pipe;
        pair = sym (away (object.Pair (num m k)) (λ lt. omega (arith, lt, le))) ∙ f.pair;
      });
    })

-- ---- it begins
starts_inside : (w : World) (n : ℕ) (began : Private) → ((k : ℕ) → IsFree w (num n k)) → Inside w (starting n began)
starts_inside w n began new =
    record {
      new = new;
      fits = refl;
      replies = refl;
      me = refl;
      late = refl;
      trail = refl;
      taken = refl;
      covers = record { objects = λ o at. at; owned = λ o at. at };
      phase = record {
        none = refl;
        all_noted = refl;
        no_late_ends = refl;
        words = refl;
        stored = All-nil
            (λ (s : ℕ × ℕ). Own (starting n began) (object.Word s.0));
      };
      saved = tt;
    }

none_held : (n : ℕ) (began : Private) (o : Object) → Has (starting n began) o → IsNumbered n o
none_held n began o (inl at) = (let lt = at.1 in absurd (omega arith))
none_held n began o (inr numbered) = numbered

none_owned : (n : ℕ) (began : Private) (o : Object) → Own (starting n began) o → IsNumbered n o
none_owned n began o e = none_held n began o (owns_has (starting n began) o e)

-- a begin keeps all
pub begin_keeps : (s : FlightState) (job : ℕ) (began : Private) → InFlight s → job < length s.active → active_at s job ≡ None
    → InFlight (record s { active = slice_set s.active job (Some (starting s.next began)); next = s.next + 1 })
begin_keeps s job began h lt idle =
    let t = starting s.next began in
    let s' = record s { active = slice_set s.active job (Some t); next = s.next + 1 } in
    let is : active_at s' job ≡ Some t = active_set_same s.active job (Some t) lt in
    let becomes : (u : Tx) → IsActive s' job u → t ≡ u = λ u e. one_active s' job t u is e in
    let unowned : (o : Object) → OwnAt s job o → ⊥ = λ o e. subst (λ x. OwnSome x o) idle e in
    let unseen : (o : Object) (j : ℕ) → IsNumbered s.next o → HasAt s j o → ⊥ = λ o j e q. not_below s.next s.next o (omega arith) (h.names j o q) e in
    let flight : Flight s.state s.now t = record {
      inside = starts_inside s.state s.next began (λ k. h.future s.next k (omega arith));
      owns = λ o e. h.free o (λ j q. unseen o j (none_owned s.next began o e) (own_at_has s j o q));
      sources = tt;
    } in
    move_keeps s s' job h (record {
      state = keeps_itself (OwnAt s job) s.state;
      now = keeps_itself (OwnAt s job) s.now;
      others = λ j ne. active_set_other s.active job j (Some t) ne;
      mine = λ u e. subst (Flight s.state s.now) (becomes u e) flight;
      gains = λ j o ne e q. unseen o j (none_owned s.next began o (it_owns s' job t o is e)) q;
      joins = λ j o ne e q. unseen o j (none_held s.next began o (it_has s' job t o is e)) (own_at_has s j o q);
      free = λ o e lacks. absurd (unowned o e);
      single = λ j u v ne a b e. (let low = h.begun j u a in let n = ap (λ (x : Tx). x.number) (becomes v b) in omega (arith, low, n, e));
      begun = λ u e. (let n = ap (λ (x : Tx). x.number) (becomes u e) in omega (arith, n));
      names = λ o e. numbered_low s.next (s.next + 1) o (omega arith) (none_held s.next began o (it_has s' job t o is e));
      rises = omega arith;
      future = λ m k le. h.future m k (omega (arith, le));
    })

-- ---- the start: nobody is active, and the station's world is the opening
pub starts : (s : FlightState) → ((job : ℕ) → active_at s job ≡ None) → s.now ≡ s.state → ((m k : ℕ) → s.next ≤ m → IsFree s.state (num m k)) → InFlight s
starts s idle same free =
    record {
      count = ap (λ (w : World). length w.words) same;
      blocks = ap (λ (w : World). w.blocks) same;
      flights = λ j t e. absurd (cc (idle j, e));
      apart = λ i j o ne e q. subst (λ x. OwnSome x o) (idle i) e;
      free = λ o nobody. subst (λ w. AgreeAt w s.state o) (sym same) (agree_itself s.state o);
      single = λ i j t u a b e. absurd (cc (idle i, a));
      begun = λ j t e. absurd (cc (idle j, e));
      names = λ j o e. absurd (subst (λ x. HasSome x o) (idle j) e);
      future = free;
    }

-- ---- a job more, which has none
get_push : (xs : List (Option Tx)) (j : ℕ) → get_or (xs ++ None ∷ []) j None ≡ get_or xs j None
get_push [] zero = refl
get_push [] (suc j) = refl
get_push (x ∷ xs) zero = refl
get_push (x ∷ xs) (suc j) = get_push xs j

-- a job more changes nothing
pub one_job_more : (s : FlightState) → InFlight s → InFlight (record s { active = s.active ++ None ∷ [] })
one_job_more s h =
    let s' = record s { active = s.active ++ None ∷ [] } in
    let same : (j : ℕ) → active_at s' j ≡ active_at s j = λ j. get_push s.active j in
    let has : (j : ℕ) (o : Object) → HasAt s' j o → HasAt s j o = λ j o e. subst (λ x. HasSome x o) (same j) e in
    let own : (j : ℕ) (o : Object) → OwnAt s' j o → OwnAt s j o = λ j o e. subst (λ x. OwnSome x o) (same j) e in
    let was : (j : ℕ) (t : Tx) → IsActive s' j t → IsActive s j t = λ j t e. sym (same j) ∙ e in
    record {
      count = h.count;
      blocks = h.blocks;
      flights = λ j t e. h.flights j t (was j t e);
      apart = λ i j o ne e q. h.apart i j o ne (own i o e) (has j o q);
      free = λ o nobody. h.free o (λ j e. nobody j (subst (λ x. OwnSome x o) (sym (same j)) e));
      single = λ i j t u a b e. h.single i j t u (was i t a) (was j u b) e;
      begun = λ j t e. h.begun j t (was j t e);
      names = λ j o e. h.names j o (has j o e);
      future = h.future;
    }
