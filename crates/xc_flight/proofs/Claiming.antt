-- A claim is granted; and what a call touches is nobody else's new object.
use Rattle.std.proofs.Common.{◌≡◌, ◌≢◌, ℕ, ◌⊎◌, inl, inr, ⊎_elim, Bool, true, false, ◌||◌, List, [], ◌∷◌, ◌++◌, Option, Some, None, sym, ◌∙◌, subst}
use Rattle.std.proofs.Common.{refl, arith}
use Rattle.std.specs.Prelude.{All, Contains, if◌then◌else◌}
use Rattle.std.specs.List.{cons_option}
use mathlib.Core.Logic.{dite}
use native.Mathlib.Decide.{ℕ_discrete}
use Rattle.std.proofs.lemmas.List.Elements.{All-weaker, All-head, All-tail, Contains-append_cases, Contains-append_left, Contains-append_right}
use Rattle.std.proofs.lemmas.List.Sums.{fold-append}
use Rattle.std.proofs.lemmas.Map.Views.{Contains-from_any}
use Rattle.xc_data.specs.declared.object.Object.{Object}
use Rattle.xc_data.specs.declared.object.Object.TheVariants as object
use Rattle.xc_data.specs.declared.claim.Claim.{Claim}
use Rattle.xc_data.specs.declared.claim.Mode.{Mode}
use Rattle.xc_data.specs.declared.claim.Mode.TheVariants.{Shared, Exclusive}
use Rattle.xc_data.specs.Claims.{is_object, is_exclusive, exclusive, compatible, objects, owned, holding, holding_one, held_of}
use Rattle.xc_world.specs.Laws.{AgreeAt}
use Rattle.xc_world.specs.Own.{IsNumbered, AgreeOn}
use Rattle.xc_world.proofs.Laws.{found, agree_on, keeps_itself, objects_append, owned_append, contains_object, held_seen, held_owned}
use Rattle.xc_data.proofs.Laws.{same_object}
use Rattle.xc_world.specs.Run.{BodyResult}
use Rattle.xc_world.specs.World.{World}
use Rattle.xc_flight.specs.Active.{Tx, Running, Has, Own, Covers, HoldTheSame, IsBelow, Saved}
use Rattle.xc_flight.specs.Flight.{ran, left, returned, IsPhase, stood, IsCopy, IsSaved, IsSourced}
use Rattle.xc_flight.specs.State.{FlightState, active_at, IsActive, HasSome, OwnSome, HasAt, OwnAt, InFlight, turned}
use Rattle.xc_flight.specs.Turns.{claiming, GoTogether, MayBeGranted, AreIndependent}
use Rattle.xc_flight.proofs.Basics.{own_decide, owns_has}
use Rattle.xc_flight.proofs.Frames.{left_keeps}
use Rattle.xc_flight.proofs.Moving.{has_it, own_it, it_owns}
use Rattle.xc_flight.proofs.Rows.{goes_on_with}
use Rattle.xc_flight.proofs.Calling.{is_running, covers_both}

-- ---- what a block's save kept stays its own
still_saved : (w : World) (t t' : Tx) → ((o : Object) → Own t o → Own t' o) → (b : Option BodyResult) (kept : Option Saved) → IsSaved w t.number t.held b kept
    → IsSaved w t'.number t'.held b kept
still_saved w t t' more None None so = tt
still_saved w t t' more (Some r) (Some kept) so =
    record {
      places = so.places;
      late = so.late;
      trail = so.trail;
      taken = so.taken;
      words = so.words;
      stored = All-weaker (λ (x : ℕ × ℕ). Own t (object.Word x.0)) (λ (x : ℕ × ℕ). Own t' (object.Word x.0)) (λ x e. more (object.Word x.0) e) kept.writes
          so.stored;
    }
still_saved w t t' more None (Some kept) so = absurd so
still_saved w t t' more (Some r) None so = absurd so

-- ---- what is held with new claims
pub front_held : (a b : List Claim) → Covers (a ++ b) a
front_held a b =
    record {
      objects = λ o at. subst (λ l. Contains l o) (sym (objects_append a b)) (Contains-append_left (objects a) (objects b) o at);
      owned = λ o at. subst (λ l. Contains l o) (sym (owned_append a b)) (Contains-append_left (owned a) (owned b) o at);
    }

-- claims cover those at their end
pub back_held : (a b : List Claim) → Covers (a ++ b) b
back_held a b =
    record {
      objects = λ o at. subst (λ l. Contains l o) (sym (objects_append a b)) (Contains-append_right (objects a) (objects b) o at);
      owned = λ o at. subst (λ l. Contains l o) (sym (owned_append a b)) (Contains-append_right (owned a) (owned b) o at);
    }

-- covering goes on
pub covers_through : (a b c : List Claim) → Covers a b → Covers b c → Covers a c
covers_through a b c p q = record { objects = λ o at. p.objects o (q.objects o at); owned = λ o at. p.owned o (q.owned o at) }

object_cases : (a b : List Claim) (o : Object) → Contains (objects (a ++ b)) o → Contains (objects a) o ⊎ Contains (objects b) o
object_cases a b o at = Contains-append_cases (objects a) (objects b) o (subst (λ l. Contains l o) (objects_append a b) at)

owned_cases : (a b : List Claim) (o : Object) → Contains (owned (a ++ b)) o → Contains (owned a) o ⊎ Contains (owned b) o
owned_cases a b o at = Contains-append_cases (owned a) (owned b) o (subst (λ l. Contains l o) (owned_append a b) at)

-- claims merged one after another hold the same as the list of them
one_after_another : (old claims : List Claim) → holding (held_of old) claims ≡ held_of (old ++ claims)
one_after_another old claims = sym (fold-append holding_one [] old claims)

held_covers : (claims : List Claim) → HoldTheSame (held_of claims) claims
held_covers claims =
    record {
      left = record { objects = λ o. (held_seen claims o).1; owned = λ o. (held_owned claims o).1 };
      right = record { objects = λ o. (held_seen claims o).0; owned = λ o. (held_owned claims o).0 };
    }

-- claims that are merged hold the same as the list of them
pub merged_held : (old claims : List Claim) → HoldTheSame (holding (held_of old) claims) (held_of old ++ claims)
merged_held old claims =
    let all = held_covers (old ++ claims) in
    let first = held_covers old in
    let merged = holding (held_of old) claims in
    record {
      left = covers_both merged (held_of old) claims (through_merge old claims (held_of old)
          (covers_through (old ++ claims) old (held_of old) (front_held old claims) first.right)) (through_merge old claims claims (back_held old claims));
      right = covers_through (held_of old ++ claims) (old ++ claims) merged
          (covers_both (held_of old ++ claims) old claims (covers_through (held_of old ++ claims) (held_of old) old
          (front_held (held_of old) claims) first.left) (back_held (held_of old) claims))
          (subst (Covers (old ++ claims)) (sym (one_after_another old claims)) all.right);
    }
  where
    through_merge : (old claims some : List Claim) → Covers (old ++ claims) some → Covers (holding (held_of old) claims) some
    through_merge old claims some c = subst (λ l. Covers l some) (sym (one_after_another old claims))
        (covers_through (held_of (old ++ claims)) (old ++ claims) some (held_covers (old ++ claims)).left c)

-- ---- claims that go together
in_list : (os : List Object) (o : Object) → contains_object os o ≡ true → Contains os o
in_list os o e = Contains-from_any same_object o os e

-- of each claim on an object
of_object : (P : Claim → Type 0) (cs : List Claim) (o : Object) (Q : Type 0) → All P cs → Contains (objects cs) o → ((c : Claim) → P c → c.object ≡ o → Q) → Q
of_object P [] o Q all at f = (let lt = at.1 in absurd (omega (arith, lt)))
of_object P (c ∷ cs) o Q all at f = first_or_later (is_object o c.object) refl (found (objects (c ∷ cs)) o at)
    (λ later. of_object P cs o Q (All-tail P c cs all) (in_list (objects cs) o later) f)
  where
    first_or_later : (b : Bool) → is_object o c.object ≡ b → (b || contains_object (objects cs) o) ≡ true → (contains_object (objects cs) o ≡ true → Q) → Q
    first_or_later true e is later = f c (All-head P c cs all) (sym (same_object o c.object e))
    first_or_later false e is later = later is

of_owned : (P : Claim → Type 0) (cs : List Claim) (o : Object) (Q : Type 0) → All P cs → Contains (owned cs) o
    → ((c : Claim) → P c → c.object ≡ o → exclusive c ≡ true → Q) → Q
of_owned P [] o Q all at f = (let lt = at.1 in absurd (omega (arith, lt)))
of_owned P (c ∷ cs) o Q all at f = by_mode (exclusive c) refl (found (owned (c ∷ cs)) o at)
    (λ later. of_owned P cs o Q (All-tail P c cs all) (in_list (owned cs) o later) f)
  where
    first_or_later : (b : Bool) → exclusive c ≡ true → is_object o c.object ≡ b → (b || contains_object (owned cs) o) ≡ true
        → (contains_object (owned cs) o ≡ true → Q) → Q
    first_or_later true x e is later = f c (All-head P c cs all) (sym (same_object o c.object e)) x
    first_or_later false x e is later = later is

    by_mode : (b : Bool) → exclusive c ≡ b → contains_object (cons_option (if b then Some c.object else None) (owned cs)) o ≡ true
        → (contains_object (owned cs) o ≡ true → Q) → Q
    by_mode true x is later = first_or_later (is_object o c.object) x refl is later
    by_mode false x is later = later is

apart_modes : (m n : Mode) → compatible m n ≡ true → (is_exclusive m ≡ true) ⊎ (is_exclusive n ≡ true) → ⊥
apart_modes Shared Shared e (inl x) = cc x
apart_modes Shared Shared e (inr x) = cc x
apart_modes Shared Exclusive e x = cc e
apart_modes Exclusive Shared e x = cc e
apart_modes Exclusive Exclusive e x = cc e

-- two claims on one object that go together are in compatible modes
goes_with : (c d : Claim) → GoTogether c d → d.object ≡ c.object → compatible c.mode d.mode ≡ true
goes_with c d lacks same = by_test (compatible c.mode d.mode) refl
  where
    by_test : (b : Bool) → compatible c.mode d.mode ≡ b → b ≡ true
    by_test true e = refl
    by_test false e = absurd (lacks (same, e))

-- ---- a running transaction takes claims that are granted
module _ (s : FlightState) (job : ℕ) (t : Tx) (claims held : List Claim) (h : InFlight s) (active : IsActive s job t)
    (granted : All (MayBeGranted s job) claims)
    (same : HoldTheSame held (t.held ++ claims)) where
  still_held : Covers held t.held
  still_held = covers_through held (t.held ++ claims) t.held same.left (front_held t.held claims)

  has_more : (o : Object) → Has t o → Has (claiming t held) o
  has_more o (inl at) = inl (still_held.objects o at)
  has_more o (inr numbered) = inr numbered

  own_more : (o : Object) → Own t o → Own (claiming t held) o
  own_more o (inl at) = inl (still_held.owned o at)
  own_more o (inr numbered) = inr numbered

  has_before : (o : Object) → Has (claiming t held) o → Has t o ⊎ Contains (objects claims) o
  has_before o (inl at) = ⊎_elim (λ (x : Contains (objects t.held) o). inl (inl x)) (λ (x : Contains (objects claims) o). inr x)
      (object_cases t.held claims o (same.right.objects o at))
  has_before o (inr numbered) = inl (inr numbered)

  own_before : (o : Object) → Own (claiming t held) o → Own t o ⊎ Contains (owned claims) o
  own_before o (inl at) = ⊎_elim (λ (x : Contains (owned t.held) o). inl (inl x)) (λ (x : Contains (owned claims) o). inr x)
      (owned_cases t.held claims o (same.right.owned o at))
  own_before o (inr numbered) = inl (inr numbered)

  -- no other has what is claimed exclusively
  new_owned : (j : ℕ) (u : Tx) (o : Object) → j ≢ job → IsActive s j u → Contains (owned claims) o → Has u o → ⊥
  new_owned j u o ne other at (inl holds) =
      of_owned (MayBeGranted s job) claims o ⊥ granted at (λ c g one x.
      of_object (GoTogether c) u.held o ⊥ (g.together j u ne other) holds (λ d k e. apart_modes c.mode d.mode (goes_with c d k (e ∙ sym one)) (inl x)))
  new_owned j u o ne other at (inr numbered) =
      of_owned (MayBeGranted s job) claims o ⊥ granted at (λ c g one x. g.object.foreign j u ne other (subst (IsNumbered u.number) (sym one) numbered))

  -- and no other owns what is claimed
  new_held : (j : ℕ) (u : Tx) (o : Object) → j ≢ job → IsActive s j u → Contains (objects claims) o → Own u o → ⊥
  new_held j u o ne other at (inl holds) =
      of_object (MayBeGranted s job) claims o ⊥ granted at (λ c g one.
      of_owned (GoTogether c) u.held o ⊥ (g.together j u ne other) holds (λ d k e x. apart_modes c.mode d.mode (goes_with c d k (e ∙ sym one)) (inr x)))
  new_held j u o ne other at (inr numbered) =
      of_object (MayBeGranted s job) claims o ⊥ granted at (λ c g one. g.object.foreign j u ne other (subst (IsNumbered u.number) (sym one) numbered))

  gains : (j : ℕ) (o : Object) → j ≢ job → Own (claiming t held) o → HasAt s j o → ⊥
  gains j o ne e q = by_tx (active_at s j) refl q
    where
      by_tx : (x : Option Tx) → active_at s j ≡ x → HasSome x o → ⊥
      by_tx None is q = q
      by_tx (Some u) is q = ⊎_elim (λ (old : Own t o). h.apart job j o (λ z. ne (sym z)) (own_it s job t o active old) (has_it s j u o is q))
          (λ (new : Contains (owned claims) o). new_owned j u o ne is new q) (own_before o e)

  joins : (j : ℕ) (o : Object) → j ≢ job → Has (claiming t held) o → OwnAt s j o → ⊥
  joins j o ne e q = by_tx (active_at s j) refl q
    where
      by_tx : (x : Option Tx) → active_at s j ≡ x → OwnSome x o → ⊥
      by_tx None is q = q
      by_tx (Some u) is q = ⊎_elim (λ (old : Has t o). h.apart j job o ne (own_it s j u o is q) (has_it s job t o active old))
          (λ (new : Contains (objects claims) o). new_held j u o ne is new q) (has_before o e)

  names : (o : Object) → Has (claiming t held) o → IsBelow s.next o
  names o e = ⊎_elim (λ (old : Has t o). h.names job o (has_it s job t o active old))
      (λ (new : Contains (objects claims) o). of_object (MayBeGranted s job) claims o (IsBelow s.next o) granted new
      (λ c g one. subst (IsBelow s.next) one g.object.below)) (has_before o e)

  -- nobody owned what it owns from now on
  unowned : (o : Object) (j : ℕ) → j ≢ job → Contains (owned claims) o → OwnAt s j o → ⊥
  unowned o j ne new e = by_tx (active_at s j) refl e
    where
      by_tx : (x : Option Tx) → active_at s j ≡ x → OwnSome x o → ⊥
      by_tx None is q = q
      by_tx (Some u) is q = new_owned j u o ne is new (owns_has u o q)

  was_free : (o : Object) → (Own t o → ⊥) → Contains (owned claims) o → AgreeAt s.now s.state o
  was_free o lacks new =
      h.free o (λ j e. dite (ℕ_discrete j job) (λ (q : j ≡ job). lacks (it_owns s job t o active (subst (λ k. OwnAt s k o) q e)))
      (λ (ne : j ≢ job). unowned o j ne new e))

  -- granted claims keep all
  pub claims_keep : t.phase ≡ Running → InFlight (turned s job (Some (claiming t held)) s.now)
  claims_keep phase =
      let w = s.state in
      let t' = claiming t held in
      let f = h.flights job t active in
      let i = f.inside in
      let p = is_running s job t h active phase in
      let owns : AgreeOn (Own t) s.now (left w t Running) = subst (λ q. AgreeOn (Own t) (returned s.now t q) (left w t q)) phase f.owns in
      goes_on_with s job t t' s.now h active (record { same = refl; own = own_more; gains = gains; joins = joins; names = names })
      (keeps_itself (Own t) s.now) (record {
        inside = record {
          new = i.new;
          fits = i.fits;
          replies = i.replies;
          me = i.me;
          late = i.late;
          trail = i.trail;
          taken = i.taken;
          covers = covers_through t'.held t.held (ran w t).touched still_held i.covers;
          phase = subst (IsPhase w t') (sym phase) (record {
            none = p.none;
            all_noted = p.all_noted;
            no_late_ends = p.no_late_ends;
            words = p.words;
            stored = All-weaker (λ (x : ℕ × ℕ). Own t (object.Word x.0)) (λ (x : ℕ × ℕ). Own t' (object.Word x.0))
                (λ x e. own_more (object.Word x.0) e) t.writes p.stored;
          });
          saved = still_saved w t t' own_more (stood w t).saved t.saved i.saved;
        };
        owns = subst (λ q. AgreeOn (Own t') (returned s.now t' q) (left w t' q)) (sym phase)
            (λ o e. ⊎_elim (λ (own : Own t o). owns o own)
            (λ (lacks : Own t o → ⊥). agree_on s.now w (left w t Running) o (was_free o lacks
            (⊎_elim (λ (own : Own t o). absurd (lacks own)) (λ (new : Contains (owned claims) o). new) (own_before o e)))
            ((left_keeps w t i Running).others o lacks)) (own_decide t o));
        sources = subst (IsSourced w s.now t') (sym phase) tt;
      })

-- ---- claims of two transactions that go together
one_number : (m n : ℕ) (o : Object) → IsNumbered m o → IsNumbered n o → m ≡ n
one_number m n (object.File q) a b = sym a ∙ b
one_number m n (object.Pipe q) a b = sym a ∙ b
one_number m n (object.Pair q) a b = sym a ∙ b
one_number m n (object.Word at) a b = absurd a
one_number m n (object.Name name) a b = absurd a
one_number m n object.Jobs a b = absurd a

-- what one of them owns the other has not
pub claims_apart : (t u : Tx) → AreIndependent t u → (o : Object) → Own t o → Has u o → ⊥
claims_apart t u k o (inl a) (inl b) =
    of_owned (λ c. All (GoTogether c) u.held) t.held o ⊥ k.together a (λ c together one x.
    of_object (GoTogether c) u.held o ⊥ together b (λ d go e. apart_modes c.mode d.mode (goes_with c d go (e ∙ sym one)) (inl x)))
claims_apart t u k o (inl a) (inr b) = k.foreign o (owns_has t o (inl a)) b
claims_apart t u k o (inr a) (inl b) = k.foreign_too o (inl b) a
claims_apart t u k o (inr a) (inr b) = k.numbers (one_number t.number u.number o a b)
