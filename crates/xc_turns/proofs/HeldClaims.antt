-- What is held after more claims: nothing twice, nothing weaker, and nothing but what was held or claimed.
use Rattle.std.proofs.Common.{◌≡◌, ◌+◌, ◌≤◌, ◌||◌, inl, inr, Bool, true, false, cond, List, [], ◌∷◌, ◌++◌, refl, ap, ap₂, sym, ◌∙◌, subst, arith}
use Rattle.std.specs.Prelude.{All, Contains, map, count_by, if◌then◌else◌}
use Rattle.std.proofs.lemmas.Bool.{or_parts}
use Rattle.std.proofs.lemmas.List.Sums.{sum_by-append}
use Rattle.std.proofs.lemmas.List.Elements.{All-append, All-map, All-weaker, All-cons, All-nil, All-head, All-tail, Contains-append_left}
use Rattle.std.proofs.lemmas.List.Elements.{Contains-append_right, Contains-append_cases}
use Rattle.xc_data.specs.declared.object.Object.{Object}
use Rattle.xc_data.specs.declared.claim.Mode.{Mode}
use Rattle.xc_data.specs.declared.claim.Mode.TheVariants.{Shared, Exclusive}
use Rattle.xc_data.specs.declared.claim.Claim.{Claim}
use Rattle.xc_data.specs.Claims.{is_object, objects, compatible, stronger, merged, holding_one, holding, AreOnceAtMost}
use Rattle.xc_world.proofs.Laws.{objects_append, contains_object}
use Rattle.xc_data.proofs.Laws.{same_object}
use Rattle.xc_turns.proofs.Lists.{contains_first, contains_later, contains_cons, contains_map}

-- ---- modes
-- which of two claims goes together with the other doesn't matter
pub either_way : (m n : Mode) → compatible m n ≡ compatible n m
either_way Shared Shared = refl
either_way Shared Exclusive = refl
either_way Exclusive Shared = refl
either_way Exclusive Exclusive = refl

-- what doesn't go together with a mode doesn't with a stronger one
clash_with_stronger : (k m n : Mode) → compatible k m ≡ false → compatible k (stronger m n) ≡ false
clash_with_stronger Shared Shared n e = cc
clash_with_stronger Shared Exclusive n e = refl
clash_with_stronger Exclusive m n e = refl

-- what goes together with two modes does with the stronger one
goes_with_stronger : (m n k : Mode) → compatible m k ≡ true → compatible n k ≡ true → compatible (stronger m n) k ≡ true
goes_with_stronger Shared n k e f = f
goes_with_stronger Exclusive n k e f = e

-- ---- nothing is weaker
-- on the same object, and what doesn't go together with the one doesn't with the other
pub record IsAsStrong (c d : Claim) : Type 0 where
  pub object : d.object ≡ c.object
  pub mode : (k : Mode) → compatible k c.mode ≡ false → compatible k d.mode ≡ false

-- each claim of one list has one in the other that is no weaker
pub record AreCovered (held held' : List Claim) : Type 0 where
  pub each : (c : Claim) → Contains held c → (d : Claim) × Contains held' d × IsAsStrong c d

-- a claim by itself
pub covered_itself : (c : Claim) → IsAsStrong c c
covered_itself c = record { object = refl; mode = λ k e. e }

-- the same claims
pub covered_same : (held held' : List Claim) → held' ≡ held → AreCovered held held'
covered_same held held' e = record { each = λ c at. (c, subst (λ (h : List Claim). Contains h c) (sym e) at, covered_itself c) }

covered_merged : (new h : Claim) → IsAsStrong h (merged new h)
covered_merged new h = by_test (is_object new.object h.object)
  where
    by_test : (b : Bool) → IsAsStrong h (if b then record h { mode = stronger h.mode new.mode } else h)
    by_test true = record { object = refl; mode = λ k e. clash_with_stronger k h.mode new.mode e }
    by_test false = covered_itself h

covered_one : (held : List Claim) (new : Claim) → AreCovered held (holding_one held new)
covered_one held new = by_test (contains_object (objects held) new.object)
  where
    merges : (c : Claim) → Contains held c → (d : Claim) × Contains (map (merged new) held) d × IsAsStrong c d
    merges c at = (merged new c, contains_map (merged new) held c at, covered_merged new c)

    by_test : (b : Bool) → AreCovered held (if b then map (merged new) held else held ++ new ∷ [])
    by_test true = record { each = merges }
    by_test false = record { each = λ c at. (c, Contains-append_left held (new ∷ []) c at, covered_itself c) }

covered_then : (a b c : Claim) → IsAsStrong a b → IsAsStrong b c → IsAsStrong a c
covered_then a b c f g = record { object = g.object ∙ f.object; mode = λ k e. g.mode k (f.mode k e) }

covered_both : (a b c : List Claim) → AreCovered a b → AreCovered b c → AreCovered a c
covered_both a b c f g = record { each = each }
  where
    each : (x : Claim) → Contains a x → (z : Claim) × Contains c z × IsAsStrong x z
    each x at =
        let one = f.each x at in
        let more = g.each one.0 one.1 in
        (more.0, more.1, covered_then x one.0 more.0 one.2 more.2)

-- after more claims nothing that is held is weaker
pub covered_all : (held claims : List Claim) → AreCovered held (holding held claims)
covered_all held [] = covered_same held held refl
covered_all held (new ∷ claims) =
    covered_both held (holding_one held new) (holding (holding_one held new) claims) (covered_one held new) (covered_all (holding_one held new) claims)

-- ---- each new claim is held
clash_with_new : (k m n : Mode) → compatible k n ≡ false → compatible k (stronger m n) ≡ false
clash_with_new k Shared n e = e
clash_with_new Shared Exclusive n e = refl
clash_with_new Exclusive Exclusive n e = refl

merged_covers : (new h : Claim) → is_object new.object h.object ≡ true → IsAsStrong new (merged new h)
merged_covers new h e =
    subst (IsAsStrong new) (sym (ap (λ (b : Bool). if b then record h { mode = stronger h.mode new.mode } else h) e))
    (record { object = sym (same_object new.object h.object e); mode = λ k clash. clash_with_new k h.mode new.mode clash })

new_among : (new : Claim) (held : List Claim) → contains_object (objects held) new.object ≡ true
    → (d : Claim) × Contains (map (merged new) held) d × IsAsStrong new d
new_among new [] e = cc
new_among new (h ∷ held) e = by_test (new_among new held) (is_object new.object h.object) refl
  where
    by_test : (contains_object (objects held) new.object ≡ true → (d : Claim) × Contains (map (merged new) held) d × IsAsStrong new d)
        → (b : Bool) → is_object new.object h.object ≡ b → (d : Claim) × Contains (map (merged new) (h ∷ held)) d × IsAsStrong new d
    by_test behind true is = (merged new h, contains_first (merged new h) (map (merged new) held), merged_covers new h is)
    by_test behind false is =
        let later = behind (sym (ap (λ b. b || contains_object (objects held) new.object) is) ∙ e) in
        (later.0, contains_later (merged new h) (map (merged new) held) later.0 later.1, later.2)

covered_new : (held : List Claim) (new : Claim) → (d : Claim) × Contains (holding_one held new) d × IsAsStrong new d
covered_new held new = by_test (contains_object (objects held) new.object) refl
  where
    by_test : (b : Bool) → contains_object (objects held) new.object ≡ b
        → (d : Claim) × Contains (if b then map (merged new) held else held ++ new ∷ []) d × IsAsStrong new d
    by_test true e = new_among new held e
    by_test false e = (new, Contains-append_right held (new ∷ []) new (contains_first new []), covered_itself new)

-- after more claims each of them is held
pub claims_covered : (held claims : List Claim) → AreCovered claims (holding held claims)
claims_covered held claims = record { each = each held claims }
  where
    each : (held claims : List Claim) (c : Claim) → Contains claims c → (d : Claim) × Contains (holding held claims) d × IsAsStrong c d
    each held [] c at = absurd (omega (arith, at.1))
    each held (new ∷ claims) c at =
        elim (contains_cons new claims c at) [
          | inl here ↦
              let one = covered_new held new in
              let more = (covered_all (holding_one held new) claims).each one.0 one.1 in
              (more.0, more.1, subst (λ (x : Claim). IsAsStrong x more.0) here (covered_then new one.0 more.0 one.2 more.2))
          | inr later ↦ each (holding_one held new) claims c later
        ]

-- of two lists
pub covered_parts : (a b c : List Claim) → AreCovered a c → AreCovered b c → AreCovered (a ++ b) c
covered_parts a b c f g = record {
  each = λ x at. elim (Contains-append_cases a b x at) [
    | inl first ↦ f.each x first
    | inr second ↦ g.each x second
  ];
}

-- in a longer list
pub covered_front : (a b more : List Claim) → AreCovered a b → AreCovered a (b ++ more)
covered_front a b more f = record { each = λ x at. let y = f.each x at in (y.0, Contains-append_left b more y.0 y.1, y.2) }

-- and what is covered is also with more in front
pub covered_back : (a more b : List Claim) → AreCovered a b → AreCovered a (more ++ b)
covered_back a more b f = record { each = λ x at. let y = f.each x at in (y.0, Contains-append_right more b y.0 y.1, y.2) }

-- ---- nothing but what was held or claimed
-- it goes together with each of these claims that is on its object
pub record GoesWith (others : List Claim) (c : Claim) : Type 0 where
  pub each : (d : Claim) → Contains others d → c.object ≡ d.object → compatible c.mode d.mode ≡ true

goes_merged : (others : List Claim) (new : Claim) → GoesWith others new → (h : Claim) → GoesWith others h → GoesWith others (merged new h)
goes_merged others new goes h was = by_test (is_object new.object h.object) refl
  where
    by_test : (b : Bool) → is_object new.object h.object ≡ b → GoesWith others (if b then record h { mode = stronger h.mode new.mode } else h)
    by_test true e = record {
      each = λ d at same.
          goes_with_stronger h.mode new.mode d.mode (was.each d at same) (goes.each d at (same_object new.object h.object e ∙ same));
    }
    by_test false e = was

goes_one : (others held : List Claim) (new : Claim) → All (GoesWith others) held → GoesWith others new → All (GoesWith others) (holding_one held new)
goes_one others held new all goes = by_test (contains_object (objects held) new.object)
  where
    by_test : (b : Bool) → All (GoesWith others) (if b then map (merged new) held else held ++ new ∷ [])
    by_test true =
        All-map (GoesWith others) (merged new) held
        (All-weaker (GoesWith others) (λ h. GoesWith others (merged new h)) (goes_merged others new goes) held all)
    by_test false = All-append (GoesWith others) held (new ∷ []) all (All-cons (GoesWith others) new [] goes (All-nil (GoesWith others)))

-- what goes together with all that was held and all that is claimed goes together with what is held after that
pub goes_all : (others held claims : List Claim) → All (GoesWith others) held → All (GoesWith others) claims → All (GoesWith others) (holding held claims)
goes_all others held [] all goes = all
goes_all others held (c ∷ claims) all goes =
    goes_all others (holding_one held c) claims (goes_one others held c all (All-head (GoesWith others) c claims goes))
    (All-tail (GoesWith others) c claims goes)

-- ---- nothing twice
-- no object comes or goes where claims merge
pub objects_merged : (new : Claim) (held : List Claim) → objects (map (merged new) held) ≡ objects held
objects_merged new [] = refl
objects_merged new (h ∷ held) = ap₂ (λ x xs. x ∷ xs) (covered_merged new h).object (objects_merged new held)

count_one : (o p : Object) (os : List Object) → count_by (is_object o) (p ∷ os) ≡ (0 + cond (is_object o p) 1 0) + count_by (is_object o) os
count_one o p os = sum_by-append (λ x. cond (is_object o x) 1 0) (p ∷ []) os

count_none : (o : Object) (os : List Object) → contains_object os o ≡ false → count_by (is_object o) os ≡ 0
count_none o [] e = refl
count_none o (p ∷ os) e =
    let parts = or_parts (is_object o p) (contains_object os o) e in
    count_one o p os ∙ ap₂ (λ b n. (0 + cond b 1 0) + n) parts.0 (count_none o os parts.1)

once_more : (os : List Object) (p : Object) → contains_object os p ≡ false → AreOnceAtMost os → AreOnceAtMost (os ++ p ∷ [])
once_more os p e once o =
    subst (λ n. n ≤ 1) (sym (sum_by-append (λ x. cond (is_object o x) 1 0) os (p ∷ []))) (by_test (is_object o p) refl)
  where
    by_test : (b : Bool) → is_object o p ≡ b → count_by (is_object o) os + (0 + cond b 1 0) ≤ 1
    by_test true f = let none : count_by (is_object o) os ≡ 0 = count_none o os (ap (contains_object os) (same_object o p f) ∙ e) in omega arith
    by_test false f = let few = once o in omega arith

once_one : (held : List Claim) (new : Claim) → AreOnceAtMost (objects held) → AreOnceAtMost (objects (holding_one held new))
once_one held new once = by_test (contains_object (objects held) new.object) refl
  where
    by_test : (b : Bool) → contains_object (objects held) new.object ≡ b → AreOnceAtMost (objects (if b then map (merged new) held else held ++ new ∷ []))
    by_test true e = subst AreOnceAtMost (sym (objects_merged new held)) once
    by_test false e = subst AreOnceAtMost (sym (objects_append held (new ∷ []))) (once_more (objects held) new.object e once)

-- after more claims each object is held once, where it was before
pub once_all : (held claims : List Claim) → AreOnceAtMost (objects held) → AreOnceAtMost (objects (holding held claims))
once_all held [] once = once
once_all held (c ∷ claims) once = once_all (holding_one held c) claims (once_one held c once)
