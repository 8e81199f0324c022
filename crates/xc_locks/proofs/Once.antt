-- Lists with each object once: what is held after one claim more, and where a claim on an object stands.
use Rattle.std.proofs.Common.{◌≡◌, ℕ, Bool, true, false, cond, ◌||◌, List, [], ◌∷◌, ◌++◌, map, refl, ap, sym, ◌∙◌, subst, arith}
use Rattle.std.proofs.Common.{◌+◌, ◌≤◌, zero, suc, set, Some, None, is_some, append_assoc}
use Rattle.std.specs.Prelude.{All, Contains, count_by, slice_get, if◌then◌else◌}
use Rattle.std.specs.List.{fold}
use Rattle.std.proofs.lemmas.Bool.{false_from_ne_true}
use Rattle.std.proofs.lemmas.List.{append-nil}
use Rattle.std.proofs.lemmas.List.Elements.{All-weaker, All-contains_itself}
use Rattle.std.proofs.lemmas.List.Sums.{sum_by-append}
use Rattle.xc_data.specs.declared.object.Object.{Object}
use Rattle.xc_data.specs.declared.claim.Mode.{Mode}
use Rattle.xc_data.specs.declared.claim.Claim.{Claim}
use Rattle.xc_data.specs.Claims.{is_object, stronger, merged, holding_one, objects, AreOnceAtMost}
use Rattle.xc_locks.specs.Released.{with_one, each_once}
use Rattle.xc_locks.specs.Table.{has, mode_in}
use Rattle.xc_locks.proofs.Claimed.{is_object-swap}
use Rattle.xc_locks.proofs.Held.{any_counts, count_cons, first_here, mode_in-has, once_rest, once_here, once_member}
use Rattle.xc_data.proofs.Laws.{same_object, itself}
use Rattle.xc_locks.proofs.Places.{or_last}
use Rattle.xc_locks.proofs.Released.{one_objects}

-- ---- one object more
-- an object that a list lacks isn't counted there
none_counts : (o : Object) (os : List Object) → has os o ≡ false → count_by (is_object o) os ≡ 0
none_counts o [] e = refl
none_counts o (p ∷ os) e = by (is_object o p) refl e (none_counts o os)
  where
    by : (b : Bool) → is_object o p ≡ b → (b || has os o) ≡ false → (has os o ≡ false → count_by (is_object o) os ≡ 0) → count_by (is_object o) (p ∷ os) ≡ 0
    by true is lacks rest = absurd (cc)
    by false is lacks rest = let n = count_cons o p os false is in let m = rest lacks in omega (arith, n, m)

-- an object that is new comes once
pub once_new : (os : List Object) (p : Object) → has os p ≡ false → AreOnceAtMost os → AreOnceAtMost (os ++ p ∷ [])
once_new os p lacks once o =
    by (is_object o p) refl (sum_by-append (λ x. cond (is_object o x) 1 0) os (p ∷ [])) (count_cons o p [] (is_object o p) refl) (once o)
  where
    by : (b : Bool) → is_object o p ≡ b → count_by (is_object o) (os ++ p ∷ []) ≡ count_by (is_object o) os + count_by (is_object o) (p ∷ [])
        → count_by (is_object o) (p ∷ []) ≡ (0 + cond (is_object o p) 1 0) + 0 → count_by (is_object o) os ≤ 1 → count_by (is_object o) (os ++ p ∷ []) ≤ 1
    by true is n m k =
        let z = none_counts o os (ap (has os) (same_object o p is) ∙ lacks) in
        let one = m ∙ ap (λ b. (0 + cond b 1 0) + 0) is in
        omega (arith, n, one, z)
    by false is n m k = let none = m ∙ ap (λ b. (0 + cond b 1 0) + 0) is in omega (arith, n, none, k)

-- after a claim more each object is there once
pub once_one : (held : List Claim) (c : Claim) → AreOnceAtMost (objects held) → AreOnceAtMost (objects (holding_one held c))
once_one held c once = subst AreOnceAtMost (sym (one_objects held c)) (by (has (objects held) c.object) refl)
  where
    by : (b : Bool) → has (objects held) c.object ≡ b → AreOnceAtMost (if b then objects held else objects held ++ c.object ∷ [])
    by true e = once
    by false e = once_new (objects held) c.object e once

-- ---- such a list stays as it is
-- each object once, after others: all of them stay
once_behind : (front os : List Object) → AreOnceAtMost (front ++ os) → fold with_one front os ≡ front ++ os
once_behind front [] once = sym (append-nil front)
once_behind front (p ∷ os) once = by (has front p) refl (once_behind (front ++ p ∷ []) os)
  where
    lacks : has front p ≡ true → ⊥
    lacks there =
        let n = sum_by-append (λ x. cond (is_object p x) 1 0) front (p ∷ os) in
        let m = count_cons p p os true (itself p) in
        let k = once p in
        let j = any_counts p front there in
        omega (arith, n, m, k, j)

    by : (b : Bool) → has front p ≡ b → (AreOnceAtMost ((front ++ p ∷ []) ++ os) → fold with_one (front ++ p ∷ []) os ≡ (front ++ p ∷ []) ++ os)
        → fold with_one (if b then front else front ++ p ∷ []) os ≡ front ++ p ∷ os
    by true e rest = absurd (lacks e)
    by false e rest =
        rest (subst AreOnceAtMost (sym (append_assoc front (p ∷ []) os)) once) ∙ append_assoc front (p ∷ []) os

-- a list with each object once is the same with each once
pub same_once : (os : List Object) → AreOnceAtMost os → each_once os ≡ os
same_once os once = once_behind [] os once

-- a claim in such a list has its object's mode there
pub modes_once : (held : List Claim) → AreOnceAtMost (objects held) → All (λ (h : Claim). mode_in held h.object ≡ Some h.mode) held
modes_once held once =
    All-weaker (Contains held) (λ (h : Claim). mode_in held h.object ≡ Some h.mode) (λ h at. once_member held h once at) held (All-contains_itself held)

-- ---- a claim on what is held
-- the claims on other objects stay
merged_apart : (c : Claim) (hs : List Claim) → has (objects hs) c.object ≡ false → map (merged c) hs ≡ hs
merged_apart c [] e = refl
merged_apart c (h ∷ hs) e = by (is_object c.object h.object) refl e (merged_apart c hs)
  where
    by : (b : Bool) → is_object c.object h.object ≡ b → (b || has (objects hs) c.object) ≡ false
        → (has (objects hs) c.object ≡ false → map (merged c) hs ≡ hs) → map (merged c) (h ∷ hs) ≡ h ∷ hs
    by true is lacks rest = absurd (cc)
    by false is lacks rest =
        ap (λ b. (if b then record h { mode = stronger h.mode c.mode } else h) ∷ map (merged c) hs) is ∙ ap (λ xs. h ∷ xs) (rest lacks)

-- the object of a claim in a list is there
has_at : (hs : List Claim) (at : ℕ) (h : Claim) → slice_get hs at ≡ Some h → has (objects hs) h.object ≡ true
has_at [] at h e = absurd (cc)
has_at (k ∷ hs) zero h e =
    let same : k ≡ h = cc in
    ap (λ b. b || has (objects hs) h.object) (ap (λ (x : Claim). is_object h.object x.object) same ∙ itself h.object)
has_at (k ∷ hs) (suc at) h e = ap (λ b. is_object h.object k.object || b) (has_at hs at h e) ∙ or_last (is_object h.object k.object)

-- the claim on the object gets the stronger mode, where it stands
merged_at : (c : Claim) (held : List Claim) (at : ℕ) (h : Claim) → AreOnceAtMost (objects held) → slice_get held at ≡ Some h → h.object ≡ c.object
    → set held at (record h { mode = stronger h.mode c.mode }) ≡ map (merged c) held
merged_at c [] at h once e on = absurd (cc)
merged_at c (k ∷ hs) zero h once e on =
    let same : k ≡ h = cc in
    let here : is_object c.object k.object ≡ true = ap (λ (x : Claim). is_object c.object x.object) same ∙ ap (is_object c.object) on ∙ itself c.object in
    let lacks : has (objects hs) c.object ≡ false = false_from_ne_true (has (objects hs) c.object) (λ there.
    once_here k.object (objects hs) once (ap (has (objects hs)) (ap (λ (x : Claim). x.object) same ∙ on) ∙ there)) in
    ap (λ (x : Claim). record x { mode = stronger x.mode c.mode } ∷ hs) (sym same)
    ∙ sym (ap (λ b. (if b then record k { mode = stronger k.mode c.mode } else k) ∷ map (merged c) hs) here
    ∙ ap (λ xs. record k { mode = stronger k.mode c.mode } ∷ xs) (merged_apart c hs lacks))
merged_at c (k ∷ hs) (suc at) h once e on =
    let apart : is_object c.object k.object ≡ false = false_from_ne_true (is_object c.object k.object) (λ here.
    once_here k.object (objects hs) once (ap (has (objects hs)) (sym (same_object c.object k.object here) ∙ sym on) ∙ has_at hs at h e)) in
    ap (λ xs. k ∷ xs) (merged_at c hs at h (once_rest k.object (objects hs) once) e on)
    ∙ sym (ap (λ b. (if b then record k { mode = stronger k.mode c.mode } else k) ∷ map (merged c) hs) apart)

-- a claim more on what is held already
pub held_again : (c : Claim) (held : List Claim) (at : ℕ) (h : Claim) → AreOnceAtMost (objects held) → slice_get held at ≡ Some h → h.object ≡ c.object
    → set held at (record h { mode = stronger h.mode c.mode }) ≡ holding_one held c
held_again c held at h once e on =
    merged_at c held at h once e on
    ∙ sym (ap (λ b. if b then map (merged c) held else held ++ c ∷ []) (ap (has (objects held)) (sym on) ∙ has_at held at h e))

-- ---- a claim on an object whose mode in the list is known
-- a claim in no stronger mode leaves each claim as it is
merged_as_strong : (c : Claim) (held : List Claim) (was : Mode) → AreOnceAtMost (objects held) → mode_in held c.object ≡ Some was
    → stronger was c.mode ≡ was → map (merged c) held ≡ held
merged_as_strong c [] was once e strong = refl
merged_as_strong c (h ∷ hs) was once e strong =
    by (is_object c.object h.object) refl (λ its. merged_as_strong c hs was (once_rest h.object (objects hs) once) its strong)
  where
    step : (b : Bool) → is_object c.object h.object ≡ b
        → map (merged c) (h ∷ hs) ≡ (if b then record h { mode = stronger h.mode c.mode } else h) ∷ map (merged c) hs
    step b is = ap (λ b. (if b then record h { mode = stronger h.mode c.mode } else h) ∷ map (merged c) hs) is

    -- the mode of the object in the list
    mode : (b : Bool) → is_object c.object h.object ≡ b → cond b (Some h.mode) (mode_in hs c.object) ≡ Some was
    mode b is = sym (first_here h hs c.object b (is_object-swap h.object c.object ∙ is)) ∙ e

    by : (b : Bool) → is_object c.object h.object ≡ b → (mode_in hs c.object ≡ Some was → map (merged c) hs ≡ hs) → map (merged c) (h ∷ hs) ≡ h ∷ hs
    by true is rest =
        let its = mode true is in
        let same : h.mode ≡ was = cc in
        let lacks : has (objects hs) c.object ≡ false = false_from_ne_true (has (objects hs) c.object) (λ there.
        once_here h.object (objects hs) once (ap (has (objects hs)) (sym (same_object c.object h.object is)) ∙ there)) in
        step true is
        ∙ ap (λ (m : Mode). record h { mode = m } ∷ map (merged c) hs) (ap (λ m. stronger m c.mode) same ∙ strong ∙ sym same)
        ∙ ap (λ xs. h ∷ xs) (merged_apart c hs lacks)
    by false is rest = step false is ∙ ap (λ xs. h ∷ xs) (rest (mode false is))

-- so it leaves the list
pub held_as_strong : (c : Claim) (held : List Claim) (was : Mode) → AreOnceAtMost (objects held) → mode_in held c.object ≡ Some was
    → stronger was c.mode ≡ was → held ≡ holding_one held c
held_as_strong c held was once e strong =
    sym (ap (λ b. if b then map (merged c) held else held ++ c ∷ []) (sym (mode_in-has held c.object) ∙ ap is_some e)
    ∙ merged_as_strong c held was once e strong)

-- a claim on an object that isn't in the list comes after the others
pub held_anew : (c : Claim) (held : List Claim) → mode_in held c.object ≡ None → held ++ c ∷ [] ≡ holding_one held c
held_anew c held e = sym (ap (λ b. if b then map (merged c) held else held ++ c ∷ []) (sym (mode_in-has held c.object) ∙ ap is_some e))
