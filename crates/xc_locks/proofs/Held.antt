-- The list of what a transaction holds, and the modes in it.
use Rattle.std.proofs.Common.{◌≡◌, Bool, true, false, cond, ◌||◌, Option, Some, None, IsSome, is_some, List, [], ◌∷◌, ◌++◌, map, refl, ap, sym, ◌∙◌}
use Rattle.std.proofs.Common.{ℕ, ◌+◌, ◌<◌, ◌≤◌, ◌⊎◌, inl, inr, zero, suc, get_or, arith}
use Rattle.std.specs.Prelude.{All, Contains, count_by, if◌then◌else◌, option_map}
use Rattle.std.proofs.lemmas.List.Elements.{Contains-append_right, Contains-append_cases}
use Rattle.std.proofs.lemmas.List.Sums.{sum_by-append}
use Rattle.xc_data.specs.declared.object.Object.{Object}
use Rattle.xc_data.specs.declared.claim.Mode.{Mode}
use Rattle.xc_data.specs.declared.claim.Claim.{Claim}
use Rattle.xc_data.specs.Claims.{claim, is_object, stronger, merged, holding_one, holding, objects, AreOnceAtMost}
use Rattle.xc_locks.specs.Rows.{with_mode}
use Rattle.xc_locks.specs.Table.{has, claimed, mode_in}
use Rattle.xc_data.proofs.Laws.{same_object, itself}
use Rattle.xc_locks.proofs.Modes.{none_there}
use Rattle.xc_locks.proofs.Claimed.{is_object-swap}
use Rattle.xc_locks.proofs.Places.{or_last}

-- ---- which objects have a mode
pub first_here : (h : Claim) (hs : List Claim) (o : Object) (b : Bool) → is_object h.object o ≡ b → mode_in (h ∷ hs) o ≡ cond b (Some h.mode) (mode_in hs o)
first_here h hs o b e = ap (λ x. if x then Some h.mode else mode_in hs o) e

seen_by : (h : Claim) (hs : List Claim) (o : Object) (b : Bool) → is_object h.object o ≡ b → is_some (mode_in hs o) ≡ has (objects hs) o
    → is_some (cond b (Some h.mode) (mode_in hs o)) ≡ (b || has (objects hs) o)
seen_by h hs o true e rest = refl
seen_by h hs o false e rest = rest

-- an object has a mode where a claim of the list is on it
pub mode_in-has : (held : List Claim) (o : Object) → is_some (mode_in held o) ≡ has (objects held) o
mode_in-has [] o = refl
mode_in-has (h ∷ hs) o =
    ap is_some (first_here h hs o (is_object h.object o) refl) ∙ seen_by h hs o (is_object h.object o) refl (mode_in-has hs o)
    ∙ ap (λ b. b || has (objects hs) o) (is_object-swap h.object o)

-- ---- one claim more, on what is held
with_new : Claim → Option Mode → Option Mode
with_new c m = option_map (λ was. stronger was c.mode) m

-- a merged claim is on the same object
pub merged_object : (c h : Claim) (b : Bool) → is_object c.object h.object ≡ b → (merged c h).object ≡ h.object
merged_object c h true e = ap (λ (b : Bool). (if b then record h { mode = stronger h.mode c.mode } else h).object) e
merged_object c h false e = ap (λ (b : Bool). (if b then record h { mode = stronger h.mode c.mode } else h).object) e

merged_mode : (c h : Claim) (b : Bool) → is_object c.object h.object ≡ b → (merged c h).mode ≡ cond b (stronger h.mode c.mode) h.mode
merged_mode c h true e = ap (λ (b : Bool). (if b then record h { mode = stronger h.mode c.mode } else h).mode) e
merged_mode c h false e = ap (λ (b : Bool). (if b then record h { mode = stronger h.mode c.mode } else h).mode) e

nothing_new : (c : Claim) (b : Bool) → None ≡ cond b (with_new c None) None
unfolding with_new
nothing_new c true = refl
nothing_new c false = refl

mode_by : (c h : Claim) (b : Bool) → Some (cond b (stronger h.mode c.mode) h.mode) ≡ cond b (with_new c (Some h.mode)) (Some h.mode)
unfolding with_new
mode_by c h true = refl
mode_by c h false = refl

merged_by : (c h : Claim) (hs : List Claim) (o : Object) (x : Bool) → is_object h.object o ≡ x
    → mode_in (map (merged c) hs) o ≡ cond (is_object c.object o) (with_new c (mode_in hs o)) (mode_in hs o)
    → cond x (Some (merged c h).mode) (mode_in (map (merged c) hs) o)
    ≡ cond (is_object c.object o) (with_new c (cond x (Some h.mode) (mode_in hs o))) (cond x (Some h.mode) (mode_in hs o))
merged_by c h hs o true e rest =
    let at : is_object c.object h.object ≡ is_object c.object o = ap (is_object c.object) (same_object h.object o e) in
    ap Some (merged_mode c h (is_object c.object o) at) ∙ mode_by c h (is_object c.object o)
merged_by c h hs o false e rest = rest

merged_modes : (c : Claim) (held : List Claim) (o : Object)
    → mode_in (map (merged c) held) o ≡ cond (is_object c.object o) (with_new c (mode_in held o)) (mode_in held o)
merged_modes c [] o = nothing_new c (is_object c.object o)
merged_modes c (h ∷ hs) o =
    let x = is_object h.object o in
    first_here (merged c h) (map (merged c) hs) o x (ap (λ p. is_object p o) (merged_object c h (is_object c.object h.object) refl))
    ∙ merged_by c h hs o x refl (merged_modes c hs o)
    ∙ ap (λ m. cond (is_object c.object o) (with_new c m) m) (sym (first_here h hs o x refl))

-- ---- one claim more, on what isn't held
behind_by : (h : Claim) (hs : List Claim) (c : Claim) (o : Object) (x : Bool)
    → mode_in (hs ++ c ∷ []) o ≡ cond (is_some (mode_in hs o)) (mode_in hs o) (mode_in (c ∷ []) o)
    → cond x (Some h.mode) (mode_in (hs ++ c ∷ []) o)
    ≡ cond (is_some (cond x (Some h.mode) (mode_in hs o))) (cond x (Some h.mode) (mode_in hs o)) (mode_in (c ∷ []) o)
behind_by h hs c o true rest = refl
behind_by h hs c o false rest = rest

-- a claim after a list has its mode where the list has none
behind_list : (held : List Claim) (c : Claim) (o : Object) → mode_in (held ++ c ∷ []) o ≡ cond (is_some (mode_in held o)) (mode_in held o) (mode_in (c ∷ []) o)
behind_list [] c o = refl
behind_list (h ∷ hs) c o =
    let x = is_object h.object o in
    first_here h (hs ++ c ∷ []) o x refl ∙ behind_by h hs c o x (behind_list hs c o)
    ∙ ap (λ m. cond (is_some m) m (mode_in (c ∷ []) o)) (sym (first_here h hs o x refl))

-- ---- one claim more
some_with : (c : Claim) (m : Option Mode) → IsSome m → with_new c m ≡ Some (with_mode m c.mode)
unfolding with_new
some_with c None there = absurd (cc)
some_with c (Some was) there = refl

held_by : (held : List Claim) (c : Claim) (o : Object) (z : Bool) → is_object c.object o ≡ z → has (objects held) c.object ≡ true
    → cond z (with_new c (mode_in held o)) (mode_in held o) ≡ cond z (Some (with_mode (mode_in held o) c.mode)) (mode_in held o)
held_by held c o true e there =
    some_with c (mode_in held o) (mode_in-has held o ∙ ap (has (objects held)) (sym (same_object c.object o e)) ∙ there)
held_by held c o false e there = refl

alone_by : (m : Option Mode) → cond (is_some m) m None ≡ m
alone_by None = refl
alone_by (Some m) = refl

new_by : (held : List Claim) (c : Claim) (o : Object) (z : Bool) → is_object c.object o ≡ z → has (objects held) c.object ≡ false
    → cond (is_some (mode_in held o)) (mode_in held o) (cond z (Some c.mode) None) ≡ cond z (Some (with_mode (mode_in held o) c.mode)) (mode_in held o)
new_by held c o true e lacks =
    let none : mode_in held o ≡ None =
    none_there (mode_in held o) (mode_in-has held o ∙ ap (has (objects held)) (sym (same_object c.object o e)) ∙ lacks) in
    ap (λ m. cond (is_some m) m (Some c.mode)) none ∙ sym (ap (λ m. Some (with_mode m c.mode)) none)
new_by held c o false e lacks = alone_by (mode_in held o)

-- the modes in a list after a claim
one_more : (held : List Claim) (c : Claim) (o : Object) → claimed (mode_in held o) (c ∷ []) o ≡ mode_in (holding_one held c) o
one_more held c o = by (has (objects held) c.object) refl
  where
    z : Bool
    z = is_object c.object o

    by : (b : Bool) → has (objects held) c.object ≡ b
        → claimed (mode_in held o) (c ∷ []) o ≡ mode_in (if b then map (merged c) held else held ++ c ∷ []) o
    by true e = sym (merged_modes c held o ∙ held_by held c o z refl e)
    by false e = sym (behind_list held c o ∙ new_by held c o z refl e)

-- the modes in a list after claims
pub claimed-holding : (held claims : List Claim) (o : Object) → claimed (mode_in held o) claims o ≡ mode_in (holding held claims) o
claimed-holding held [] o = refl
claimed-holding held (c ∷ cs) o = ap (λ m. claimed m cs o) (one_more held c o) ∙ claimed-holding (holding_one held c) cs o

-- ---- members
in_front : (h : Claim) (hs : List Claim) (c : Claim) → h ≡ c → Contains (h ∷ hs) c
in_front h hs c e = (0, omega arith, e)

member_by : (h : Claim) (hs : List Claim) (o : Object) (m : Mode) (b : Bool) → is_object h.object o ≡ b → cond b (Some h.mode) (mode_in hs o) ≡ Some m
    → (mode_in hs o ≡ Some m → Contains hs (claim m o)) → Contains (h ∷ hs) (claim m o)
member_by h hs o m true e is rest =
    let mode_same : h.mode ≡ m = cc in
    let object_same = same_object h.object o e in
    in_front h hs (claim m o) (λ i. record { object = object_same i; mode = mode_same i })
member_by h hs o m false e is rest = Contains-append_right (h ∷ []) hs (claim m o) (rest is)

-- the mode in a list is a member's
pub member : (held : List Claim) (o : Object) (m : Mode) → mode_in held o ≡ Some m → Contains held (claim m o)
member [] o m is = absurd (cc)
member (h ∷ hs) o m is = member_by h hs o m (is_object h.object o) refl is (member hs o m)

-- ---- lists with each object once
-- an object in front counts where it is the one
pub count_cons : (o p : Object) (os : List Object) (b : Bool) → is_object o p ≡ b
    → count_by (is_object o) (p ∷ os) ≡ (0 + cond b 1 0) + count_by (is_object o) os
count_cons o p os b e =
    sum_by-append (λ x. cond (is_object o x) 1 0) (p ∷ []) os ∙ ap (λ x. (0 + cond x 1 0) + count_by (is_object o) os) e

counts_by : (o p : Object) (os : List Object) (b : Bool) → is_object o p ≡ b → (b || has os o) ≡ true
    → (has os o ≡ true → 1 ≤ count_by (is_object o) os) → 1 ≤ count_by (is_object o) (p ∷ os)
counts_by o p os true e either rest = let n = count_cons o p os true e in omega (arith, n)
counts_by o p os false e either rest = let n = count_cons o p os false e in let m = rest either in omega (arith, n, m)

-- an object that is there counts
pub any_counts : (o : Object) (os : List Object) → has os o ≡ true → 1 ≤ count_by (is_object o) os
any_counts o [] e = absurd (cc)
any_counts o (p ∷ os) e = counts_by o p os (is_object o p) refl e (any_counts o os)

-- the rest of a list with each object once is one
pub once_rest : (p : Object) (os : List Object) → AreOnceAtMost (p ∷ os) → AreOnceAtMost os
once_rest p os once o = let n = count_cons o p os (is_object o p) refl in let m = once o in omega (arith, n, m)

-- the first object of such a list does not come again
pub once_here : (p : Object) (os : List Object) → AreOnceAtMost (p ∷ os) → has os p ≡ true → ⊥
once_here p os once there =
    let n = count_cons p p os true (itself p) in
    let m = once p in
    let k = any_counts p os there in
    omega (arith, n, m, k)

either_member : (h : Claim) (hs : List Claim) (c : Claim) → Contains (h ∷ hs) c → (h ≡ c) ⊎ Contains hs c
either_member h hs c at =
    elim (Contains-append_cases (h ∷ []) hs c at) [ inl one ↦ inl (only one.0 one.1 one.2) | inr later ↦ inr later ]
  where
    only : (k : ℕ) → k < 1 → get_or (h ∷ []) k c ≡ c → h ≡ c
    only zero lt e = e
    only (suc k) lt e = absurd (omega arith)

has_member : (held : List Claim) (c : Claim) → Contains held c → has (objects held) c.object ≡ true
has_member [] c at = absurd (let lt = at.1 in omega (arith, lt))
has_member (h ∷ hs) c at = by (either_member h hs c at) (has_member hs c)
  where
    by : (h ≡ c) ⊎ Contains hs c → (Contains hs c → has (objects hs) c.object ≡ true) → (is_object c.object h.object || has (objects hs) c.object) ≡ true
    by (inl e) rest =
        ap (λ b. b || has (objects hs) c.object) (ap (λ (x : Claim). is_object c.object x.object) e ∙ itself c.object)
    by (inr later) rest = ap (λ b. is_object c.object h.object || b) (rest later) ∙ or_last (is_object c.object h.object)

once_by : (h : Claim) (hs : List Claim) (c : Claim) (b : Bool) → AreOnceAtMost (objects (h ∷ hs)) → is_object h.object c.object ≡ b
    → (h ≡ c) ⊎ Contains hs c → (Contains hs c → mode_in hs c.object ≡ Some c.mode) → cond b (Some h.mode) (mode_in hs c.object) ≡ Some c.mode
once_by h hs c true once e (inl same) rest = ap (λ (x : Claim). Some x.mode) same
once_by h hs c true once e (inr later) rest =
    absurd (once_here h.object (objects hs) once (ap (has (objects hs)) (same_object h.object c.object e) ∙ has_member hs c later))
once_by h hs c false once e (inl same) rest =
    let yes : is_object h.object c.object ≡ true = ap (λ (x : Claim). is_object h.object x.object) (sym same) ∙ itself h.object in
    let clash : true ≡ false = sym yes ∙ e in
    absurd (cc)
once_by h hs c false once e (inr later) rest = rest later

-- where each object is in a list once at most, a member's mode is the mode in the list
pub once_member : (held : List Claim) (c : Claim) → AreOnceAtMost (objects held) → Contains held c → mode_in held c.object ≡ Some c.mode
once_member [] c once at = absurd (let lt = at.1 in omega (arith, lt))
once_member (h ∷ hs) c once at =
    first_here h hs c.object (is_object h.object c.object) refl
    ∙ once_by h hs c (is_object h.object c.object) once refl (either_member h hs c at) (once_member hs c (once_rest h.object (objects hs) once))

-- each member of a list is the first on its object
AreFirst : List Claim → Type 0
AreFirst held = All (λ (h : Claim). mode_in held h.object ≡ Some h.mode) held
