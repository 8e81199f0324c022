-- What is held of claims: the claimed objects, each once, and exclusively those that were claimed so.
use Rattle.std.proofs.Common.{◌≡◌, ◌+◌, ◌≤◌, ◌&&◌, ◌||◌, Bool, true, false, cond, Some, None, List, [], ◌∷◌, ◌++◌, ap, ap₂, sym, ◌∙◌, subst, refl, arith}
use Rattle.std.specs.Prelude.{Contains, map, ◌↔◌, count_by, if◌then◌else◌}
use Rattle.std.specs.List.{list_any, cons_option}
use Rattle.std.proofs.lemmas.List.Folds.{list_any-append}
use Rattle.std.proofs.lemmas.List.Sums.{sum_by-append}
use Rattle.std.proofs.lemmas.Map.Views.{Contains-from_any}
use Rattle.xc_data.specs.declared.object.Object.{Object}
use Rattle.xc_data.specs.Claims.{is_object}
use Rattle.xc_world.proofs.SoundParts.{chosen_so}
use Rattle.xc_data.specs.declared.claim.Mode.{Mode}
use Rattle.xc_data.specs.declared.claim.Mode.TheVariants.{Shared, Exclusive}
use Rattle.xc_data.specs.declared.claim.Claim.{Claim}
use Rattle.xc_data.specs.Claims.{is_exclusive, exclusive, objects, owned, stronger, merged, holding_one, holding, held_of, AreOnceAtMost}
use Rattle.xc_world.proofs.Objects.{found}
use Rattle.xc_data.proofs.Laws.{same_object}
use Rattle.xc_world.proofs.Bodies.{objects_append, owned_append}

-- whether an object is in a list
abbrev pub contains_object : List Object → Object → Bool
contains_object os o = list_any (is_object o) os

-- ---- tests
or_assoc : (a b c : Bool) → ((a || b) || c) ≡ (a || (b || c))
or_assoc true b c = refl
or_assoc false b c = refl

or_none : (a : Bool) → (a || false) ≡ a
or_none true = refl
or_none false = refl

or_swap : (a b c d : Bool) → ((a || b) || (c || d)) ≡ ((a || c) || (b || d))
or_swap true b c d = refl
or_swap false true true d = refl
or_swap false true false d = refl
or_swap false false c d = refl

and_or : (b x y : Bool) → ((b && x) || (b && y)) ≡ (b && (x || y))
and_or true x y = refl
and_or false x y = refl

and_true : (a : Bool) → (a && true) ≡ a
and_true true = refl
and_true false = refl

and_false : (a : Bool) → (a && false) ≡ false
and_false true = refl
and_false false = refl

-- ---- one claim in front
has_owned_cons : (c : Claim) (cs : List Claim) (o : Object)
    → contains_object (owned (c ∷ cs)) o ≡ ((exclusive c && is_object o c.object) || contains_object (owned cs) o)
has_owned_cons c cs o = by_test (exclusive c)
  where
    by_test : (b : Bool)
        → contains_object (cons_option (if b then Some c.object else None) (owned cs)) o ≡ ((b && is_object o c.object) || contains_object (owned cs) o)
    by_test true = refl
    by_test false = refl

merged_object : (new h : Claim) → (merged new h).object ≡ h.object
merged_object new h = chosen_so (λ (c : Claim). c.object ≡ h.object) (is_object new.object h.object) _ _ (λ _. refl) (λ _. refl)

objects_merged : (new : Claim) (held : List Claim) → objects (map (merged new) held) ≡ objects held
objects_merged new [] = refl
objects_merged new (h ∷ held) = ap₂ (λ x xs. x ∷ xs) (merged_object new h) (objects_merged new held)

-- the mode of one that is merged
either_mode : (m n : Mode) (x : Bool) → (is_exclusive (stronger m n) && x) ≡ ((is_exclusive m && x) || (is_exclusive n && x))
either_mode Exclusive Exclusive true = refl
either_mode Exclusive Exclusive false = refl
either_mode Exclusive Shared true = refl
either_mode Exclusive Shared false = refl
either_mode Shared n x = refl

merged_owns : (new h : Claim) (o : Object)
    → (exclusive (merged new h) && is_object o (merged new h).object)
    ≡ ((exclusive h && is_object o h.object) || ((exclusive new && is_object o new.object) && is_object new.object h.object))
merged_owns new h o = by_test (is_object new.object h.object) refl
  where
    by_test : (b : Bool) → is_object new.object h.object ≡ b
        → (let c = if b then record h { mode = stronger h.mode new.mode } else h in
        (exclusive c && is_object o c.object) ≡ ((exclusive h && is_object o h.object) || ((exclusive new && is_object o new.object) && b)))
    by_test true e =
        either_mode h.mode new.mode (is_object o h.object)
        ∙ ap (λ x. (exclusive h && is_object o h.object) || x)
        (ap (λ p. exclusive new && is_object o p) (sym (same_object new.object h.object e)) ∙ sym (and_true (exclusive new && is_object o new.object)))
    by_test false e =
        sym (ap (λ x. (exclusive h && is_object o h.object) || x) (and_false (exclusive new && is_object o new.object))
        ∙ or_none (exclusive h && is_object o h.object))

owned_merged : (new : Claim) (held : List Claim) (o : Object)
    → contains_object (owned (map (merged new) held)) o
    ≡ (contains_object (owned held) o || ((exclusive new && is_object o new.object) && contains_object (objects held) new.object))
owned_merged new [] o = sym (and_false (exclusive new && is_object o new.object))
owned_merged new (h ∷ held) o =
    let b = exclusive new && is_object o new.object in
    let p = exclusive h && is_object o h.object in
    has_owned_cons (merged new h) (map (merged new) held) o
    ∙ ap₂ (λ x y. x || y) (merged_owns new h o) (owned_merged new held o)
    ∙ or_swap p (b && is_object new.object h.object) (contains_object (owned held) o) (b && contains_object (objects held) new.object)
    ∙ ap₂ (λ x y. x || y) (sym (has_owned_cons h held o)) (and_or b (is_object new.object h.object) (contains_object (objects held) new.object))

-- ---- one claim more
seen_one : (held : List Claim) (new : Claim) (o : Object)
    → contains_object (objects (holding_one held new)) o ≡ (contains_object (objects held) o || is_object o new.object)
seen_one held new o = by_test (contains_object (objects held) new.object) refl
  where
    by_test : (b : Bool) → contains_object (objects held) new.object ≡ b
        → contains_object (objects (if b then map (merged new) held else held ++ new ∷ [])) o ≡ (contains_object (objects held) o || is_object o new.object)
    by_test true e =
        ap (λ l. contains_object l o) (objects_merged new held) ∙ within (is_object o new.object) refl
      where
        within : (x : Bool) → is_object o new.object ≡ x → contains_object (objects held) o ≡ (contains_object (objects held) o || x)
        within false f = sym (or_none (contains_object (objects held) o))
        within true f =
            ap (contains_object (objects held)) (same_object o new.object f) ∙ e
            ∙ sym (ap (λ y. y || true) (ap (contains_object (objects held)) (same_object o new.object f) ∙ e))
    by_test false e =
        ap (λ l. contains_object l o) (objects_append held (new ∷ [])) ∙ list_any-append (is_object o) (objects held) (new.object ∷ [])
        ∙ ap (λ x. contains_object (objects held) o || x) (or_none (is_object o new.object))

owned_one : (held : List Claim) (new : Claim) (o : Object)
    → contains_object (owned (holding_one held new)) o ≡ (contains_object (owned held) o || (exclusive new && is_object o new.object))
owned_one held new o = by_test (contains_object (objects held) new.object) refl
  where
    by_test : (b : Bool) → contains_object (objects held) new.object ≡ b
        → contains_object (owned (if b then map (merged new) held else held ++ new ∷ [])) o
        ≡ (contains_object (owned held) o || (exclusive new && is_object o new.object))
    by_test true e =
        owned_merged new held o ∙ ap (λ x. contains_object (owned held) o || ((exclusive new && is_object o new.object) && x)) e
        ∙ ap (λ x. contains_object (owned held) o || x) (and_true (exclusive new && is_object o new.object))
    by_test false e =
        ap (λ l. contains_object l o) (owned_append held (new ∷ [])) ∙ list_any-append (is_object o) (owned held) (owned (new ∷ []))
        ∙ ap (λ x. contains_object (owned held) o || x) (has_owned_cons new [] o ∙ or_none (exclusive new && is_object o new.object))

-- ---- all claims
seen_all : (held claims : List Claim) (o : Object)
    → contains_object (objects (holding held claims)) o ≡ (contains_object (objects held) o || contains_object (objects claims) o)
seen_all held [] o = sym (or_none (contains_object (objects held) o))
seen_all held (c ∷ claims) o =
    seen_all (holding_one held c) claims o ∙ ap (λ x. x || contains_object (objects claims) o) (seen_one held c o)
    ∙ or_assoc (contains_object (objects held) o) (is_object o c.object) (contains_object (objects claims) o)

owned_all : (held claims : List Claim) (o : Object)
    → contains_object (owned (holding held claims)) o ≡ (contains_object (owned held) o || contains_object (owned claims) o)
owned_all held [] o = sym (or_none (contains_object (owned held) o))
owned_all held (c ∷ claims) o =
    owned_all (holding_one held c) claims o ∙ ap (λ x. x || contains_object (owned claims) o) (owned_one held c o)
    ∙ or_assoc (contains_object (owned held) o) (exclusive c && is_object o c.object) (contains_object (owned claims) o)
    ∙ ap (λ x. contains_object (owned held) o || x) (sym (has_owned_cons c claims o))

-- two lists that pass the same tests have the same
same_lists : (a b : List Object) (o : Object) → contains_object a o ≡ contains_object b o → Contains a o → Contains b o
same_lists a b o e at = Contains-from_any same_object o b (sym e ∙ found a o at)

-- the objects that are held are those that were claimed
pub held_seen : (claims : List Claim) (o : Object) → Contains (objects (held_of claims)) o ↔ Contains (objects claims) o
held_seen claims o = (
  same_lists (objects (held_of claims)) (objects claims) o (seen_all [] claims o),
  same_lists (objects claims) (objects (held_of claims)) o (sym (seen_all [] claims o)),
)

-- the objects that are owned by what is held are those that the claims own
pub held_owned : (claims : List Claim) (o : Object) → Contains (owned (held_of claims)) o ↔ Contains (owned claims) o
held_owned claims o = (
  same_lists (owned (held_of claims)) (owned claims) o (owned_all [] claims o),
  same_lists (owned claims) (owned (held_of claims)) o (sym (owned_all [] claims o)),
)

-- ---- each once
or_parts : (a b : Bool) → (a || b) ≡ false → (a ≡ false) × (b ≡ false)
or_parts true b e = cc
or_parts false b e = (refl, e)

count_none : (o : Object) (os : List Object) → contains_object os o ≡ false → count_by (is_object o) os ≡ 0
count_none o [] e = refl
count_none o (x ∷ os) e =
    let parts = or_parts (is_object o x) (contains_object os o) e in
    sum_by-append (λ y. cond (is_object o y) 1 0) (x ∷ []) os ∙ ap₂ (λ b n. (0 + cond b 1 0) + n) parts.0 (count_none o os parts.1)

once_one : (held : List Claim) (new : Claim) → AreOnceAtMost (objects held) → AreOnceAtMost (objects (holding_one held new))
once_one held new once = by_test (contains_object (objects held) new.object) refl
  where
    by_test : (b : Bool) → contains_object (objects held) new.object ≡ b → AreOnceAtMost (objects (if b then map (merged new) held else held ++ new ∷ []))
    by_test true e = subst AreOnceAtMost (sym (objects_merged new held)) once
    by_test false e = λ o. subst (λ l. count_by (is_object o) l ≤ 1) (sym (objects_append held (new ∷ [])))
        (subst (λ n. n ≤ 1) (sym (sum_by-append (λ x. cond (is_object o x) 1 0) (objects held) (new.object ∷ []))) (within o (is_object o new.object) refl))
      where
        within : (o : Object) (b : Bool) → is_object o new.object ≡ b → count_by (is_object o) (objects held) + count_by (is_object o) (new.object ∷ []) ≤ 1
        within o true f =
            let none : count_by (is_object o) (objects held)
            ≡ 0 = count_none o (objects held) (ap (contains_object (objects held)) (same_object o new.object f) ∙ e) in
            let one : count_by (is_object o) (new.object ∷ []) ≡ 1 = ap (λ b. 0 + cond b 1 0) f in
            omega arith
        within o false f =
            let few = once o in
            let none : count_by (is_object o) (new.object ∷ []) ≡ 0 = ap (λ b. 0 + cond b 1 0) f in
            omega arith

once_all : (held claims : List Claim) → AreOnceAtMost (objects held) → AreOnceAtMost (objects (holding held claims))
once_all held [] once = once
once_all held (c ∷ claims) once = once_all (holding_one held c) claims (once_one held c once)

-- no object is held twice
pub held_once : (claims : List Claim) → AreOnceAtMost (objects (held_of claims))
held_once claims = once_all [] claims (λ o. omega arith)

-- an object is in a list of held ones where a claim of them is on it
pub has_object : (o : Object) (held : List Claim) → contains_object (objects held) o ≡ list_any (λ (h : Claim). is_object o h.object) held
has_object o [] = refl
has_object o (h ∷ held) = ap (λ b. is_object o h.object || b) (has_object o held)

-- the test as a loop over the claims makes it
pub held_tested : (held seen : List Claim) (new : Claim) (b r : Bool) → seen ≡ held → r ≡ list_any (λ (h : Claim). is_object new.object h.object) seen → r ≡ b
    → holding_one held new ≡ (if b then map (merged new) held else held ++ new ∷ [])
held_tested held seen new b r e f g =
    ap (λ (x : Bool). if x then map (merged new) held else held ++ new ∷ [])
    (has_object new.object held ∙ ap (list_any (λ (h : Claim). is_object new.object h.object)) (sym e) ∙ sym f ∙ g)
