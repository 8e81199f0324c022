-- Beginnings of journals, and entries with their places.
use Rattle.std.proofs.Common.{◌≡◌, ◌≢◌, ℕ, zero, suc, ◌+◌, ◌*◌, ◌<◌, ◌≤◌, ◌^◌, ◌⊎◌, inl, inr, ⊎_elim, Bool, true, false, nat_lt, if◌then◌else◌}
use Rattle.std.proofs.Common.{List, [], ◌∷◌, ◌++◌, length, drop, get_or, set, slice_get, Some, refl, sym, ap, ◌∙◌, subst, arith, append_assoc}
use Rattle.std.proofs.Common.{add-one, lit<, bit_or}
use Rattle.std.proofs.lemmas.List.{append-nil}
use Rattle.std.proofs.lemmas.Nat.{or_shifted, or_block}
use Rattle.std.proofs.lemmas.Bool.Decides.{nat_tests}
use Rattle.std.specs.List.{sum_by}
use Rattle.std.proofs.lemmas.List.Sums.{sum_by-set, sum_by-append}
use mathlib.Core.Option.{some, some-injective, some-ne-none}
use lib.ListN.{get_elem?}
use Rattle.xc_turnstile.specs.declared.view.View.{View}
use Rattle.xc_turnstile.specs.Views.{BeginsWith, numbered, AreAtPlaces, PlacesRise, HasPlace, placed, placed_all, longer, shorter}

-- a journal begins with itself
pub starts_self : {E : Type 0} → (xs : List E) → BeginsWith xs xs
starts_self xs = ([], sym (append-nil xs))

-- a front of a front is a front
pub starts_trans : {E : Type 0} → (xs ys zs : List E) → BeginsWith xs ys → BeginsWith ys zs → BeginsWith xs zs
starts_trans xs ys zs p q = (q.0 ++ p.0, p.1 ∙ (ap (λ w. w ++ p.0) q.1 ∙ append_assoc zs q.0 p.0))

-- what stands in a front stands in the whole
get_front : {E : Type 0} → (ys rest : List E) (k : ℕ) (e : E) → slice_get ys k ≡ Some e → slice_get (ys ++ rest) k ≡ Some e
get_front [] rest k e h = absurd cc
get_front (y ∷ ys) rest zero e h = h
get_front (y ∷ ys) rest (suc k) e h = get_front ys rest k e h

-- entries at their places stay there where the journal grows
pub stands_longer : {E : Type 0} → (ps : List (ℕ × E)) (xs ys : List E) → BeginsWith xs ys → AreAtPlaces ys ps → AreAtPlaces xs ps
stands_longer [] xs ys p h = tt
stands_longer {E = E} (q ∷ ps) xs ys p h = (ap (λ (w : List E). slice_get w q.0) p.1 ∙ get_front ys p.0 q.0 q.1 h.0, stands_longer ps xs ys p h.1)

-- what stands somewhere stands below the end
get_inside : {E : Type 0} → (xs : List E) (k : ℕ) (e : E) → slice_get xs k ≡ Some e → k < length xs
get_inside [] k e h = absurd cc
get_inside (x ∷ xs) zero e h = omega arith
get_inside (x ∷ xs) (suc k) e h = let r = get_inside xs k e h in omega arith

-- the places of entries are below the length of the journal
pub stands_below : {E : Type 0} → (ps : List (ℕ × E)) (xs : List E) (k : ℕ) → AreAtPlaces xs ps → HasPlace k ps → k < length xs
stands_below [] xs k h has = absurd has
stands_below (p ∷ ps) xs k h (inl e) = let lt = get_inside xs p.0 p.1 h.0 in omega arith
stands_below (p ∷ ps) xs k h (inr has) = stands_below ps xs k h.1 has

-- two lists of entries at their places are one
pub stands_append : {E : Type 0} → (ps qs : List (ℕ × E)) (xs : List E) → AreAtPlaces xs ps → AreAtPlaces xs qs → AreAtPlaces xs (ps ++ qs)
stands_append [] qs xs h k = k
stands_append (p ∷ ps) qs xs h k = (h.0, stands_append ps qs xs h.1 k)

-- the first entry after so many
drop_get : {E : Type 0} → (xs : List E) (n : ℕ) (e : E) (es : List E) → drop n xs ≡ e ∷ es → (slice_get xs n ≡ Some e) × (drop (suc n) xs ≡ es)
drop_get [] zero e es h = absurd cc
drop_get [] (suc n) e es h = absurd cc
drop_get (x ∷ xs) zero e es h = (cc (h), cc (h))
drop_get (x ∷ xs) (suc n) e es h = drop_get xs n e es h

-- what was added stands at its places
pub numbered_stands : {E : Type 0} → (es xs : List E) (n : ℕ) → drop n xs ≡ es → AreAtPlaces xs (numbered n es)
numbered_stands [] xs n h = tt
numbered_stands (e ∷ es) xs n h = let r = drop_get xs n e es h in (r.0, numbered_stands es xs (n + 1) (rw add-one r.1))

-- and nowhere in front of them
pub numbered_above : {E : Type 0} → (es : List E) (n k : ℕ) → HasPlace k (numbered n es) → n ≤ k
numbered_above [] n k h = absurd h
numbered_above (e ∷ es) n k (inl h) = omega arith
numbered_above (e ∷ es) n k (inr h) = let r = numbered_above es (n + 1) k h in omega arith

-- a place of two lists is one of the first or of the second
pub has_append : {E : Type 0} → (ps qs : List (ℕ × E)) (k : ℕ) → HasPlace k (ps ++ qs) → HasPlace k ps ⊎ HasPlace k qs
has_append [] qs k h = inr h
has_append (p ∷ ps) qs k (inl h) = inl (inl h)
has_append (p ∷ ps) qs k (inr h) = ⊎_elim (λ a. inl (inr a)) (λ b. inr b) (has_append ps qs k h)

-- the places of what was added rise
pub numbered_rises : {E : Type 0} → (es : List E) (n : ℕ) → PlacesRise n (numbered n es)
numbered_rises [] n = tt
numbered_rises (e ∷ es) n = (omega arith, numbered_rises es (n + 1))

-- places that rise from n on rise from a smaller number on
pub rises_lower : {E : Type 0} → (ps : List (ℕ × E)) (m n : ℕ) → m ≤ n → PlacesRise n ps → PlacesRise m ps
rises_lower [] m n le h = tt
rises_lower (p ∷ ps) m n le h = (let a = h.0 in omega arith, h.1)

-- places that rise, and then others after them
pub rises_append : {E : Type 0} → (ps qs : List (ℕ × E)) (m n : ℕ) → PlacesRise m ps → ((k : ℕ) → HasPlace k ps → k < n) → m ≤ n → PlacesRise n qs
    → PlacesRise m (ps ++ qs)
rises_append [] qs m n h below le k = rises_lower qs m n le k
rises_append (p ∷ ps) qs m n h below le k =
    (h.0, rises_append ps qs (p.0 + 1) n h.1 (λ j x. below j (inr x)) (let b = below p.0 (inl refl) in omega arith) k)

-- an even word becomes odd by an or with 1
pub or_even : (m : ℕ) → bit_or (2 * m) 1 ≡ 2 * m + 1
or_even m = let e : 2 * m ≡ m * 2 ^ 1 = omega arith in ap (λ (n : ℕ). bit_or n 1) e ∙ (or_shifted m 1 1 (lit< tt) ∙ omega arith)

-- and an odd word stays as it is
pub or_odd : (m : ℕ) → bit_or (2 * m + 1) 1 ≡ 2 * m + 1
or_odd m =
    let e : 2 * m + 1 ≡ m * 2 ^ 1 + 1 = omega arith in
    let z : bit_or m 0 ≡ m = (let o : m ≡ m * 2 ^ 0 = omega arith in ap (λ (n : ℕ). bit_or n 0) o ∙ (or_shifted m 0 0 (lit< tt) ∙ omega arith)) in
    ap (λ (n : ℕ). bit_or n 1) e ∙ (or_block 1 m 0 1 1 (lit< tt) (lit< tt) ∙ (ap (λ (n : ℕ). n * 2 ^ 1 + bit_or 1 1) z ∙ omega arith))

-- the view in a place
get_there : {E V O : Type 0} → (views : List (View E V O)) (i : ℕ) (v d : View E V O) → get_elem? views i ≡ some v → (get_or views i d ≡ v) × (i < length views)
get_there [] i v d h = absurd (some-ne-none v (sym h))
get_there (x ∷ xs) zero v d h = (some-injective x v h, omega arith)
get_there (x ∷ xs) (suc i) v d h = let r = get_there xs i v d h in (r.0, (let lt = r.1 in omega arith))

-- all shares, where one view is another
pub total_set : {E V O : Type 0} → (views : List (View E V O)) (i : ℕ) (v w : View E V O) → get_elem? views i ≡ some v
    → sum_by (λ (u : View E V O). u.shares) (set views i w) + v.shares ≡ sum_by (λ (u : View E V O). u.shares) views + w.shares
total_set {E = E} {V = V} {O = O} views i v w h =
    let t = get_there views i v v h in
    let f : View E V O → ℕ = λ u. u.shares in
    omega (arith, sum_by-set f views i w v t.1, ap f t.0)

-- no view has more shares than there are
pub total_above : {E V O : Type 0} → (views : List (View E V O)) (i : ℕ) (v : View E V O) → get_elem? views i ≡ some v
    → v.shares ≤ sum_by (λ (u : View E V O). u.shares) views
total_above {E = E} {V = V} {O = O} views i v h = let w : View E V O = record v { shares = 0 } in omega (arith, total_set views i v w h)

-- of two beginnings of one list the shorter begins the longer
pub starts_shorter : {E : Type 0} → (xs ys zs : List E) → BeginsWith zs xs → BeginsWith zs ys → length xs ≤ length ys → BeginsWith ys xs
starts_shorter [] ys zs p q le = (ys, refl)
starts_shorter (x ∷ xs) [] zs p q le = absurd (omega arith)
starts_shorter (x ∷ xs) (y ∷ ys) [] p q le = absurd (cc (p.1))
starts_shorter (x ∷ xs) (y ∷ ys) (z ∷ zs) p q le =
    let heads : y ≡ x = cc (p.1, q.1) in
    let rest = starts_shorter xs ys zs (p.0, cc (p.1)) (q.0, cc (q.1)) (omega arith) in
    (rest.0, cc (heads, rest.1))

-- a step of the next lemma
placed_cases : {E : Type 0} → (p q : ℕ × E) (qs : List (ℕ × E)) (n : ℕ) (b : Bool) → nat_lt p.0 q.0 ≡ b → PlacesRise n (q ∷ qs) → n ≤ p.0
    → (HasPlace p.0 (q ∷ qs) → ⊥)
    → (PlacesRise (q.0 + 1) qs → q.0 + 1 ≤ p.0 → (HasPlace p.0 qs → ⊥) → PlacesRise (q.0 + 1) (placed p qs))
    → PlacesRise n (if b then p ∷ q ∷ qs else q ∷ placed p qs)
placed_cases p q qs n true lt h le apart rest = let l : p.0 < q.0 = grind (arith, nat_tests) in (le, (omega arith, h.1))
placed_cases p q qs n false lt h le apart rest =
    let l : q.0 ≤ p.0 = grind (arith, nat_tests) in
    let ne : q.0 ≢ p.0 = λ e. apart (inl e) in
    (h.0, rest h.1 (omega arith) (λ x. apart (inr x)))

-- an entry put among others leaves their places rising
placed_rises : {E : Type 0} → (p : ℕ × E) (qs : List (ℕ × E)) (n : ℕ) → PlacesRise n qs → n ≤ p.0 → (HasPlace p.0 qs → ⊥) → PlacesRise n (placed p qs)
placed_rises p [] n h le apart = (le, tt)
placed_rises p (q ∷ qs) n h le apart = placed_cases p q qs n (nat_lt p.0 q.0) refl h le apart (λ a b c. placed_rises p qs (q.0 + 1) a b c)

-- its places are that one and the old ones
pub placed_has : {E : Type 0} → (p : ℕ × E) (qs : List (ℕ × E)) (k : ℕ) → HasPlace k (placed p qs) → (p.0 ≡ k) ⊎ HasPlace k qs
placed_has p [] k (inl h) = inl h
placed_has p [] k (inr h) = absurd h
placed_has p (q ∷ qs) k h = elim (nat_lt p.0 q.0) as (λ b. HasPlace k (if b then p ∷ q ∷ qs else q ∷ placed p qs) → (p.0 ≡ k) ⊎ HasPlace k (q ∷ qs))
    [ true ↦ λ x. x | false ↦ λ x. ⊎_elim (λ a. inr (inl a)) (λ b. ⊎_elim (λ c. inl c) (λ d. inr (inr d)) (placed_has p qs k b)) x ] h

-- and all stand there
placed_stands : {E : Type 0} → (p : ℕ × E) (qs : List (ℕ × E)) (xs : List E) → slice_get xs p.0 ≡ Some p.1 → AreAtPlaces xs qs → AreAtPlaces xs (placed p qs)
placed_stands p [] xs h k = (h, tt)
placed_stands p (q ∷ qs) xs h k =
    elim (nat_lt p.0 q.0) as
    (λ b. AreAtPlaces xs (if b then p ∷ q ∷ qs else q ∷ placed p qs)) [ true ↦ (h, (k.0, k.1)) | false ↦ (k.0, placed_stands p qs xs h k.1) ]

-- the places of two lists in one
pub all_placed_has : {E : Type 0} → (ps qs : List (ℕ × E)) (k : ℕ) → HasPlace k (placed_all ps qs) → HasPlace k ps ⊎ HasPlace k qs
all_placed_has [] qs k h = inr h
all_placed_has (p ∷ ps) qs k h =
    ⊎_elim (λ a. inl (inl a)) (λ b. ⊎_elim (λ c. inl (inr c)) (λ d. inr d) (all_placed_has ps qs k b)) (placed_has p (placed_all ps qs) k h)

-- all stand there
pub all_placed_stands : {E : Type 0} → (ps qs : List (ℕ × E)) (xs : List E) → AreAtPlaces xs ps → AreAtPlaces xs qs → AreAtPlaces xs (placed_all ps qs)
all_placed_stands [] qs xs h k = k
all_placed_stands (p ∷ ps) qs xs h k = placed_stands p (placed_all ps qs) xs h.0 (all_placed_stands ps qs xs h.1 k)

-- places that rise from n on are n or more
rises_above : {E : Type 0} → (ps : List (ℕ × E)) (n k : ℕ) → PlacesRise n ps → HasPlace k ps → n ≤ k
rises_above [] n k h x = absurd x
rises_above (p ∷ ps) n k h (inl e) = let a = h.0 in omega arith
rises_above (p ∷ ps) n k h (inr x) = let r = rises_above ps (p.0 + 1) k h.1 x in let a = h.0 in omega arith

-- two rising lists with no place in common are one rising list
pub all_placed_rises : {E : Type 0} → (ps qs : List (ℕ × E)) (m : ℕ) → PlacesRise m ps → PlacesRise 0 qs → ((k : ℕ) → HasPlace k ps → HasPlace k qs → ⊥)
    → PlacesRise 0 (placed_all ps qs)
all_placed_rises [] qs m h k apart = k
all_placed_rises (p ∷ ps) qs m h k apart =
    placed_rises p (placed_all ps qs) 0 (all_placed_rises ps qs (p.0 + 1) h.1 k (λ j a b. apart j (inr a) b)) (omega arith)
    (λ x. ⊎_elim (λ a. let up = rises_above ps (p.0 + 1) p.0 h.1 a in omega arith) (λ b. apart p.0 (inl refl) b) (all_placed_has ps qs p.0 x))

-- it stands among them itself
placed_self : {E : Type 0} → (p : ℕ × E) (qs : List (ℕ × E)) → HasPlace p.0 (placed p qs)
placed_self p [] = inl refl
placed_self p (q ∷ qs) = elim (nat_lt p.0 q.0) as (λ b. HasPlace p.0 (if b then p ∷ q ∷ qs else q ∷ placed p qs))
    [ true ↦ inl refl | false ↦ inr (placed_self p qs) ]

-- and so do the others
placed_others : {E : Type 0} → (p : ℕ × E) (qs : List (ℕ × E)) (k : ℕ) → HasPlace k qs → HasPlace k (placed p qs)
placed_others p [] k h = absurd h
placed_others p (q ∷ qs) k h = elim (nat_lt p.0 q.0) as (λ b. HasPlace k (if b then p ∷ q ∷ qs else q ∷ placed p qs))
    [ true ↦ inr h | false ↦ ⊎_elim (λ e. inl e) (λ x. inr (placed_others p qs k x)) h ]

-- the places of either of two lists are among those of both
pub has_all_placed : {E : Type 0} → (ps qs : List (ℕ × E)) (k : ℕ) → HasPlace k ps ⊎ HasPlace k qs → HasPlace k (placed_all ps qs)
has_all_placed [] qs k (inl h) = absurd h
has_all_placed [] qs k (inr h) = h
has_all_placed (p ∷ ps) qs k (inl (inl e)) = subst (λ j. HasPlace j (placed p (placed_all ps qs))) e (placed_self p (placed_all ps qs))
has_all_placed (p ∷ ps) qs k (inl (inr h)) = placed_others p (placed_all ps qs) k (has_all_placed ps qs k (inl h))
has_all_placed (p ∷ ps) qs k (inr h) = placed_others p (placed_all ps qs) k (has_all_placed ps qs k (inr h))

before_apart : {E : Type 0} → (p q : ℕ × E) (qs : List (ℕ × E)) (n : ℕ) → PlacesRise n (p ∷ q ∷ qs) → PlacesRise n (q ∷ qs) × (HasPlace p.0 (q ∷ qs) → ⊥)
before_apart p q qs n w =
    let low : n ≤ p.0 = w.0 in
    let next : p.0 + 1 ≤ q.0 = w.1.0 in (
      (omega arith, w.1.1),
      λ x. ⊎_elim (λ e. omega arith) (λ y. let up = rises_above qs (q.0 + 1) p.0 w.1.1 y in omega arith) x,
    )

behind_apart : {E : Type 0} → (p q : ℕ × E) (qs : List (ℕ × E)) (n : ℕ) → n ≤ q.0 → PlacesRise (q.0 + 1) (placed p qs)
    → PlacesRise (q.0 + 1) qs × (HasPlace p.0 qs → ⊥) → PlacesRise n (q ∷ qs) × (HasPlace p.0 (q ∷ qs) → ⊥)
behind_apart p q qs n low rises rest =
    let up = rises_above (placed p qs) (q.0 + 1) p.0 rises (placed_self p qs) in
    ((low, rest.0), λ x. ⊎_elim (λ e. omega arith) rest.1 x)

-- where places rise after an entry was put among them, they rose, and its place was not one of them
placed_apart : {E : Type 0} → (p : ℕ × E) (qs : List (ℕ × E)) (n : ℕ) → PlacesRise n (placed p qs) → PlacesRise n qs × (HasPlace p.0 qs → ⊥)
placed_apart p [] n h = (tt, λ x. x)
placed_apart p (q ∷ qs) n h =
    elim (nat_lt p.0 q.0)
    as (λ b. PlacesRise n (if b then p ∷ q ∷ qs else q ∷ placed p qs) → PlacesRise n (q ∷ qs) × (HasPlace p.0 (q ∷ qs) → ⊥))
    [ true ↦ λ w. before_apart p q qs n w | false ↦ λ w. behind_apart p q qs n w.0 w.1 (placed_apart p qs (q.0 + 1) w.1) ] h

-- two lists that rise as one have no place in common
pub all_placed_apart : {E : Type 0} → (ps qs : List (ℕ × E)) → PlacesRise 0 (placed_all ps qs) → (k : ℕ) → HasPlace k ps → HasPlace k qs → ⊥
all_placed_apart [] qs h k a b = absurd a
all_placed_apart (p ∷ ps) qs h k (inl e) b =
    (placed_apart p (placed_all ps qs) 0 h).1 (subst (λ j. HasPlace j (placed_all ps qs)) (sym e) (has_all_placed ps qs k (inr b)))
all_placed_apart (p ∷ ps) qs h k (inr a) b = all_placed_apart ps qs (placed_apart p (placed_all ps qs) 0 h).0 k a b

-- what holds of both holds of the longer
pub longer_is : {E : Type 0} → (P : List E → Type 0) (xs ys : List E) → P xs → P ys → P (longer xs ys)
longer_is P xs ys a b = elim (nat_lt (length xs) (length ys)) as (λ c. P (if c then ys else xs)) [ true ↦ b | false ↦ a ]

-- and of the shorter
pub shorter_is : {E : Type 0} → (P : List E → Type 0) (xs ys : List E) → P xs → P ys → P (shorter xs ys)
shorter_is P xs ys a b = elim (nat_lt (length xs) (length ys)) as (λ c. P (if c then xs else ys)) [ true ↦ a | false ↦ b ]

-- all shares, with one view more
pub total_more : {E V O : Type 0} → (views : List (View E V O)) (w : View E V O)
    → sum_by (λ (u : View E V O). u.shares) (views ++ w ∷ []) ≡ sum_by (λ (u : View E V O). u.shares) views + w.shares
total_more {E = E} {V = V} {O = O} views w = let f : View E V O → ℕ = λ u. u.shares in omega (arith, sum_by-append f views (w ∷ []))
