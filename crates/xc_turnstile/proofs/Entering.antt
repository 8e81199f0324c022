-- Each step keeps the rule.
use Rattle.std.proofs.Common.{◌≡◌, ◌≢◌, ℕ, zero, suc, ◌+◌, ◌*◌, ◌%◌, ◌==◌, ◌<◌, ◌≤◌, ◌⊎◌, inl, inr, ⊎_elim, Bool, true, false, List, [], ◌∷◌, map}
use Rattle.std.proofs.Common.{length, drop, get_or, set, Option, Some, refl, sym, ap, ◌∙◌, subst, arith, bit_or}
use Rattle.std.proofs.lemmas.Bool.Decides.{nat_tests}
use mathlib.Core.Logic.{dite}
use native.Mathlib.Decide.{ℕ_discrete}
use mathlib.Core.Option.{Option as Maybe, some, none, some-injective, some-ne-none}
use lib.ListN.{get_elem?}
use Rattle.atomic_table.specs.Table.{Me, takes, gives, keeps, rest, opening, Allows}
use Rattle.atomic_table.proofs.Lists.{at_set, set_here, set_else}
use Rattle.xc_turnstile.specs.declared.view.View.{View}
use Rattle.xc_turnstile.specs.Meanings.{Meaning}
use Rattle.xc_turnstile.specs.Views.{BeginsWith, AreAtPlaces, PlacesRise, HasPlace, added, entered_view, lost_view, left_view, first_view}
use Rattle.xc_turnstile.specs.Rules.{IsTrueView, AreTrueViews, IsOpen, IsTaken, IsRuled, IsEntering, IsLeaving}
use Rattle.xc_turnstile.proofs.Fronts.{starts_self, starts_trans, stands_longer, stands_below, stands_append, numbered_stands, numbered_above}
use Rattle.xc_turnstile.proofs.Fronts.{numbered_rises, has_append, rises_append, or_even, or_odd, total_set}

-- what a pass knows stays true where the journal grows
pub true_longer : {E V O : Type 0} → (log log' : List E) (from : O) (v : View E V O) → BeginsWith log' log → IsTrueView log from v → IsTrueView log' from v
true_longer log log' from v p f =
    record {
      seen = starts_trans log' log v.seen p f.seen;
      beside = starts_trans log' log v.beside p f.beside;
      mine = stands_longer v.mine log' log p f.mine;
      rises = f.rises;
      origin = f.origin;
    }

-- one pass moves: the journal may have grown, and what the pass has of its own is its old part or new
pub one_moved : {E V O : Type 0} → (log log' : List E) (from : O) (views : List (View E V O)) (id : ℕ) (v w : View E V O) → AreTrueViews log from views
    → get_elem? views id ≡ some v → BeginsWith log' log
    → w.shares ≡ v.shares → 0 < v.shares → IsTrueView log' from w → ((k : ℕ) → HasPlace k w.mine → HasPlace k v.mine ⊎ (length log ≤ k))
    → AreTrueViews log' from (set views id w)
one_moved {E = E} {V = V} {O = O} log log' from views id v w c at grows same pos fit own =
    let below : (i k : ℕ) (u : View E V O) → get_elem? views i ≡ some u → HasPlace k u.mine → k < length log = λ i k u e h. dite (ℕ_discrete u.shares 0)
    (λ (z : u.shares ≡ 0). let none : HasPlace {E = E} k [] = subst (HasPlace k) (c.spent i u e z).1 h in absurd none)
    (λ (nz : u.shares ≢ 0). stands_below u.mine log k (c.true_view i u e (omega arith)).mine h) in
    record {
      true_view = λ i u e p. ⊎_elim (λ (t : (i ≡ id) × (w ≡ u)). subst (IsTrueView log' from) t.1 fit)
          (λ (t : (i ≢ id) × (get_elem? views i ≡ some u)). true_longer log log' from u grows (c.true_view i u t.1 p)) (at_set views id i w u e);
      spent = λ i u e z. ⊎_elim (λ (t : (i ≡ id) × (w ≡ u)). absurd (omega (arith, ap (λ (x : View E V O). x.shares) t.1)))
          (λ (t : (i ≢ id) × (get_elem? views i ≡ some u)). c.spent i u t.1 z) (at_set views id i w u e);
      apart = λ i j k u x ei ej hu hx.
          ⊎_elim
          (λ (a : (i ≡ id) × (w ≡ u)). ⊎_elim
          (λ (b : (j ≡ id) × (w ≡ x)). a.0 ∙ sym b.0)
          (λ (b : (j ≢ id) × (get_elem? views j ≡ some x)).
          ⊎_elim (λ old. absurd (b.0 (sym (c.apart id j k v x at b.1 old hx)))) (λ new. absurd (let lt = below j k x b.1 hx in omega arith))
          (own k (subst (λ (y : View E V O). HasPlace k y.mine) (sym a.1) hu)))
          (at_set views id j w x ej))
          (λ (a : (i ≢ id) × (get_elem? views i ≡ some u)). ⊎_elim
          (λ (b : (j ≡ id) × (w ≡ x)).
          ⊎_elim (λ old. absurd (a.0 (c.apart i id k u v a.1 at hu old))) (λ new. absurd (let lt = below i k u a.1 hu in omega arith))
          (own k (subst (λ (y : View E V O). HasPlace k y.mine) (sym b.1) hx)))
          (λ (b : (j ≢ id) × (get_elem? views j ≡ some x)). c.apart i j k u x a.1 b.1 hu hx)
          (at_set views id j w x ej))
          (at_set views id i w u ei);
      whole = omega (arith, total_set views id v w at, c.whole);
    }

-- a pass that is not inside is outside
not_inside : (b : Bool) → (b ≡ true → ⊥) → b ≡ false
not_inside true h = absurd (h refl)
not_inside false h = refl

-- the only view of a list of one
at_one : {E V O : Type 0} → (v : View E V O) (i : ℕ) (u : View E V O) → get_elem? (v ∷ []) i ≡ some u → (i ≡ 0) × (v ≡ u)
at_one v zero u e = (refl, some-injective v u e)
at_one v (suc i) u e = absurd (some-ne-none u (sym e))

-- a view in a list stands below its length
here_inside : {E V O : Type 0} → (views : List (View E V O)) (i : ℕ) (v : View E V O) → get_elem? views i ≡ some v → i < length views
here_inside [] i v e = absurd (some-ne-none v (sym e))
here_inside (x ∷ xs) zero v e = omega arith
here_inside (x ∷ xs) (suc i) v e = let r = here_inside xs i v e in omega arith

module _ {X E V O : Type 0} (m : Meaning X E V O) where
  -- the rule holds of a new turnstile
  pub new_ruled : (x : X) (word : ℕ) (slots : List (Option X)) → word ≡ 2 * length (m.journal x) → slots ≡ Some x ∷ []
      → IsRuled m (opening (word ∷ []) slots (first_view (m.origin x) (m.journal x)))
  new_ruled x word slots is one =
      let v = first_view (m.origin x) (m.journal x) in
      let only : (i : ℕ) (u : View E V O) → get_elem? (v ∷ []) i ≡ some u → (i ≡ 0) × (v ≡ u) = λ i u e. at_one v i u e in (
        m.journal x,
        m.origin x,
        record {
          true_view = λ i u e p. subst (IsTrueView (m.journal x) (m.origin x)) (only i u e).1
              (record { seen = starts_self (m.journal x); beside = (m.journal x, refl); mine = tt; rises = tt; origin = refl });
          spent = λ i u e z. absurd (let q = ap (λ (y : View E V O). y.shares) (only i u e).1 in omega arith);
          apart = λ i j k u w ei ej hu hw. (only i u ei).0 ∙ sym (only j w ej).0;
          whole = refl;
        },
        inl (record {
          value = x;
          word = ap (λ (n : ℕ). n ∷ []) is;
          home = ap (map some) one;
          log_is = refl;
          from_is = refl;
          outside = λ i u e. sym (ap (λ (y : View E V O). y.inside) (only i u e).1);
        }),
      )

  -- it stays true of a pass that knows the same
  true_as : (log : List E) (from : O) (v w : View E V O) → IsTrueView log from v → w.seen ≡ v.seen → w.beside ≡ v.beside → w.mine ≡ v.mine
      → w.origin ≡ v.origin → IsTrueView log from w
  true_as log from v w f a b c d =
      record {
        seen = subst (BeginsWith log) (sym a) f.seen;
        beside = subst (BeginsWith log) (sym b) f.beside;
        mine = subst (AreAtPlaces log) (sym c) f.mine;
        rises = subst (PlacesRise 0) (sym c) f.rises;
        origin = d ∙ f.origin;
      }

  -- a pass outside is none that is inside
  outside_else : (views : List (View E V O)) (id seat : ℕ) (v holder : View E V O) → get_elem? views id ≡ some v
      → get_elem? views seat ≡ some holder → v.inside ≡ false → holder.inside ≡ true → id ≢ seat
  outside_else views id seat v holder a b out in' e =
      let same : v ≡ holder = some-injective v holder (sym a ∙ (ap (get_elem? views) e ∙ b)) in
      let q : false ≡ true = sym out ∙ (ap (λ (y : View E V O). y.inside) same ∙ in') in absurd cc

  -- a try to enter keeps the rule: the pass is then inside, or has lost
  pub enter_allows : (slots id : ℕ) (v : View E V O) → v.inside ≡ false → 0 < v.shares
      → Allows (IsRuled m) slots id (v, []) 0 (λ n. bit_or n 1) (λ n. IsEntering m (n % 2 == 0) (v, []))
  enter_allows slots id v out alive s law len at small =
      let log = law.0 in
      let from = law.1 in
      let c = law.2 in
      let fit = c.true_view id v at alive in
      ⊎_elim
      (λ (f : IsOpen m log from s).
      let x = f.value in
      let w = entered_view (m.journal x) (m.count x) v in
      let found : get_or s.words 0 0 ≡ 2 * length log = ap (λ (ws : List ℕ). get_or ws 0 0) f.word in
      let even : (get_or s.words 0 0 % 2 == 0) ≡ true = grind (arith, nat_tests) in
      let words : set s.words 0 (bit_or (get_or s.words 0 0) 1) ≡ (2 * length log + 1) ∷ [] =
      ap (λ (ws : List ℕ). set ws 0 (bit_or (get_or ws 0 0) 1)) f.word ∙ ap (λ (n : ℕ). n ∷ []) (or_even (length log)) in (
        w,
        takes 0 (Some x),
        ap (λ (h : List (Maybe (Option X))). get_elem? h 0) f.home,
        (
          log,
          from,
          one_moved log log from s.views id v w c at (starts_self log) refl alive (true_as log from v w fit refl refl refl refl) (λ k h. inl h),
          inr (record {
            seat = id;
            holder = w;
            word = words;
            home = ap (λ (h : List (Maybe (Option X))). set h 0 none) f.home;
            there = set_here s.views id w (here_inside s.views id v at);
            inside = refl;
            given = f.log_is;
            alone = λ i u e on. ⊎_elim (λ (t : (i ≡ id) × (w ≡ u)). t.0)
                (λ (t : (i ≢ id) × (get_elem? s.views i ≡ some u)). let q : false ≡ true = sym (f.outside i u t.1)
                ∙ on in absurd cc) (at_set s.views id i w u e);
          }),
        ),
        subst (λ (b : Bool). IsEntering m b (v, []) (w, (0, Some x) ∷ [])) (sym even)
            (x, refl, subst (λ (l : List E). BeginsWith l v.seen) (sym f.log_is) fit.seen, fit.origin ∙ sym (ap Some f.from_is), refl),
      ))
      (λ (t : IsTaken m log s).
      let w = lost_view v in
      let found : get_or s.words 0 0 ≡ 2 * length log + 1 = ap (λ (ws : List ℕ). get_or ws 0 0) t.word in
      let odd : (get_or s.words 0 0 % 2 == 0) ≡ false = grind (arith, nat_tests) in
      let words : set s.words 0 (bit_or (get_or s.words 0 0) 1) ≡ (2 * length log + 1) ∷ [] =
      ap (λ (ws : List ℕ). set ws 0 (bit_or (get_or ws 0 0) 1)) t.word ∙ ap (λ (n : ℕ). n ∷ []) (or_odd (length log)) in
      let other = outside_else s.views id t.seat v t.holder at t.there out t.inside in (
        w,
        keeps,
        tt,
        (
          log,
          from,
          one_moved log log from s.views id v w c at (starts_self log) refl alive (true_as log from v w fit refl refl refl refl) (λ k h. inl h),
          inr (record {
            seat = t.seat;
            holder = t.holder;
            word = words;
            home = t.home;
            there = set_else s.views id t.seat w (λ e. other (sym e)) ∙ t.there;
            inside = t.inside;
            given = t.given;
            alone = λ i u e on. ⊎_elim (λ (q : (i ≡ id) × (w ≡ u)). let z : false ≡ true = sym out ∙ (ap (λ (y : View E V O). y.inside) q.1 ∙ on) in absurd cc)
                (λ (q : (i ≢ id) × (get_elem? s.views i ≡ some u)). t.alone i u q.1 on) (at_set s.views id i w u e);
          }),
        ),
        subst (λ (b : Bool). IsEntering m b (v, []) (w, [])) (sym odd) (refl, refl),
      ))
      law.3

  -- the same, for a pass as the seat has it
  pub may_enter : (slots id : ℕ) (me : Me (Option X) (View E V O)) → me.1 ≡ [] → me.0.inside ≡ false → 0 < me.0.shares
      → Allows (IsRuled m) slots id me 0 (λ n. bit_or n 1) (λ n. IsEntering m (n % 2 == 0) me)
  may_enter slots id me empty out alive =
      subst (λ (xs : List (ℕ × Option X)). Allows (IsRuled m) slots id (me.0, xs) 0 (λ n. bit_or n 1) (λ n. IsEntering m (n % 2 == 0) (me.0, xs)))
      (sym empty)
      (enter_allows slots id me.0 out alive)

  -- a pass that found an even word has the slot
  pub has_slot : (found : ℕ) (me me' : Me (Option X) (View E V O)) → IsEntering m (found % 2 == 0) me me' → found % 2 ≡ 0
      → (x : Option X) × (me'.1 ≡ (0, x) ∷ rest me'.1)
  has_slot found me me' h even =
      let b : (found % 2 == 0) ≡ true = grind (arith, nat_tests) in
      let e = subst (λ (c : Bool). IsEntering m c me me') b h in
      (Some e.0, subst (λ (xs : List (ℕ × Option X)). xs ≡ (0, Some e.0) ∷ rest xs) (sym e.1) refl)

  -- a leaving keeps the rule: the journal that was handed out is a front of the value that comes back
  leave_allows : (slots id : ℕ) (v : View E V O) (x : X) (word : ℕ) → v.inside ≡ true → 0 < v.shares
      → BeginsWith (m.journal x) v.given → v.origin ≡ Some (m.origin x) → word ≡ 2 * length (m.journal x)
      → Allows (IsRuled m) slots id (v, (0, Some x) ∷ []) 0 (λ n. word) (λ n. IsLeaving m (v, (0, Some x) ∷ []))
  leave_allows slots id v x word in' alive grows from_x is s law len at small =
      let log = law.0 in
      let from = law.1 in
      let c = law.2 in
      let fit = c.true_view id v at alive in
      ⊎_elim
      (λ (f : IsOpen m log from s). let z : false ≡ true = sym (f.outside id v at) ∙ in' in absurd cc)
      (λ (t : IsTaken m log s).
      let w = left_view (m.journal x) (m.count x) (m.last x) v in
      let me : id ≡ t.seat = t.alone id v at in' in
      let same : v ≡ t.holder = some-injective v t.holder (sym at ∙ (ap (get_elem? s.views) me ∙ t.there)) in
      let given : v.given ≡ log = ap (λ (y : View E V O). y.given) same ∙ t.given in
      let grows' : BeginsWith (m.journal x) log = subst (BeginsWith (m.journal x)) given grows in
      let n = length v.given in
      let first : length log ≡ n = ap length (sym given) in
      let below : (k : ℕ) → HasPlace k v.mine → k < n = λ k h. (let lt = stands_below v.mine log k fit.mine h in omega arith) in (
        w,
        gives,
        tt,
        (
          m.journal x,
          from,
          one_moved log (m.journal x) from s.views id v w c at grows' refl alive
              (record {
                seen = starts_self (m.journal x);
                beside = starts_trans (m.journal x) log v.beside grows' fit.beside;
                mine = stands_append v.mine (added n (m.journal x)) (m.journal x) (stands_longer v.mine (m.journal x) log grows' fit.mine)
                    (numbered_stands (drop n (m.journal x)) (m.journal x) n refl);
                rises = rises_append v.mine (added n (m.journal x)) 0 n fit.rises below (omega arith) (numbered_rises (drop n (m.journal x)) n);
                origin = fit.origin;
              })
              (λ k h. ⊎_elim (λ old. inl old) (λ new. inr (let up = numbered_above (drop n (m.journal x)) n k new in omega arith))
              (has_append v.mine (added n (m.journal x)) k h)),
          inl (record {
            value = x;
            word = ap (λ (ws : List ℕ). set ws 0 word) t.word ∙ ap (λ (k : ℕ). k ∷ []) is;
            home = ap (λ (h : List (Maybe (Option X))). set h 0 (some (Some x))) t.home;
            log_is = refl;
            from_is = (let q : Some (m.origin x) ≡ Some from = sym from_x ∙ fit.origin in cc);
            outside = λ i u e. ⊎_elim (λ (q : (i ≡ id) × (w ≡ u)). ap (λ (y : View E V O). y.inside) (sym q.1))
                (λ (q : (i ≢ id) × (get_elem? s.views i ≡ some u)). not_inside u.inside (λ on. q.0 (t.alone i u q.1 on ∙ sym me)))
                (at_set s.views id i w u e);
          }),
        ),
        (x, refl, refl, refl),
      ))
      law.3

  -- the same, for a hold as the seat has it
  pub may_leave : (slots id : ℕ) (me : Me (Option X) (View E V O)) (x : X) (word : ℕ) → me.1 ≡ (0, Some x) ∷ [] → me.0.inside ≡ true → 0 < me.0.shares
      → BeginsWith (m.journal x) me.0.given → me.0.origin ≡ Some (m.origin x) → word ≡ 2 * length (m.journal x)
      → Allows (IsRuled m) slots id me 0 (λ n. word) (λ n. IsLeaving m me)
  may_leave slots id me x word has in' alive grows from_x is =
      subst (λ (xs : List (ℕ × Option X)). Allows (IsRuled m) slots id (me.0, xs) 0 (λ n. word) (λ n. IsLeaving m (me.0, xs))) (sym has)
      (leave_allows slots id me.0 x word in' alive grows from_x is)
