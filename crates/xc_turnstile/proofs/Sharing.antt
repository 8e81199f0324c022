-- Splitting, meeting and closing keep the rule.
use Rattle.std.proofs.Common.{◌≡◌, ◌≢◌, ℕ, ◌/◌, ◌^◌, ◌<◌, ◌≤◌, ◌⊎◌, inl, inr, ⊎_elim, true, false, List, [], ◌∷◌, ◌++◌, length, get_or, set, Option}
use Rattle.std.proofs.Common.{Some, refl, sym, ap, ◌∙◌, subst, arith}
use mathlib.Core.Logic.{dite}
use native.Mathlib.Decide.{ℕ_discrete}
use mathlib.Core.Option.{Option as Maybe, some, some-injective}
use lib.ListN.{get_elem?}
use Rattle.atomic_table.specs.Table.{State, Me, keeps, Allows, Splits, Joins, Seen, Final}
use Rattle.atomic_table.proofs.Lists.{at_set, at_snoc, at_longer, set_else, set_again}
use Rattle.xc_turnstile.specs.declared.view.View.{View}
use Rattle.xc_turnstile.specs.Views.{BeginsWith, PlacesRise, HasPlace, kept_half, given_half, views_met, spent}
use Rattle.xc_turnstile.specs.Meanings.{Meaning}
use Rattle.xc_turnstile.specs.Rules.{IsTrueView, AreTrueViews, IsOpen, IsTaken, IsRuled}
use Rattle.xc_turnstile.proofs.Fronts.{starts_shorter, all_placed_has, all_placed_stands, all_placed_rises, longer_is, shorter_is, total_set}
use Rattle.xc_turnstile.proofs.Fronts.{total_more, total_above}

-- what all passes know stays true where one is split
pub one_split : {E V O : Type 0} → (log : List E) (from : O) (views : List (View E V O)) (id : ℕ) (v : View E V O) → AreTrueViews log from views
    → get_elem? views id ≡ some v → 2 ≤ v.shares
    → AreTrueViews log from (set views id (kept_half v) ++ given_half v ∷ [])
one_split {E = E} {V = V} {O = O} log from views id v c at two =
    let f = c.true_view id v at (omega arith) in
    let l = kept_half v in
    let r = given_half v in
    let half : (1 ≤ v.shares / 2) × (v.shares / 2 < v.shares) = (omega arith, omega arith) in
    let look : (i : ℕ) (u : View E V O) → get_elem? (set views id l ++ r ∷ []) i ≡ some u
    → ((i ≡ id) × (l ≡ u)) ⊎ (((i ≢ id) × (get_elem? views i ≡ some u)) ⊎ (r ≡ u)) =
    λ i u e. ⊎_elim (λ a. ⊎_elim (λ b. inl b) (λ b. inr (inl b)) (at_set views id i l u a)) (λ b. inr (inr b)) (at_snoc (set views id l) r u i e) in
    record {
      true_view = λ i u e p. ⊎_elim
          (λ (t : (i ≡ id) × (l ≡ u)). subst (IsTrueView log from) t.1
          (record { seen = f.seen; beside = f.beside; mine = f.mine; rises = f.rises; origin = f.origin }))
          (λ t. ⊎_elim (λ (x : (i ≢ id) × (get_elem? views i ≡ some u)). c.true_view i u x.1 p)
          (λ (x : r ≡ u). subst (IsTrueView log from) x (record { seen = f.seen; beside = f.beside; mine = tt; rises = tt; origin = f.origin })) t)
          (look i u e);
      spent = λ i u e z. ⊎_elim
          (λ (t : (i ≡ id) × (l ≡ u)). absurd (omega (arith, ap (λ (y : View E V O). y.shares) t.1, half.1)))
          (λ t. ⊎_elim (λ (x : (i ≢ id) × (get_elem? views i ≡ some u)). c.spent i u x.1 z)
          (λ (x : r ≡ u). absurd (omega (arith, ap (λ (y : View E V O). y.shares) x, half.0))) t) (look i u e);
      apart = λ i j k u w ei ej hu hw.
          let none : (y : View E V O) → r ≡ y → HasPlace k y.mine
          → ⊥ = λ y q h. (let x : HasPlace {E = E} k [] = subst (λ (z : View E V O). HasPlace k z.mine) (sym q) h in x) in
          let own : (y : View E V O) → l ≡ y → HasPlace k y.mine → HasPlace k v.mine = λ y q h. subst (λ (z : View E V O). HasPlace k z.mine) (sym q) h in
          ⊎_elim
          (λ (a : (i ≡ id) × (l ≡ u)). ⊎_elim (λ (b : (j ≡ id) × (l ≡ w)). a.0 ∙ sym b.0)
          (λ b. ⊎_elim (λ (y : (j ≢ id) × (get_elem? views j ≡ some w)). absurd (y.0 (sym (c.apart id j k v w at y.1 (own u a.1 hu) hw))))
          (λ (y : r ≡ w). absurd (none w y hw)) b) (look j w ej))
          (λ a. ⊎_elim
          (λ (x : (i ≢ id) × (get_elem? views i ≡ some u)). ⊎_elim (λ (b : (j ≡ id) × (l ≡ w)). absurd (x.0 (c.apart i id k u v x.1 at hu (own w b.1 hw))))
          (λ b. ⊎_elim (λ (y : (j ≢ id) × (get_elem? views j ≡ some w)). c.apart i j k u w x.1 y.1 hu hw) (λ (y : r ≡ w). absurd (none w y hw)) b)
          (look j w ej))
          (λ (x : r ≡ u). absurd (none u x hu)) a) (look i u ei);
      whole = omega (arith, total_set views id v l at, total_more (set views id l) r, c.whole, half.1);
    }

-- and where two become one
pub two_joined : {E V O : Type 0} → (log : List E) (from : O) (views : List (View E V O)) (id other : ℕ) (v w : View E V O) → AreTrueViews log from views
    → get_elem? views id ≡ some v → other ≢ id → get_elem? views other ≡ some w
    → 0 < v.shares → 0 < w.shares → AreTrueViews log from (set (set views id (views_met v w)) other spent)
two_joined {E = E} {V = V} {O = O} log from views id other v w c at ne there pos more =
    let f = c.true_view id v at pos in
    let h = c.true_view other w there more in
    let b = views_met v w in
    let at' : get_elem? (set views id b) other ≡ some w = set_else views id other b ne ∙ there in
    let look : (i : ℕ) (u : View E V O) → get_elem? (set (set views id b) other spent) i ≡ some u
    → ((i ≡ other) × (spent ≡ u)) ⊎ (((i ≡ id) × (b ≡ u)) ⊎ ((i ≢ id) × (i ≢ other) × (get_elem? views i ≡ some u))) =
    λ i u e. ⊎_elim (λ a. inl a)
    (λ (x : (i ≢ other) × (get_elem? (set views id b) i ≡ some u)). ⊎_elim (λ y. inr (inl y))
    (λ (y : (i ≢ id) × (get_elem? views i ≡ some u)). inr (inr (y.0, x.0, y.1))) (at_set views id i b u x.1))
    (at_set (set views id b) other i spent u e) in
    let none : (k : ℕ) (u : View E V O) → spent ≡ u → HasPlace k u.mine
    → ⊥ = λ k u q x. (let y : HasPlace {E = E} k [] = subst (λ (z : View E V O). HasPlace k z.mine) (sym q) x in y) in
    let own : (k : ℕ) (u : View E V O) → b ≡ u → HasPlace k u.mine
    → HasPlace k v.mine ⊎ HasPlace k w.mine = λ k u q x. all_placed_has v.mine w.mine k (subst (λ (z : View E V O). HasPlace k z.mine) (sym q) x) in
    record {
      true_view = λ i u e p. ⊎_elim
          (λ (x : (i ≡ other) × (spent ≡ u)). absurd (omega (arith, ap (λ (y : View E V O). y.shares) x.1)))
          (λ t. ⊎_elim
          (λ (x : (i ≡ id) × (b ≡ u)). subst (IsTrueView log from) x.1 (record {
            seen = longer_is (BeginsWith log) v.seen w.seen f.seen h.seen;
            beside = shorter_is (BeginsWith log) v.seen w.seen f.seen h.seen;
            mine = all_placed_stands v.mine w.mine log f.mine h.mine;
            rises = all_placed_rises v.mine w.mine 0 f.rises h.rises (λ k a d. ne (c.apart other id k w v there at d a));
            origin = f.origin;
          }))
          (λ (x : (i ≢ id) × (i ≢ other) × (get_elem? views i ≡ some u)). c.true_view i u x.2 p) t) (look i u e);
      spent = λ i u e z. ⊎_elim
          (λ (x : (i ≡ other) × (spent ≡ u)). (ap (λ (y : View E V O). y.inside) (sym x.1), ap (λ (y : View E V O). y.mine) (sym x.1)))
          (λ t. ⊎_elim
          (λ (x : (i ≡ id) × (b ≡ u)). absurd (omega (arith, ap (λ (y : View E V O). y.shares) x.1)))
          (λ (x : (i ≢ id) × (i ≢ other) × (get_elem? views i ≡ some u)). c.spent i u x.2 z) t) (look i u e);
      apart = λ i j k u y ei ej hu hy. ⊎_elim
          (λ (x : (i ≡ other) × (spent ≡ u)). absurd (none k u x.1 hu))
          (λ t. ⊎_elim (λ (z : (j ≡ other) × (spent ≡ y)). absurd (none k y z.1 hy))
          (λ r. ⊎_elim
          (λ (x : (i ≡ id) × (b ≡ u)). ⊎_elim
          (λ (z : (j ≡ id) × (b ≡ y)). x.0 ∙ sym z.0)
          (λ (z : (j ≢ id) × (j ≢ other) × (get_elem? views j ≡ some y)).
          ⊎_elim (λ a. absurd (z.0 (sym (c.apart id j k v y at z.2 a hy)))) (λ d. absurd (z.1 (sym (c.apart other j k w y there z.2 d hy))))
          (own k u x.1 hu)) r)
          (λ (x : (i ≢ id) × (i ≢ other) × (get_elem? views i ≡ some u)). ⊎_elim
          (λ (z : (j ≡ id) × (b ≡ y)).
          ⊎_elim (λ a. absurd (x.0 (c.apart i id k u v x.2 at hu a))) (λ d. absurd (x.1 (c.apart i other k u w x.2 there hu d))) (own k y z.1 hy))
          (λ (z : (j ≢ id) × (j ≢ other) × (get_elem? views j ≡ some y)). c.apart i j k u y x.2 z.2 hu hy) r) t)
          (look j y ej)) (look i u ei);
      whole = omega (arith, total_set views id v b at, total_set (set views id b) other w spent at', c.whole);
    }

module _ {X E V O : Type 0} (m : Meaning X E V O) where
  -- a pass outside is none that is inside
  apart_from : (views : List (View E V O)) (id seat : ℕ) (v holder : View E V O) → get_elem? views id ≡ some v
      → get_elem? views seat ≡ some holder → v.inside ≡ false → holder.inside ≡ true → seat ≢ id
  apart_from views id seat v holder a b out in' e =
      let same : v ≡ holder = some-injective v holder (sym a ∙ (ap (get_elem? views) (sym e) ∙ b)) in
      let q : false ≡ true = sym out ∙ (ap (λ (y : View E V O). y.inside) same ∙ in') in absurd cc

  -- a split keeps the rule
  pub may_split : (id : ℕ) (v : View E V O) → v.inside ≡ false → 2 ≤ v.shares → Splits (IsRuled m) id v (kept_half v) (given_half v)
  may_split id v out two s law at =
      let log = law.0 in
      let from = law.1 in
      let l = kept_half v in
      let r = given_half v in (
        log,
        from,
        one_split log from s.views id v law.2 at two,
        ⊎_elim
            (λ (f : IsOpen m log from s). inl (record {
              value = f.value;
              word = f.word;
              home = f.home;
              log_is = f.log_is;
              from_is = f.from_is;
              outside = λ i u e. ⊎_elim
                  (λ a. ⊎_elim (λ (b : (i ≡ id) × (l ≡ u)). ap (λ (y : View E V O). y.inside) (sym b.1)
                  ∙ out) (λ (b : (i ≢ id) × (get_elem? s.views i ≡ some u)). f.outside i u b.1) (at_set s.views id i l u a))
                  (λ (b : r ≡ u). ap (λ (y : View E V O). y.inside) (sym b)) (at_snoc (set s.views id l) r u i e);
            }))
            (λ (t : IsTaken m log s). inr (record {
              seat = t.seat;
              holder = t.holder;
              word = t.word;
              home = t.home;
              there = at_longer (set s.views id l) (r ∷ []) t.seat t.holder
                  (set_else s.views id t.seat l (apart_from s.views id t.seat v t.holder at t.there out t.inside) ∙ t.there);
              inside = t.inside;
              given = t.given;
              alone = λ i u e on. ⊎_elim (λ a. ⊎_elim
                  (λ (b : (i ≡ id) × (l ≡ u)). (let z : false ≡ true = sym out ∙ (ap (λ (y : View E V O). y.inside) b.1 ∙ on) in absurd cc))
                  (λ (b : (i ≢ id) × (get_elem? s.views i ≡ some u)). t.alone i u b.1 on) (at_set s.views id i l u a))
                  (λ (b : r ≡ u). (let z : false ≡ true = ap (λ (y : View E V O). y.inside) b ∙ on in absurd cc)) (at_snoc (set s.views id l) r u i e);
            }))
            law.3,
      )

  -- a join keeps the rule
  pub may_join : (id other : ℕ) (v w : View E V O) → v.inside ≡ false → w.inside ≡ false → 0 < v.shares → 0 < w.shares
      → Joins (IsRuled m) id v other w (views_met v w) spent
  may_join id other v w out out' pos more s law at ne at' =
      let log = law.0 in
      let from = law.1 in
      let b = views_met v w in
      let there : get_elem? s.views other ≡ some w = sym (set_else s.views id other b ne) ∙ at' in
      let closed : (i : ℕ) (u : View E V O) → get_elem? (set (set s.views id b) other spent) i ≡ some u → (u.inside ≡ false) ⊎ (get_elem? s.views i ≡ some u) =
      λ i u e. ⊎_elim (λ (x : (i ≡ other) × (spent ≡ u)). inl (ap (λ (y : View E V O). y.inside) (sym x.1)))
      (λ (x : (i ≢ other) × (get_elem? (set s.views id b) i ≡ some u)). ⊎_elim (λ (y : (i ≡ id) × (b ≡ u)). inl (ap (λ (z : View E V O). z.inside) (sym y.1)))
      (λ (y : (i ≢ id) × (get_elem? s.views i ≡ some u)). inr y.1)
      (at_set s.views id i b u x.1)) (at_set (set s.views id b) other i spent u e) in (
        log,
        from,
        two_joined log from s.views id other v w law.2 at ne there pos more,
        ⊎_elim
            (λ (f : IsOpen m log from s). inl (record {
              value = f.value;
              word = f.word;
              home = f.home;
              log_is = f.log_is;
              from_is = f.from_is;
              outside = λ i u e. ⊎_elim (λ a. a) (λ a. f.outside i u a) (closed i u e);
            }))
            (λ (t : IsTaken m log s). inr (record {
              seat = t.seat;
              holder = t.holder;
              word = t.word;
              home = t.home;
              there = set_else (set s.views id b) other t.seat spent (apart_from s.views other t.seat w t.holder there t.there out' t.inside)
                  ∙ (set_else s.views id t.seat b (apart_from s.views id t.seat v t.holder at t.there out t.inside) ∙ t.there);
              inside = t.inside;
              given = t.given;
              alone = λ i u e on. ⊎_elim (λ (a : u.inside ≡ false). let z : false ≡ true = sym a ∙ on in absurd cc) (λ a. t.alone i u a on) (closed i u e);
            }))
            law.3,
      )

  -- a look at the word changes nothing, and tells of two histories that one begins with the other
  pub may_look : (slots id : ℕ) (me : Me (Option X) (View E V O)) → 0 < me.0.shares
      → Allows (IsRuled m) slots id me 0 (λ n. n) (λ n w. (w.0 ≡ me.0) × (w.1 ≡ me.1)
      × (length me.0.beside ≤ length me.0.seen → BeginsWith me.0.seen me.0.beside) × PlacesRise 0 me.0.mine)
  may_look slots id me pos s law len at small =
      let log = law.0 in
      let from = law.1 in
      let fit = law.2.true_view id me.0 at pos in
      let same : set s.views id me.0 ≡ s.views = set_again s.views id me.0 at in (
        me.0,
        keeps,
        tt,
        (
          log,
          from,
          subst (AreTrueViews log from) (sym same) law.2,
          ⊎_elim
              (λ (f : IsOpen m log from s). inl (record {
                value = f.value;
                word = ap (λ (ws : List ℕ). set ws 0 (get_or ws 0 0)) f.word;
                home = f.home;
                log_is = f.log_is;
                from_is = f.from_is;
                outside = λ i u e. f.outside i u (ap (λ (vs : List (View E V O)). get_elem? vs i) (sym same) ∙ e);
              }))
              (λ (t : IsTaken m log s). inr (record {
                seat = t.seat;
                holder = t.holder;
                word = ap (λ (ws : List ℕ). set ws 0 (get_or ws 0 0)) t.word;
                home = t.home;
                there = ap (λ (vs : List (View E V O)). get_elem? vs t.seat) same ∙ t.there;
                inside = t.inside;
                given = t.given;
                alone = λ i u e on. t.alone i u (ap (λ (vs : List (View E V O)). get_elem? vs i) (sym same) ∙ e) on;
              }))
              law.3,
        ),
        (refl, refl, (λ le. starts_shorter me.0.beside me.0.seen log fit.beside fit.seen le), fit.rises),
      )

  -- where one pass has all shares, the value lies in the slot
  pub free_for : (s : State (Option X) (View E V O)) (id : ℕ) (v : View E V O) → IsRuled m s → get_elem? s.views id ≡ some v → v.inside ≡ false
      → v.shares ≡ 2 ^ 32 → (x : X) × (get_elem? s.homes 0 ≡ some (some (Some x))) × BeginsWith (m.journal x) v.seen × (v.origin ≡ Some (m.origin x))
  free_for s id v law at out all =
      let log = law.0 in
      let from = law.1 in
      let c = law.2 in
      let fit = c.true_view id v at (omega arith) in
      ⊎_elim
      (λ (f : IsOpen m log from s). (
        f.value,
        ap (λ (h : List (Maybe (Option X))). get_elem? h 0) f.home,
        subst (λ (l : List E). BeginsWith l v.seen) (sym f.log_is) fit.seen,
        fit.origin ∙ sym (ap Some f.from_is),
      ))
      (λ (t : IsTaken m log s).
      let ne = apart_from s.views id t.seat v t.holder at t.there out t.inside in
      let empty : View E V O = record v { shares = 0 } in
      let alive : 0 < t.holder.shares = dite (ℕ_discrete t.holder.shares 0)
      (λ (z : t.holder.shares ≡ 0). let q : false ≡ true = sym (c.spent t.seat t.holder t.there z).0
      ∙ t.inside in absurd cc) (λ (nz : t.holder.shares ≢ 0). omega arith) in
      absurd (omega (
        arith,
        total_set s.views id v empty at,
        total_above (set s.views id empty) t.seat t.holder (set_else s.views id t.seat empty ne
            ∙ t.there),
        c.whole,
        alive,
      )))
      law.3

  -- so the last pass finds the value in the slot
  pub last_slot : (words : List ℕ) (slots : List (Option X)) (id : ℕ) (v : View E V O) (slot : Option X) → Final (Seen (IsRuled m) id v) words slots
      → v.inside ≡ false → v.shares ≡ 2 ^ 32
      → get_elem? slots 0 ≡ some slot → (x : X) × (slot ≡ Some x) × BeginsWith (m.journal x) v.seen × (v.origin ≡ Some (m.origin x))
  last_slot words slots id v slot f out all at =
      let r = free_for f.0 id v f.1.0 f.1.1 out all in
      (r.0, some-injective slot (Some r.0) (sym at ∙ f.4 0 (Some r.0) r.1), r.2, r.3)
