-- What a pass keeps over an entering with one event, and over several.
use Rattle.std.proofs.Common.{◌≡◌, ◌≢◌, ℕ, ◌+◌, ◌%◌, ◌^◌, ◌≤◌, ◌==◌, Bool, false, List, [], ◌∷◌, ◌++◌, Option, length, drop, refl, sym, ap, ◌∙◌, subst}
use Rattle.std.proofs.Common.{arith, append_assoc, if◌then◌else◌}
use Rattle.std.proofs.lemmas.Bool.{ne_eqb}
use Rattle.xc_turnstile.specs.declared.view.View.{View}
use Rattle.xc_turnstile.specs.Insides.{IsInside, IsOutside, IsNext, PassGoesOn, Gains, GainsEvent}
use Rattle.xc_turnstile.specs.Known.{Known}
use Rattle.xc_turnstile.specs.Meanings.{Meaning}
use Rattle.xc_turnstile.specs.Views.{AreAtPlaces, BeginsWith, added, entered_view, event_of, left_view}
use Rattle.xc_turnstile.proofs.Fronts.{numbered_stands, starts_trans}

-- one more, modulo 2^64, is another number
counts_on : (n : ℕ) → (n + 1) % 2 ^ 64 ≢ n
counts_on n e = omega (arith, e)

-- an event leads on from what was handed out
module _ {X E V O : Type 0} (m : Meaning X E V O) (pass hold : Known E V O) (x y : X) (event : V)
    (inside : IsInside m pass hold x) (next : IsNext m x y event) where
  -- what the pass gains by a leaving with y
  pub gains_at : (left : Known E V O) → left.table ≡ hold.table → left.view ≡ left_view (m.journal y) (m.count y) (m.last y) hold.view
      → Gains pass left (event ∷ []) (added (length (m.journal x)) (m.journal y))
  gains_at left table view =
      let was : left.view ≡ left_view (m.journal y) (m.count y) (m.last y)
      (entered_view (m.journal x) (m.count x) (record pass.view { lost = inside.lost })) =
      view ∙ ap (left_view (m.journal y) (m.count y) (m.last y)) inside.view in
      let new : (m.count y == m.count x) ≡ false = ne_eqb (m.count y) (m.count x) (λ e. counts_on (m.count x) (sym next.count ∙ e)) in
      let n = length (m.journal x) in
      record {
        goes = record {
          table = table ∙ inside.table;
          shares = ap (λ (v : View E V O). v.shares) was;
          origin = ap (λ (v : View E V O). v.origin) was;
          seen = subst (λ (es : List E). BeginsWith es pass.view.seen) (sym (ap (λ (v : View E V O). v.seen) was))
              (starts_trans (m.journal y) (m.journal x) pass.view.seen next.front inside.begins);
          added = added n (m.journal y);
          mine = ap (λ (v : View E V O). v.mine) was;
        };
        gained = ap (λ (v : View E V O). v.events) was
            ∙ (ap (λ (b : Bool). if b then pass.view.events else pass.view.events ++ event_of (m.last y)) new
            ∙ ap (λ (o : Option V). pass.view.events ++ event_of o) next.last);
        mine = ap (λ (v : View E V O). v.mine) was;
        stand = subst (λ (es : List E). AreAtPlaces es (added n (m.journal y))) (sym (ap (λ (v : View E V O). v.seen) was))
            (numbered_stands (drop n (m.journal y)) (m.journal y) n refl);
      }

  -- the pass after it
  pub gains : (left : Known E V O) → left.table ≡ hold.table → left.view ≡ left_view (m.journal y) (m.count y) (m.last y) hold.view → GainsEvent pass left event
  gains left table view =
      let was : left.view ≡ left_view (m.journal y) (m.count y) (m.last y)
      (entered_view (m.journal x) (m.count x) (record pass.view { lost = inside.lost })) =
      view ∙ ap (left_view (m.journal y) (m.count y) (m.last y)) inside.view in
      record {
        entries = added (length (m.journal x)) (m.journal y);
        gains = gains_at left table view;
        won = ap (λ (v : View E V O). v.won) was;
        lost = subst (λ n. pass.view.lost ≤ n) (sym (ap (λ (v : View E V O). v.lost) was)) inside.more;
      }

-- a pass that goes on waiting
pub outside_further : {E V O : Type 0} → (a b c : Known E V O) → IsOutside a b → IsOutside b c → IsOutside a c
outside_further {E = E} {V = V} {O = O} a b c p q =
    record {
      table = q.table ∙ p.table;
      lost = q.lost;
      more = omega (arith, p.more, q.more, ap (λ (v : View E V O). v.lost) p.view);
      view = q.view ∙ ap (λ (v : View E V O). record v { lost = q.lost }) p.view;
    }

-- ---- several

-- one way after another
pub pass_goes_further : {E V O : Type 0} → (a b c : Known E V O) → PassGoesOn a b → PassGoesOn b c → PassGoesOn a c
pass_goes_further a b c p q =
    record {
      table = q.table ∙ p.table;
      shares = q.shares ∙ p.shares;
      origin = q.origin ∙ p.origin;
      seen = starts_trans c.view.seen b.view.seen a.view.seen q.seen p.seen;
      added = p.added ++ q.added;
      mine = q.mine ∙ (ap (λ ps. ps ++ q.added) p.mine ∙ append_assoc a.view.mine p.added q.added);
    }
