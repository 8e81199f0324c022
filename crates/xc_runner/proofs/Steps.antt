-- Steps that don't wait, and those that wait for one that enters.
use Rattle.std.proofs.Common.{◌≡◌, ℕ, ◌+◌, [], ◌∷◌, ◌++◌, List, length, drop, sym, ap, ◌∙◌, arith}
use Rattle.std.proofs.Math.ListN.{drop_of_length-le}
use Rattle.std.proofs.lemmas.List.{append-nil}
use Rattle.xc_data.specs.declared.entry.Entry.{Entry}
use Rattle.xc_data.specs.declared.entry.Event.{Event}
use Rattle.xc_station.specs.Events.{IsEvent}
use Rattle.xc_station.specs.Passes.{PassView, StationMeaning, StationPass, meaning_of}
use Rattle.xc_station.specs.Stations.{StationView}
use Rattle.xc_turnstile.specs.Insides.{PassGoesOn, Gains, GainsEvent, IsInside, IsNext, IsOutside}
use Rattle.xc_turnstile.specs.Views.{left_view, numbered}
use Rattle.xc_turnstile.proofs.Laws.{gains, pass_goes_further, outside_further}
use Rattle.xc_runner.specs.Tries.{GainsOnce, IsHeldOff}

-- ---- one event
-- an event of a station leads on
pub event_next : {H : Type 0} (old new : StationView H) (event : Event) → IsEvent old new event → IsNext meaning_of old new event
event_next old new event is =
    record {
      front = is.front;
      origin = λ i. record { script = (is.origin.opening i).script; faults = (is.origin.opening i).faults; rules = is.origin.rules i };
      count = is.count;
      last = is.last;
    }

module _ {X : Type 0} (m : StationMeaning X) (pass hold : StationPass) (x y : X) (event : Event) (inside : IsInside m pass hold x) where
  -- the pass behind a leaving with one event more, where the entering found nobody inside
  pub gains_once : inside.lost ≡ pass.view.lost → IsNext m x y event → (left : StationPass) → left.table ≡ hold.table
      → left.view ≡ left_view (m.journal y) (m.count y) (m.last y) hold.view → GainsOnce pass left event
  gains_once same next left table view =
      let was = view ∙ ap (left_view (m.journal y) (m.count y) (m.last y)) inside.view in
      let all = gains m pass hold x y event inside next left table view in
      record {
        entries = all.entries;
        gains = all.gains;
        won = ap (λ (v : PassView). v.won) was;
        lost = ap (λ (v : PassView). v.lost) was ∙ same;
      }

  -- where no entry was added, it has its own as before
  pub mine_quietly : m.journal y ≡ m.journal x → (left : StationPass) → left.view ≡ left_view (m.journal y) (m.count y) (m.last y) hold.view
      → left.view.mine ≡ pass.view.mine
  mine_quietly same left view =
      let was = view ∙ ap (left_view (m.journal y) (m.count y) (m.last y)) inside.view in
      let none : drop (length (m.journal x)) (m.journal y) ≡ [] =
      ap (drop (length (m.journal x))) same ∙ drop_of_length-le (m.journal x) (omega arith) in
      ap (λ (v : PassView). v.mine) was
      ∙ (ap (λ (es : List Entry). pass.view.mine ++ numbered (length (m.journal x)) es) none ∙ append-nil pass.view.mine)

-- ---- a pass that waits
-- one that lost now and then goes on
pub outside_goes : (a b : StationPass) → IsOutside a b → PassGoesOn a b
outside_goes a b p =
    record {
      table = p.table;
      shares = ap (λ (v : PassView). v.shares) p.view;
      origin = ap (λ (v : PassView). v.origin) p.view;
      seen = ([], ap (λ (v : PassView). v.seen) p.view ∙ sym (append-nil a.view.seen));
      added = [];
      mine = ap (λ (v : PassView). v.mine) p.view ∙ sym (append-nil a.view.mine);
    }

-- a pass that lost once more
pub held_outside : (a b : StationPass) (word : ℕ) → IsHeldOff a b word → IsOutside a b
held_outside a b word h = record { table = h.table; lost = a.view.lost + 1; more = omega arith; view = h.view }

-- one that was held off once more
pub waits_further : (a b c : StationPass) (word : ℕ) → IsOutside a b → IsHeldOff b c word → IsOutside a c
waits_further a b c word p h = outside_further a b c p (held_outside b c word h)

-- what is gained behind that
pub behind : (a b c : StationPass) (events : List Event) (entries : List (ℕ × Entry)) → IsOutside a b → Gains b c events entries → Gains a c events entries
behind a b c events entries p q =
    record {
      goes = pass_goes_further a b c (outside_goes a b p) q.goes;
      gained = q.gained ∙ ap (λ (v : PassView). v.events ++ events) p.view;
      mine = q.mine ∙ ap (λ (v : PassView). v.mine ++ entries) p.view;
      stand = q.stand;
    }

-- the step that enters behind that
pub gains_behind : (a b c : StationPass) (event : Event) → IsOutside a b → GainsOnce b c event → GainsEvent a c event
gains_behind a b c event p q =
    record {
      entries = q.entries;
      gains = behind a b c (event ∷ []) q.entries p q.gains;
      won = q.won ∙ ap (λ (v : PassView). v.won + 1) p.view;
      lost = omega (arith, q.lost, p.more, ap (λ (v : PassView). v.lost) p.view);
    }
