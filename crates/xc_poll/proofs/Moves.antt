-- A poll of all tasks: what it does to each, and what it says.
use Rattle.std.proofs.Common.{◌≡◌, inl, inr, ◌≤◌, true, false, Contains, List, [], ◌∷◌, ◌++◌, length, map, refl, sym, ap, ◌∙◌, subst, arith}
use Rattle.std.specs.Option.{IsSomeAnd}
use Rattle.std.specs.declared.option.Option.{Option}
use Rattle.std.specs.declared.option.Option.TheVariants.{None, Some}
use Rattle.std.proofs.lemmas.List.Elements.{Contains-append_left, Contains-append_right}
use Rattle.futures.specs.Poll.{OnPending}
use Rattle.futures.specs.declared.task.Poll.{Poll}
use Rattle.futures.specs.declared.task.Poll.TheVariants.{Ready, Pending}
use Rattle.xc_data.specs.declared.entry.Event.{Event}
use Rattle.xc_data.specs.declared.entry.Event.TheVariants.{Picked}
use Rattle.xc_data.specs.declared.entry.JobEnd.{JobEnd}
use Rattle.xc_data.specs.declared.entry.Turn.{Turn}
use Rattle.xc_data.specs.declared.entry.Turn.TheVariants as turn
use Rattle.xc_station.specs.Passes.{StationPass}
use Rattle.xc_poll.specs.Alls.{AllFront, ArePolled, GivesAll, HasMoved, IsAllPolled, IsPolledOnce, is_crew_over}
use Rattle.xc_poll.specs.Askings.{AreAsked, TellsAsked, asked_events}
use Rattle.xc_poll.specs.Crews.{Crew, IsGathered, Rise, jobs_of}
use Rattle.xc_poll.specs.Polls.{HasReason, IsPolled, last_of, events_of_turns}
use Rattle.xc_poll.specs.Tasks.{Task}
use Rattle.xc_poll.specs.declared.asking.Asked.{Asked}
use Rattle.xc_poll.specs.declared.asking.Asked.TheVariants as asked
use Rattle.xc_poll.specs.declared.round.Waits.{Waits}
use Rattle.xc_poll.specs.declared.round.Waits.TheVariants as waits
use Rattle.xc_poll.proofs.Parts.{OnlySharesOf, front_trans}
use Rattle.xc_poll.proofs.Sound.{by_askings, gathers_back, gathers_polled, told_askings}

-- ---- a task that is polled moves
module _ (old new : Task) (answers : List (Option Turn)) (events : new.pass.view.events ≡ old.pass.view.events ++ events_of_turns old.job answers) where
  some_turn : (as_ : List (Option Turn)) → answers ≡ as_ → 1 ≤ length as_ → HasMoved old new
  some_turn [] is few = absurd (omega (arith, few))
  some_turn (a ∷ rest) is few =
      inr (inr (a, events_of_turns old.job rest, events ∙ ap (λ (xs : List (Option Turn)). old.pass.view.events ++ events_of_turns old.job xs) is))

  last_turn : (as_ : List (Option Turn)) (a : Option Turn) → last_of as_ ≡ Some a → 1 ≤ length as_
  last_turn [] a is = absurd cc
  last_turn (b ∷ rest) a is = omega arith

  moved_for : (why : Waits) → 1 ≤ old.share → HasReason old.share answers old.pass.view.lost new.pass.view.lost why → HasMoved old new
  moved_for (waits.Met object holder) share h = some_turn answers refl (last_turn answers (Some (turn.Busy object holder)) h.0)
  moved_for (waits.Held word) share h = inr (inl h.3)
  moved_for waits.Spent share h = some_turn answers refl (omega (arith, share, h.1))
  moved_for waits.Memory share h = some_turn answers refl (last_turn answers (Some turn.NoMemory) h.0)

  moved_why : (why : Option Waits) → 1 ≤ old.share → IsSomeAnd why (HasReason old.share answers old.pass.view.lost new.pass.view.lost) → HasMoved old new
  moved_why None share h = absurd h
  moved_why (Some why) share h = moved_for why share h

moved_by : (old new : Task) (result : Poll (Option JobEnd)) → IsPolled old new result → HasMoved old new
moved_by old new (Ready end) h = inl h.ready.0
moved_by old new Pending h = moved_why old new h.answers h.events new.why h.share h.waits

-- a move doesn't look at shares
moved_once : (a b c : Task) → IsPolledOnce a b → OnlySharesOf b c → HasMoved a c
moved_once a b c h k = subst (HasMoved a) (sym k.1) (again (moved_by a b h.0 h.1)) where
  again : HasMoved a b → HasMoved a (record b { pass = record b.pass { view = record b.pass.view { shares = k.0 } } })
  again m = m

zip_front : (old new : List Task) → ArePolled old new → AllFront IsPolledOnce old new
zip_front [] [] h = tt
zip_front [] (y ∷ ys) h = absurd h
zip_front (x ∷ xs) [] h = absurd h
zip_front (x ∷ xs) (y ∷ ys) h = (h.0, zip_front xs ys h.1)

-- ---- a round
-- the last asking of a round that is over was answered that no job is left
over_nothing : (crew : Crew) (last : Asked) → is_crew_over crew last ≡ true → asked_events last ≡ Picked None ∷ []
over_nothing crew (asked.Held word) h = absurd cc
over_nothing crew (asked.Job job) h = absurd cc
over_nothing crew asked.Nothing h = refl

-- a round of what is there between two polls
module _ (now : Option Crew) (old mid left : Crew) (last : Asked) (was : Some old ≡ now) (same : mid ≡ record old { tasks = mid.tasks })
    (polls : ArePolled old.tasks mid.tasks) (asked : AreAsked mid left last) where
  asks : AreAsked (record old { tasks = mid.tasks }) left last
  asks = subst (λ (crew : Crew). AreAsked crew left last) same asked

  -- one pass of what is left is one of what was there
  gathers_old : (back : StationPass) → IsGathered left back → IsGathered old back
  gathers_old back h =
      gathers_polled old mid.tasks back polls
      (gathers_back (record old { tasks = mid.tasks }) left _ _ back (by_askings (record old { tasks = mid.tasks }) left last asks) h)

  told : TellsAsked old.asking left.asking last
  told = told_askings (record old { tasks = mid.tasks }) left last asks

  moved : AllFront HasMoved old.tasks left.tasks
  moved =
      front_trans IsPolledOnce OnlySharesOf HasMoved moved_once old.tasks mid.tasks left.tasks (zip_front old.tasks mid.tasks polls)
      (by_askings (record old { tasks = mid.tasks }) left last asks).stay

  -- that pass knows that no job was left
  knows_none : (back : StationPass) → is_crew_over left last ≡ true → IsGathered left back → Contains back.view.events (Picked None)
  knows_none back over h =
      let one : Contains (Picked None ∷ []) (Picked None) = (0, omega arith, refl) in
      let jobs = map (λ job. Picked (Some job)) told.before in
      let last_is : left.asking.view.events ≡ old.asking.view.events ++ (jobs ++ Picked None ∷ []) =
      told.events ∙ ap (λ (es : List Event). old.asking.view.events ++ (jobs ++ es)) (over_nothing left last over) in
      subst (λ (es : List Event). Contains es (Picked None)) (sym h.own_events.1)
      (Contains-append_left left.asking.view.events h.own_events.0 (Picked None)
      (subst (λ (es : List Event). Contains es (Picked None)) (sym last_is)
      (Contains-append_right old.asking.view.events (jobs ++ Picked None ∷ []) (Picked None)
      (Contains-append_right jobs (Picked None ∷ []) (Picked None) one))))

  -- where it is over: what is given
  pub ready_gives : (back : StationPass) → is_crew_over left last ≡ true → IsGathered left back → IsSomeAnd now (λ crew. GivesAll crew back)
  ready_gives back over h = subst (λ (o : Option Crew). IsSomeAnd o (λ crew. GivesAll crew back)) was (gathers_old back h, knows_none back over h)

  pub ready_polled : (new : Option Crew) (back : StationPass) → new ≡ None → Rise 0 (jobs_of left.tasks) left.top → is_crew_over left last ≡ true
      → IsGathered left back → IsSomeAnd now (λ crew. IsAllPolled crew new (Ready back))
  ready_polled new back gone rise over h =
      let all : IsAllPolled old new (Ready back) =
      record {
        left = left;
        last = last;
        round = record { polled = mid.tasks; polls = polls; asks = asks };
        told = told;
        rise = rise;
        moved = moved;
        given = (over, h, knows_none back over h, gone);
        waits = tt;
      } in
      subst (λ (o : Option Crew). IsSomeAnd o (λ crew. IsAllPolled crew new (Ready back))) was all

  -- and where it isn't
  pub pending_gives : (result : Poll StationPass) → result ≡ Pending
      → OnPending result ((back : StationPass) → GivesAll left back → IsSomeAnd now (λ crew. GivesAll crew back))
  pending_gives result pending =
      subst (λ (r : Poll StationPass). OnPending r ((back : StationPass) → GivesAll left back → IsSomeAnd now (λ crew. GivesAll crew back))) (sym pending)
      (λ back h. subst (λ (o : Option Crew). IsSomeAnd o (λ crew. GivesAll crew back)) was (gathers_old back h.0, h.1))

  pub pending_polled : (result : Poll StationPass) → result ≡ Pending → Rise 0 (jobs_of left.tasks) left.top → is_crew_over left last ≡ false
      → IsSomeAnd now (λ crew. IsAllPolled crew (Some left) result)
  pending_polled result pending rise over =
      let all : IsAllPolled old (Some left) Pending =
      record {
        left = left;
        last = last;
        round = record { polled = mid.tasks; polls = polls; asks = asks };
        told = told;
        rise = rise;
        moved = moved;
        given = tt;
        waits = (over, refl);
      } in
      subst (λ (o : Option Crew). IsSomeAnd o (λ crew. IsAllPolled crew (Some left) result)) was
      (subst (λ (r : Poll StationPass). IsAllPolled old (Some left) r) (sym pending) all)
