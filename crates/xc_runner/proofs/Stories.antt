-- The events of a worker, one after another.
use Rattle.std.proofs.Common.{◌≡◌, ℕ, Bool, List, [], ◌∷◌, ◌++◌, Option, refl, ap, ◌∙◌, arith, append_assoc}
use Rattle.std.proofs.Common.{length-append, if◌then◌else◌, eq-eqb, ◌==◌, ◌⊎◌, inl, inr, ⊎_elim, true, false, Some, None, Contains}
use Rattle.std.proofs.lemmas.List.Elements.{Contains-append_left, Contains-append_right}
use Rattle.xc_data.specs.declared.entry.Event.{Event}
use Rattle.xc_data.specs.declared.entry.Event.TheVariants.{Turned, Picked, Looked}
use Rattle.xc_data.specs.declared.entry.Turn.{Turn}
use Rattle.xc_turnstile.specs.Insides.{GainsEvent}
use Rattle.xc_station.specs.Passes.{StationPass}
use Rattle.xc_runner.specs.Walks.{Stage, Leads, FindsNoneLeft, is_last, picked, picking, turning, over, astray, walk, walk_all}

walk_more : (s : Stage) (es fs : List Event) → walk_all s (es ++ fs) ≡ walk_all (walk_all s es) fs
walk_more s [] fs = refl
walk_more s (e ∷ es) fs = walk_more (walk s e) es fs

-- one way after another
pub leads_further : (r s t : Stage) (old mid new : StationPass) → Leads r old mid s → Leads s mid new t → Leads r old new t
leads_further r s t old mid new p q =
    record {
      gained = p.gained ++ q.gained;
      events = q.events ∙ (ap (λ es. es ++ q.gained) p.events ∙ append_assoc old.view.events p.gained q.gained);
      won = omega (arith, p.won, q.won, length-append p.gained q.gained);
      leads = walk_more r p.gained q.gained ∙ (ap (λ x. walk_all x q.gained) p.leads ∙ q.leads);
    }

-- one event
leads_once : (s t : Stage) (event : Event) (old new : StationPass) → GainsEvent old new event → walk s event ≡ t → Leads s old new t
leads_once s t event old new gained way = record { gained = event ∷ []; events = gained.gains.gained; won = gained.won; leads = way }

-- a turn of the job that was taken: the worker goes on with the job, or takes the next one
pub leads_turn : (job : ℕ) (answer : Option Turn) (last : Bool) (old new : StationPass) → GainsEvent old new (Turned job answer) → last ≡ is_last answer
    → Leads (turning job) old new (if last then picking else turning job)
leads_turn job answer last old new gained which =
    leads_once (turning job) (if last then picking else turning job) (Turned job answer) old new gained (rw (eq-eqb job job refl, which) refl)

-- a pick
pub leads_pick : (job : Option ℕ) (to : Stage) (old new : StationPass) → GainsEvent old new (Picked job) → picked job ≡ to → Leads picking old new to
leads_pick job to old new gained which = leads_once picking to (Picked job) old new gained which

-- no event of a worker that takes turns ends it
turns_on : (b last : Bool) (job : ℕ) → (if b then (if last then picking else turning job) else astray) ≡ over → ⊥
turns_on true true job e = absurd cc
turns_on true false job e = absurd cc
turns_on false last job e = absurd cc

-- the event that ends a worker is a pick with no job
last_event : (s : Stage) (event : Event) → walk s event ≡ over → event ≡ Picked None
last_event picking (Picked None) e = refl
last_event picking (Picked (Some job)) e = absurd cc
last_event picking (Turned job answer) e = absurd cc
last_event picking (Looked length) e = absurd cc
last_event (turning job) (Turned other answer) e = absurd (turns_on (job == other) (is_last answer) job e)
last_event (turning job) (Picked next) e = absurd cc
last_event (turning job) (Looked length) e = absurd cc
last_event over event e = absurd cc
last_event astray event e = absurd cc

-- events that end a worker have it among them
ends_found : (s : Stage) (es : List Event) → walk_all s es ≡ over → (s ≡ over) ⊎ Contains es (Picked None)
ends_found s [] e = inl e
ends_found s (event ∷ es) e =
    ⊎_elim (λ last. inr (0, omega arith, last_event s event last)) (λ later. inr (Contains-append_right (event ∷ []) es (Picked None) later))
    (ends_found (walk s event) es e)

-- a worker that came to its end found no job left
pub finds_none : (old new : StationPass) → Leads picking old new over → FindsNoneLeft old new
finds_none old new leads =
    record {
      gained = leads.gained;
      events = leads.events;
      found = ⊎_elim (λ (e : picking ≡ over). absurd cc) (λ found. found) (ends_found picking leads.gained leads.leads);
    }

-- where one side found none, both together did
pub finds_none_together : (old kept a b met : StationPass) → kept.view.events ≡ old.view.events → FindsNoneLeft kept a
    → met.view.events ≡ a.view.events ++ b.view.events → FindsNoneLeft old met
finds_none_together old kept a b met same left both =
    record {
      gained = left.gained ++ b.view.events;
      events = both ∙ (ap (λ es. es ++ b.view.events) (left.events ∙ ap (λ es. es ++ left.gained) same)
          ∙ append_assoc old.view.events left.gained b.view.events);
      found = Contains-append_left left.gained b.view.events (Picked None) left.found;
    }
