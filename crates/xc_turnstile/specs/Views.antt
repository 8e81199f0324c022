-- What passes know, and how it changes.
use Rattle.std.specs.Prelude.{◌≡◌, ◌==◌, ℕ, ◌+◌, ◌-◌, ◌/◌, ◌^◌, ◌≤◌, ◌⊎◌, nat_lt, true, false, List, [], ◌∷◌, ◌++◌, length, drop}
use Rattle.std.specs.Prelude.{slice_get, Option, Some, None, if◌then◌else◌}
use Rattle.xc_turnstile.specs.declared.view.View.{View}

-- the second journal is a front of the first
abbrev pub BeginsWith : {E : Type 0} → List E → List E → Type 0
BeginsWith {E = E} whole front = (more : List E) × (whole ≡ front ++ more)

-- ---- entries with their places
-- the entries with their places, from this place on
abbrev pub numbered : {E : Type 0} → ℕ → List E → List (ℕ × E)
numbered n [] = []
numbered n (e ∷ es) = (n, e) ∷ numbered (n + 1) es

-- what was added after the first n entries
abbrev pub added : {E : Type 0} → ℕ → List E → List (ℕ × E)
added n journal = numbered n (drop n journal)

-- each stands in the journal at its place
abbrev pub AreAtPlaces : {E : Type 0} → List E → List (ℕ × E) → Type 0
AreAtPlaces journal [] = Unit {0}
AreAtPlaces journal (p ∷ ps) = (slice_get journal p.0 ≡ Some p.1) × AreAtPlaces journal ps

-- the places rise, from n on
abbrev pub PlacesRise : {E : Type 0} → ℕ → List (ℕ × E) → Type 0
PlacesRise n [] = Unit {0}
PlacesRise n (p ∷ ps) = (n ≤ p.0) × PlacesRise (p.0 + 1) ps

-- this place is one of them
abbrev pub HasPlace : {E : Type 0} → ℕ → List (ℕ × E) → Type 0
HasPlace k [] = ⊥
HasPlace k (p ∷ ps) = (p.0 ≡ k) ⊎ HasPlace k ps

-- it goes before the first of a greater place
abbrev pub placed : {E : Type 0} → ℕ × E → List (ℕ × E) → List (ℕ × E)
placed p [] = p ∷ []
placed p (q ∷ qs) = if nat_lt p.0 q.0 then p ∷ q ∷ qs else q ∷ placed p qs

-- both lists in rising order
abbrev pub placed_all : {E : Type 0} → List (ℕ × E) → List (ℕ × E) → List (ℕ × E)
placed_all [] qs = qs
placed_all (p ∷ ps) qs = placed p (placed_all ps qs)

-- ---- two histories
abbrev pub longer : {E : Type 0} → List E → List E → List E
longer xs ys = if nat_lt (length xs) (length ys) then ys else xs

-- the other of the two
abbrev pub shorter : {E : Type 0} → List E → List E → List E
shorter xs ys = if nat_lt (length xs) (length ys) then xs else ys

-- ---- passes
-- the first pass
abbrev pub first_view : {E V O : Type 0} → O → List E → View E V O
first_view origin journal =
    record {
      seen = journal;
      mine = [];
      events = [];
      origin = Some origin;
      shares = 2 ^ 32;
      lost = 0;
      won = 0;
      inside = false;
      given = [];
      counted = 0;
      beside = [];
    }

-- a pass that has entered, with what was handed out
abbrev pub entered_view : {E V O : Type 0} → List E → ℕ → View E V O → View E V O
entered_view journal count v = record v { inside = true; given = journal; counted = count; won = v.won + 1 }

-- a pass that found another inside
abbrev pub lost_view : {E V O : Type 0} → View E V O → View E V O
lost_view v = record v { lost = v.lost + 1 }

-- an event, where there is one
abbrev pub event_of : {V : Type 0} → Option V → List V
event_of None = []
event_of (Some e) = e ∷ []

-- a pass that has left with a value of this journal, count and last event
abbrev pub left_view : {E V O : Type 0} → List E → ℕ → Option V → View E V O → View E V O
left_view journal count last v =
    record v {
      seen = journal;
      mine = v.mine ++ added (length v.given) journal;
      events = if count == v.counted then v.events else v.events ++ event_of last;
      inside = false;
    }

-- a pass that was split, and the one that was split off
abbrev pub kept_half : {E V O : Type 0} → View E V O → View E V O
kept_half v = record v { shares = v.shares - v.shares / 2 }

-- what is given away: half of the shares, with nothing of its own in it
abbrev pub given_half : {E V O : Type 0} → View E V O → View E V O
given_half v =
    record {
      seen = v.seen;
      mine = [];
      events = [];
      origin = v.origin;
      shares = v.shares / 2;
      lost = 0;
      won = 0;
      inside = false;
      given = [];
      counted = 0;
      beside = v.beside;
    }

-- two passes that were met
abbrev pub views_met : {E V O : Type 0} → View E V O → View E V O → View E V O
views_met v w =
    record {
      seen = longer v.seen w.seen;
      mine = placed_all v.mine w.mine;
      events = v.events ++ w.events;
      origin = v.origin;
      shares = v.shares + w.shares;
      lost = v.lost + w.lost;
      won = v.won + w.won;
      inside = false;
      given = [];
      counted = 0;
      beside = shorter v.seen w.seen;
    }

-- a pass that is gone
abbrev pub spent : {E V O : Type 0} → View E V O
spent =
    record {
      seen = [];
      mine = [];
      events = [];
      origin = None;
      shares = 0;
      lost = 0;
      won = 0;
      inside = false;
      given = [];
      counted = 0;
      beside = [];
    }
