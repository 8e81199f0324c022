-- The sessions of one run.
use Rattle.std.specs.Prelude.{◌≡◌, ◌≤◌, ◌+◌, ◌⊎◌, ℕ, List, [], ◌∷◌, ◌++◌, length, reverse, ⊤, Option}
use Rattle.std.specs.declared.option.Option.TheVariants.{None, Some}
use Rattle.std.specs.List.{AllZip}
use Rattle.xc_data.specs.Counts.{counted}
use Rattle.xc_data.specs.Step.{Step}
use Rattle.xc_data.specs.declared.entry.Entry.{Entry}
use Rattle.xc_links.specs.Wires.{Wire}
use Rattle.xc_links.specs.Links.{LinksView}
use Rattle.xc_meet.specs.declared.session.Session.{Session}
use Rattle.xc_roomy.specs.Room.{Roomy}
use Rattle.xc_serve.specs.Sessions.{IsSession}
use Rattle.xc_turnstile.specs.Insides.{Together}
use Rattle.xc_station.specs.Passes.{StationPass}
use Rattle.xc_turnstile.specs.Views.{BeginsWith, HasPlace}

-- a link as it was accepted, and what the pass that served it knew at first and at last
pub record Sitting (L : Type 0) : Type 0 where
  pub link : L
  pub first : StationPass
  pub last : StationPass

-- This session came of it, and it meets the theorem of one session. Its pass had no entries at first, so all of the pass's entries
-- stand in its answers; and they stand at their places in the journal, which goes on from what the pass has seen
pub record IsSitting {L : Type 0} (told : L → Wire) (journal : List Entry) (x : Sitting L) (s : Session L) : Type 0 where
  pub served : IsSession x.first x.last (told x.link) (told s.link) s.end
  pub fresh : x.first.view.mine ≡ []
  pub seen : BeginsWith journal x.last.view.seen

-- one of them has an entry at this place of the journal
abbrev pub HaveEntry : {L : Type 0} → ℕ → List (Sitting L) → Type 0
HaveEntry k [] = ⊥
HaveEntry k (x ∷ xs) = HasPlace k x.last.view.mine ⊎ HaveEntry k xs

-- no two of them have an entry at the same place
abbrev pub ShareNoPlace : {L : Type 0} → List (Sitting L) → Type 0
ShareNoPlace [] = Unit {0}
ShareNoPlace (x ∷ xs) = ((k : ℕ) → HasPlace k x.last.view.mine → HaveEntry k xs → ⊥) × ShareNoPlace xs

-- their links as they were accepted
abbrev pub links_of : {L : Type 0} → List (Sitting L) → List L
links_of [] = []
links_of (x ∷ xs) = x.link ∷ links_of xs

-- these links, in order, are the first of those that were to come
abbrev pub AreFirst : {L : Type 0} → Option (List L) → List L → Type 0
AreFirst None accepted = ⊤
AreFirst (Some links) accepted = (rest : _) × (links ≡ accepted ++ rest)

-- these are the sessions, in the order of accepting
pub record AreSessions {L : Type 0} (told : L → Wire) (journal : List Entry) (links : Option (List L)) (sessions : List (Session L))
    : Type 0 where
  pub sittings : List (Sitting L)
  pub each : AllZip (IsSitting told journal) sittings sessions
  pub accepted : AreFirst links (links_of sittings)
  pub apart : ShareNoPlace sittings

-- all sessions of a run: as many as were wanted, unless the links' count rose
pub record AreAll {L : Type 0} (told : L → Wire) (journal : List Entry) (links : Step (LinksView L)) (count : ℕ)
    (sessions : List (Session L)) : Type 0 where
  pub are : AreSessions told journal links.old.left sessions
  pub all : (length sessions ≡ count) ⊎ (counted links.old.faults ≤ links.new.faults)
  pub few : length sessions ≤ count
  pub later : links.old.faults ≤ links.new.faults

-- ---- as the code has it
-- so many links were to be accepted, and their sessions were entered backwards
pub record LeavesSessions {L : Type 0} (told : L → Wire) (pass : Step StationPass) (links : Step (LinksView L))
    (list : Step (Roomy (Session L))) (count : ℕ) : Type 0 where
  pub together : Together pass.old pass.new
  pub sessions : List (Session L)
  pub backwards : list.new.items ≡ reverse sessions
  pub spare : list.new.spare + length sessions ≡ list.old.spare
  pub are : AreSessions told pass.new.view.seen links.old.left sessions
  pub held : (k : ℕ) → HaveEntry k are.sittings → HasPlace k pass.new.view.mine
  pub few : length sessions ≤ count
  pub later : links.old.faults ≤ links.new.faults
  pub all : (length sessions ≡ count) ⊎ (counted links.old.faults ≤ links.new.faults)
