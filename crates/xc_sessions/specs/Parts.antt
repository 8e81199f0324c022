-- What the parts of a run with sessions promise one another.
use Rattle.std.specs.Prelude.{◌≡◌, ℕ, List, [], Option}
use Rattle.std.specs.declared.option.Option.TheVariants.{None, Some}
use Rattle.xc_data.specs.Step.{Step}
use Rattle.xc_data.specs.declared.entry.Entry.{Entry}
use Rattle.xc_edge.specs.View.{StreamView}
use Rattle.xc_host.specs.Model.{HostModel}
use Rattle.xc_links.specs.Links.{LinksView}
use Rattle.xc_links.specs.Wires.{Wire}
use Rattle.xc_meet.specs.Members.{AreAll}
use Rattle.xc_meet.specs.declared.session.Session.{Session}
use Rattle.xc_outcome.specs.Outcomes.{IsPrepared}
use Rattle.xc_roomy.specs.Room.{Roomy}
use Rattle.xc_sessions.specs.declared.start.ServeStarted.{ServeStarted}
use Rattle.xc_sessions.specs.Headline.{serve_choice_in}
use Rattle.xc_sessions.specs.Options.{KeepsServeBounds, serve_settings_of}

-- a station before its first turn: the words chose this, and bytes were read from the source, of which it is the start
pub record IsServeStarted {H : Type 0} (model : HostModel H) (words : List (List ℕ)) (source : Step StreamView) (host : H)
    (started : ServeStarted H)
    : Type 0 where
  pub chose : serve_settings_of words ≡ Some started.chosen
  pub bounds : KeepsServeBounds started.chosen
  pub prepared : IsPrepared model (serve_choice_in started.chosen) source host started.station

-- the sessions of a station that was worked, where there was memory for them
abbrev pub AreWorked : {M : Type 0} → (M → Wire) → ℕ → Step (LinksView M) → List Entry → Option (Roomy (Session M)) → Type 0
AreWorked told wanted links journal None = links.new ≡ links.old
AreWorked told wanted links journal (Some sessions) = AreAll told journal links wanted sessions.items

-- those that there were
abbrev pub sessions_in : {M : Type 0} → Option (Roomy (Session M)) → List (Session M)
sessions_in None = []
sessions_in (Some sessions) = sessions.items
