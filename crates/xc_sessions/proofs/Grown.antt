-- The sessions of a run stay right where its journal grows.
use Rattle.std.specs.Prelude.{ℕ, List}
use Rattle.xc_data.specs.Step.{Step}
use Rattle.xc_data.specs.declared.entry.Entry.{Entry}
use Rattle.xc_links.specs.Links.{LinksView}
use Rattle.xc_links.specs.Wires.{Wire}
use Rattle.xc_meet.specs.Members.{AreAll}
use Rattle.xc_meet.specs.declared.session.Session.{Session}
use Rattle.xc_meet.proofs.Laws.{sittings_later}
use Rattle.xc_turnstile.specs.Views.{BeginsWith}

-- all of them
pub all_later : {L : Type 0} (told : L → Wire) (log more : List Entry) (links : Step (LinksView L)) (count : ℕ) (sessions : List (Session L))
    → BeginsWith more log → AreAll told log links count sessions → AreAll told more links count sessions
all_later told log more links count sessions front all =
    record {
      are = record {
        sittings = all.are.sittings;
        each = sittings_later told log more front all.are.sittings sessions all.are.each;
        accepted = all.are.accepted;
        apart = all.are.apart;
      };
      all = all.all;
      few = all.few;
      later = all.later;
    }
