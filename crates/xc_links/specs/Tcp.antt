-- Connections that tell nothing, but how often a call failed.
use Rattle.std.specs.Prelude.{ℕ, None}
use Rattle.xc_links.specs.Links.{LinksView}
use Rattle.xc_links.specs.Wires.{Wire}

-- of one
abbrev pub untold : ℕ → Wire
untold faults = record { left = None; taken = None; faults = faults }

-- of those that are to come
abbrev pub untold_links : {L : Type 0} → ℕ → LinksView L
untold_links faults = record { left = None; faults = faults }
