-- Both ways of a connection, as contracts see it.
use Rattle.std.specs.Prelude.{ℕ, List, Option}
use Rattle.xc_edge.specs.View.{StreamView}

-- the bytes that are left and those that it took, where it tells them; and how often a call failed
pub record Wire : Type 0 where
  pub left : Option (List ℕ)
  pub taken : Option (List ℕ)
  pub faults : ℕ

-- as a source
abbrev pub giving : Wire → StreamView
giving w = record { bytes = w.left; faults = w.faults }

-- as a sink
abbrev pub taking : Wire → StreamView
taking w = record { bytes = w.taken; faults = w.faults }
