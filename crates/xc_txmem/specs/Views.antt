-- What contracts see of a transaction's stores.
use Rattle.std.specs.Prelude.{ℕ, List, [], Option}
use Rattle.std.specs.declared.option.Option.TheVariants.{None}

-- the stores, the oldest first; and those at the save that is open, where one is
pub record WritesView : Type 0 where
  pub stores : List (ℕ × ℕ)
  pub saved : Option (List (ℕ × ℕ))

-- no store, and no open save
abbrev pub no_writes : WritesView
no_writes = record { stores = []; saved = None }
