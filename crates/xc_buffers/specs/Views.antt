-- What contracts see of the buffers.
use Rattle.std.specs.Prelude.{ℕ, List}
use Rattle.xc_data.specs.declared.entry.KeptItem.{KeptItem}

-- the kept items, the front of each source first, and how many more go in without memory
pub record KeptView : Type 0 where
  pub items : List KeptItem
  pub spare : ℕ

-- what a transaction took, the oldest first, and how many more notes go in without memory
pub record TakenView : Type 0 where
  pub items : List KeptItem
  pub spare : ℕ
