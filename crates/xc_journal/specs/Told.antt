-- A journal from which entries are handed out.
use Rattle.std.specs.Prelude.{ℕ, List, drop}
use Rattle.xc_data.specs.declared.entry.Entry.{Entry}

-- all its entries, how many of them were handed out, and how many more go in without memory
pub record Journal : Type 0 where
  pub items : List Entry
  pub gone : ℕ
  pub spare : ℕ

-- the entries that aren't handed out yet
abbrev pub waiting_of : Journal → List Entry
waiting_of journal = drop journal.gone journal.items
