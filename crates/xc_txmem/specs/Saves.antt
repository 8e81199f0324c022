-- A save of stores: how many there were, and the newest of the later ones.
use Rattle.std.specs.Prelude.{ℕ, ⊤, ◌≤◌, List, length, take, drop, Option}
use Rattle.std.specs.declared.option.Option.TheVariants.{None, Some}
use Rattle.xc_txmem.specs.declared.writes.Save.{Save}
use Rattle.xc_txmem.specs.Overlay.{IsNewest}

-- the stores at the save
abbrev pub saved_stores : Option Save → List (ℕ × ℕ) → Option (List (ℕ × ℕ))
saved_stores None stores = None
saved_stores (Some save) stores = Some (take save.count stores)

-- the save is of these stores
abbrev pub IsSaveOfStores : Option Save → List (ℕ × ℕ) → Type 0
IsSaveOfStores None stores = ⊤
IsSaveOfStores (Some save) stores = (save.count ≤ length stores) × IsNewest save.newest (drop 8 (take save.count stores))
