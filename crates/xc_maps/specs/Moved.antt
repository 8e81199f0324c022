-- Entries that stand outside a tree until memory may be taken.
use Rattle.std.specs.Prelude.{◌≡◌, ℕ, ◌+◌, ◌≤◌, List, [], ◌∷◌, ◌++◌, length, None}
use Rattle.std.specs.declared.cmp.Ordering.{Ordering}
use Rattle.std.specs.BTreeMap.{is_at}
use Rattle.std.specs.Map.{lookup}

module _ {K X : Type 0} (R : K → K → Ordering) where
  -- no entry's key stands after it, nor in the tree
  abbrev pub AreNew : List (K × X) → List (K × X) → Type 0
  AreNew [] tree = Unit {0}
  AreNew (e ∷ es) tree = (lookup (is_at (R e.0)) (es ++ tree) ≡ None) × AreNew es tree

  -- each key stands once, and there is room outside for all entries
  pub record FitOutside (es tree : List (K × X)) (capacity : ℕ) : Type 0 where
    pub fresh : AreNew es tree
    pub room : length tree + length es ≤ capacity
