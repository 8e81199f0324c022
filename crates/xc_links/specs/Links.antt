-- Links that are to come, as contracts see them.
use Rattle.std.specs.Prelude.{◌≡◌, ℕ, ◌≤◌, List, ◌∷◌, ⊤, Option, Result, OnErr}
use Rattle.std.specs.declared.option.Option.TheVariants.{None, Some}
use Rattle.xc_data.specs.Counts.{counted}

-- those that are to come, where it tells them; and how often an accept failed
pub record LinksView (L : Type 0) : Type 0 where
  pub left : Option (List L)
  pub faults : ℕ

-- the first of them is given
abbrev pub GivesLink : {L : Type 0} → Option (List L) → Option (List L) → L → Type 0
GivesLink None new link = ⊤
GivesLink (Some links) None link = ⊥
GivesLink (Some links) (Some rest) link = links ≡ link ∷ rest

-- they stay as they were
abbrev pub KeepsLinks : {L : Type 0} → Option (List L) → Option (List L) → Type 0
KeepsLinks None new = ⊤
KeepsLinks (Some links) None = ⊥
KeepsLinks (Some links) (Some left) = left ≡ links

-- the count never falls, and an accept fails only where it rose
pub record HasLinkCause {T E : Type 0} (old new : ℕ) (result : Result T E) : Type 0 where
  pub later : old ≤ new
  pub failed : OnErr result (counted old ≤ new)
