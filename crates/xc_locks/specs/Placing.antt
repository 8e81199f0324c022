-- Room for claims: what is put into the table before their modes are.
use Rattle.std.specs.Prelude.{◌≡◌, ℕ, true, false, Bool, All, List, ◌++◌, Some, None, IsSome}
use Rattle.std.specs.List.{list_any}
use Rattle.xc_data.specs.declared.object.Object.{Object}
use Rattle.xc_data.specs.declared.claim.Mode.TheVariants.{Shared}
use Rattle.xc_data.specs.declared.claim.Claim.{Claim}
use Rattle.xc_data.specs.Claims.{is_object}
use Rattle.xc_data.specs.Step.{Step}
use Rattle.xc_locks.specs.Table.{has, Table, held_mode, KeepsOthers}

-- whether a claim of a list is on an object
abbrev pub is_claimed : List Claim → Object → Bool
is_claimed claims o = list_any (λ (c : Claim). is_object c.object o) claims

module _ (tx : ℕ) (claims : List Claim) (was now : Table) where
  -- the transaction holds what these claims are on: what it didn't hold before, Shared, and that was added
  pub record IsPlaced (added : List Object) : Type 0 where
    pub new : (o : Object) → has added o ≡ true → held_mode was tx o ≡ None
    pub shared : (o : Object) → has added o ≡ true → held_mode now tx o ≡ Some Shared
    pub asked : (o : Object) → has added o ≡ true → is_claimed claims o ≡ true
    pub kept : (o : Object) → has added o ≡ false → held_mode now tx o ≡ held_mode was tx o
    pub held : All (λ (c : Claim). IsSome (held_mode now tx c.object)) claims
    pub others : KeepsOthers tx was now

-- the same, where what was added came after others
abbrev pub PlacedBehind : ℕ → List Claim → Step Table → Step (List Object) → Type 0
PlacedBehind tx claims table added = (more : List Object) × (added.new ≡ added.old ++ more) × IsPlaced tx claims table.old table.new more
