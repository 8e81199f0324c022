-- Which claims are met, and by whom.
use Rattle.std.specs.Prelude.{◌≡◌, ◌≢◌, ◌≤◌, ℕ, All, List, ◌∷◌, ◌++◌, Some}
use Rattle.xc_data.specs.declared.object.Object.{Object}
use Rattle.xc_data.specs.declared.claim.Mode.{Mode}
use Rattle.xc_data.specs.declared.claim.Claim.{Claim}
use Rattle.xc_data.specs.Claims.{Clash, claim}
use Rattle.xc_locks.specs.declared.refusal.ClaimErr.{ClaimErr}
use Rattle.xc_locks.specs.declared.refusal.ClaimErr.TheVariants.{Met, NoMemory}
use Rattle.xc_locks.specs.Table.{Table, held_mode}

-- another transaction holds the claimed object, in a mode that isn't compatible with the claimed one
pub record Meets (table : Table) (wanted : Claim) (tx n : ℕ) : Type 0 where
  pub other : n ≢ tx
  pub held_as : Mode
  pub holds : held_mode table n wanted.object ≡ Some held_as
  pub clash : Clash wanted (claim held_as wanted.object)

-- this transaction is the smallest that meets a claim of tx
pub record IsMet (table : Table) (claim : Claim) (tx n : ℕ) : Type 0 where
  pub meets : Meets table claim tx n
  pub smallest : (k : ℕ) → Meets table claim tx k → n ≤ k

-- no transaction meets a claim of tx
abbrev pub IsNotMet : Table → ℕ → Claim → Type 0
IsNotMet table tx claim = (n : ℕ) → Meets table claim tx n → ⊥

-- the first claim of a list that is met has this object, and this is the smallest transaction that meets it
pub record IsFirstMet (table : Table) (claims : List Claim) (tx : ℕ) (object : Object) (holder : ℕ) : Type 0 where
  pub before : List Claim
  pub claim : Claim
  pub after : List Claim
  pub parts : claims ≡ before ++ claim ∷ after
  pub free : All (IsNotMet table tx) before
  pub object_is : claim.object ≡ object
  pub met : IsMet table claim tx holder

-- why claims are refused: one is met; or none is, and there was no memory
abbrev pub IsCause : Table → List Claim → ℕ → ClaimErr → Type 0
IsCause table claims tx (Met object holder) = IsFirstMet table claims tx object holder
IsCause table claims tx NoMemory = All (IsNotMet table tx) claims
