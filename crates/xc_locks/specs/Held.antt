-- What a transaction holds, with room for more.
use Rattle.std.specs.Prelude.{◌≡◌, ◌≤◌, ℕ, false, List, length, slice_get, Option, Some, None}
use Rattle.xc_data.specs.declared.object.Object.{Object}
use Rattle.xc_data.specs.declared.claim.Claim.{Claim}
use Rattle.xc_data.specs.Claims.{objects}
use Rattle.xc_locks.specs.Table.{has}

-- what contracts see of what is held: the claims, and how many more go in without memory
pub record Held : Type 0 where
  pub items : List Claim
  pub spare : ℕ

-- claims go in without memory
abbrev pub HasRoomFor : Held → List Claim → Type 0
HasRoomFor held claims = length claims ≤ held.spare

-- a claim on an object stands at this place, or none is on it
abbrev pub IsPlaceOf : List Claim → Object → Option ℕ → Type 0
IsPlaceOf held o None = has (objects held) o ≡ false
IsPlaceOf held o (Some at) = (claim : Claim) × (slice_get held at ≡ Some claim) × (claim.object ≡ o)
