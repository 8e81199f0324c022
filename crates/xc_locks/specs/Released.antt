-- What a release gives of the claims of a transaction's calls.
use Rattle.std.specs.Prelude.{◌++◌, ◌∷◌, [], List, Option, if◌then◌else◌, option_map}
use Rattle.std.specs.List.{fold, filter_map}
use Rattle.xc_data.specs.declared.object.Object.{Object}
use Rattle.xc_data.specs.declared.claim.Mode.{Mode}
use Rattle.xc_data.specs.declared.claim.Claim.{Claim}
use Rattle.xc_data.specs.Claims.{claim}
use Rattle.xc_locks.specs.Table.{has}

-- an object after others, where it isn't among them
abbrev pub with_one : List Object → Object → List Object
with_one os o = if has os o then os else os ++ o ∷ []

-- each object of a list once, where it comes first
abbrev pub each_once : List Object → List Object
each_once os = fold with_one [] os

-- the claims on objects in the modes in which they are held; what isn't held is passed over
abbrev pub claims_on : (Object → Option Mode) → List Object → List Claim
claims_on modes os = filter_map (λ o. option_map (λ m. claim m o) (modes o)) os
