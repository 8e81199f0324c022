-- Claims of a running transaction against what others hold.
use Rattle.std.specs.Prelude.{◌≡◌, ◌≢◌, ℕ, ◌≤◌, List, ◌∷◌, ◌++◌}
use Rattle.std.specs.Prelude.{All, Contains}
use Rattle.xc_data.specs.Claims.{Clash}
use Rattle.xc_data.specs.declared.claim.Claim.{Claim}
use Rattle.xc_data.specs.declared.object.Object.{Object}
use Rattle.xc_model.specs.Moment.{TxView, JobView}
use Rattle.xc_model.specs.Movers.{IsActiveAt}

-- ---- claims of a running transaction against what others hold
-- it holds the claimed object in a mode that doesn't go together with the claimed one
abbrev pub HoldsAgainst : TxView → Claim → Type 0
HoldsAgainst tx c = (d : Claim) × Contains tx.held d × Clash c d

-- no other active transaction does
abbrev pub HasNoRival : List JobView → ℕ → Claim → Type 0
HasNoRival jobs at c = (j : ℕ) (tx : TxView) → j ≢ at → IsActiveAt jobs j tx → HoldsAgainst tx c → ⊥

-- another one does, and it is the one with the smallest number that does
pub record IsRival (jobs : List JobView) (at : ℕ) (c : Claim) (holder : ℕ) : Type 0 where
  pub place : ℕ
  pub other : place ≢ at
  pub rival : TxView
  pub active : IsActiveAt jobs place rival
  pub holds : HoldsAgainst rival c
  pub numbered : rival.number ≡ holder
  pub smallest : (j : ℕ) (tx : TxView) → j ≢ at → IsActiveAt jobs j tx → HoldsAgainst tx c → holder ≤ tx.number

-- the first claim that has a rival is of this object, and this is its rival
pub record IsFirstRival (jobs : List JobView) (at : ℕ) (claims : List Claim) (object : Object) (holder : ℕ) : Type 0 where
  pub front : List Claim
  pub met : Claim
  pub rest : List Claim
  pub split : claims ≡ front ++ met ∷ rest
  pub free : All (HasNoRival jobs at) front
  pub names : met.object ≡ object
  pub rival : IsRival jobs at met holder
