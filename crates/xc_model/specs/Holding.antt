-- What is true between two turns of what active transactions hold: what one holds exclusively no other holds.
use Rattle.std.specs.Prelude.{◌≡◌, ◌≢◌, ℕ, List, true, Contains}
use Rattle.xc_data.specs.Claims.{compatible, objects, AreOnceAtMost}
use Rattle.xc_data.specs.declared.claim.Claim.{Claim}
use Rattle.xc_model.specs.Moment.{TxView, JobView}
use Rattle.xc_model.specs.Movers.{IsActiveAt}

-- the claims of two active transactions on one object go together, and each holds an object once
pub record AreApart (jobs : List JobView) : Type 0 where
  pub together : (i j : ℕ) (t u : TxView) → i ≢ j → IsActiveAt jobs i t → IsActiveAt jobs j u
      → (c d : Claim) → Contains t.held c → Contains u.held d → c.object ≡ d.object → compatible c.mode d.mode ≡ true
  pub once : (i : ℕ) (t : TxView) → IsActiveAt jobs i t → AreOnceAtMost (objects t.held)
