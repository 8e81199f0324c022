-- What is told of a client's transaction.
use Rattle.std.specs.Prelude.{◌≡◌, ◌<◌, ◌-◌, ℕ, List, Option}
use Rattle.xc_model.specs.Moment.{TxView, JobView, active_in}
use Rattle.xc_model.specs.Movers.{IsActiveAt}
use Rattle.xc_station.specs.Finishing.{told_at}

-- the active transaction of the client of this number, if it has one
abbrev pub tx_at : List JobView → ℕ → Option TxView
tx_at jobs client = told_at active_in jobs client

-- the active transaction of this number is this client's
pub record IsClientOf (jobs : List JobView) (number client : ℕ) : Type 0 where
  pub first : 0 < client
  pub tx : TxView
  pub active : IsActiveAt jobs (client - 1) tx
  pub numbered : tx.number ≡ number
