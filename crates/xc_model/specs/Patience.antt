-- Where no job may wait, no transaction is revoked: only an older one that waits marks a younger one.
use Rattle.std.specs.Prelude.{◌≡◌, ℕ}
use Rattle.std.specs.declared.option.Option.TheVariants.{None}
use Rattle.xc_model.specs.EntryEnds.{AreUnrevoked, IsUnrevoked}
use Rattle.xc_model.specs.Moment.{Moment, TxView}
use Rattle.xc_model.specs.Movers.{IsActiveAt}
use Rattle.xc_model.specs.Stories.{cause_of_phase}

-- no entry was revoked, no active transaction is, and none is marked
pub record NoneIsRevoked (now : Moment) : Type 0 where
  pub entries : AreUnrevoked now.journal
  pub active : (at : ℕ) (tx : TxView) → IsActiveAt now.jobs at tx → IsUnrevoked (cause_of_phase None tx.phase)
  pub marks : (n : ℕ) → now.marks n ≡ None
