-- What other crates cite of this one's proofs: they import no other file of them.
-- ---- Walks: A step that walks share which make a struct without a field. Assumes `Logic`.
-- a struct without a field
pub use Rattle.xc_journal.proofs.Walks.{none}
-- its type
pub use Rattle.xc_journal.proofs.Walks.{fieldless}
-- such a value is made
pub use Rattle.xc_journal.proofs.Walks.{none_made}
