-- What other crates cite of this one's proofs: they import no other file of them.
-- ---- Held: The list of what a transaction holds, and the modes in it.
-- the modes in a list after claims
pub use Rattle.xc_locks.proofs.Held.{claimed-holding}
-- the mode in a list is a member's
pub use Rattle.xc_locks.proofs.Held.{member}
-- where each object is in a list once at most, a member's mode is the mode in the list
pub use Rattle.xc_locks.proofs.Held.{once_member}
