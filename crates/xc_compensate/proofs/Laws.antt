-- What other crates cite of this one's proofs: they import no other file of them.
-- ---- Blocking: The first newer record in the way of an older one.
-- the blocker, from the place of the first that stands in the way
pub use Rattle.xc_compensate.proofs.Blocking.{blocker_is}
