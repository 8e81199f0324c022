-- What other crates cite of this one's proofs: they import no other file of them.
-- ---- Lifted: Late calls at a host with kept items in front of what it holds.
-- a world with the host's contents and kept items in front is the one with the host's contents, to which they are given back
pub use Rattle.xc_deferred.proofs.Lifted.{world_with}
-- a host that was used is so with kept items in front
pub use Rattle.xc_deferred.proofs.Lifted.{uses_fronted}
