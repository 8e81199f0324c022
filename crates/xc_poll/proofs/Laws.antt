-- What other crates cite of this one's proofs: they import no other file of them.
-- ---- Gathers: Several passes as one, and several tasks one after another.
-- the longer of two histories, of which one begins with the other, begins with the first
pub use Rattle.xc_poll.proofs.Gathers.{longer_begins}
