-- What other crates cite of this one's proofs: they import no other file of them.
-- ---- Others: One more session in front of the others.
-- sessions stay right where the journal grows
pub use Rattle.xc_meet.proofs.Others.{sittings_later}
