-- What other crates cite of this one's proofs: they import no other file of them.
-- ---- Overlays: A word under stores is what they leave at its place.
-- stores change no count
pub use Rattle.xc_txmem.proofs.Overlays.{overlay_count}
-- one store more
pub use Rattle.xc_txmem.proofs.Overlays.{overlay_adds}
