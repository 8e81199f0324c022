-- What other crates cite of this one's proofs: they import no other file of them.
-- ---- Pieces: Pieces that are read or written one after another.
-- a front of what was left, as `&text[done..]` gives it, makes the front longer
pub use Rattle.xc_edge.proofs.Pieces.{wrote_more}
