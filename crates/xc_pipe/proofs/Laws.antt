-- What other crates cite of this one's proofs: they import no other file of them.
-- ---- Behind: Bytes that the host gave, and that stand behind what was kept of the same pipe, where all is given back.
-- what was read is given back, for want of memory
pub use Rattle.xc_pipe.proofs.Behind.{read_given_back}
