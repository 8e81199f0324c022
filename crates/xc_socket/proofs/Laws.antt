-- What other crates cite of this one's proofs: they import no other file of them.
-- ---- Behind: What is kept where a message is received, or is given back for want of memory.
-- a message that was received is given back: it was kept before, or it was the host's and stands behind what is kept
pub use Rattle.xc_socket.proofs.Behind.{given_message}
