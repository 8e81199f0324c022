-- What other crates cite of this one's proofs: they import no other file of them.
-- ---- Keeping: A script that is read keeps all limits.
-- so many blocks as jobs and bodies
pub use Rattle.xc_text.proofs.Keeping.{blocks_count}
-- what the grammar has is a script in its limits
pub use Rattle.xc_text.proofs.Keeping.{parsed}
-- such a script keeps the limits of every prologue
pub use Rattle.xc_text.proofs.Keeping.{in_limits}
-- a script that is read is asked by its blocks
pub use Rattle.xc_text.proofs.Keeping.{parsed_blocks}
-- the script of clients keeps the limits of the one whose blocks ask
pub use Rattle.xc_text.proofs.Keeping.{of_clients}
