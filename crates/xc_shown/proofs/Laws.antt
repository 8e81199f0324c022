-- What other crates cite of this one's proofs: they import no other file of them.
-- ---- Parting: What is read of the lines of entries, from the last one on, are these entries.
-- those of entries are those of what they show
pub use Rattle.xc_shown.proofs.Parting.{entries_show}
