-- What other crates cite of this one's proofs: they import no other file of them.
-- ---- EndTexts: The printed text of an end is that of its lines.
-- the printed text of an end is that of its lines
pub use Rattle.xc_sheet.proofs.EndTexts.{text_is}
