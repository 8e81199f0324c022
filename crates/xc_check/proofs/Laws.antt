-- What other crates cite of this one's proofs: they import no other file of them.
-- ---- Forgotten: Conflicts and revocations of which it isn't known which call met the holder: they don't depend on what was asked last.
-- what is true of the machine is so but for which call met a holder
pub use Rattle.xc_check.proofs.Forgotten.{true_but_for_met}
