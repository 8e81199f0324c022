-- What other crates cite of this one's proofs: they import no other file of them.
-- ---- Cases: What is so of a value in one of its cases.
-- what is found is so
pub use Rattle.xc_judge.proofs.Cases.{found_some}
