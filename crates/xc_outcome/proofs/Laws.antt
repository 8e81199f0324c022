-- What other crates cite of this one's proofs: they import no other file of them.
-- ---- Completeness: A told script that is read without a fault is run, and what a run that is done has written.
-- so it is where neither memory nor the sink was wanting
pub use Rattle.xc_outcome.proofs.Completeness.{said_plainly}
-- ---- Finishing: A run that was prepared, and all of whose jobs have ended, has the end and the answer that are promised, whatever took its turns.
-- the blocks of a started station's script ask its transactions
pub use Rattle.xc_outcome.proofs.Finishing.{starts_scripted}
-- it is the end of a run of the bytes that were started
pub use Rattle.xc_outcome.proofs.Finishing.{is_run_of}
-- and of one whose jobs ran one after another, where they did
pub use Rattle.xc_outcome.proofs.Finishing.{is_serial_run}
-- what was prepared by a choice and whose jobs have ended is the end of its run
pub use Rattle.xc_outcome.proofs.Finishing.{is_run}
-- a run with this end is answered
pub use Rattle.xc_outcome.proofs.Finishing.{answered_by_run}
-- a run that nothing disturbed was done, or memory or the sink was wanting
pub use Rattle.xc_outcome.proofs.Finishing.{full_as_said}
