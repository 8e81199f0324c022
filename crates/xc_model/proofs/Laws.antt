-- What other crates cite of this one's proofs: they import no other file of them.
-- ---- CallCounts: Calls and their replies are as many.
-- each call has its reply
pub use Rattle.xc_model.proofs.CallCounts.{in_time-count}
-- ---- HandedAsks: What is asked where clients ask: what was handed in. Before one hands in for its running transaction nothing is asked.
-- what was handed in, or else nothing
pub use Rattle.xc_model.proofs.HandedAsks.{asked_client}
-- nothing before
pub use Rattle.xc_model.proofs.HandedAsks.{nothing_asked}
-- and this after
pub use Rattle.xc_model.proofs.HandedAsks.{handing_asks}
-- so the job's active one does, if there is one
pub use Rattle.xc_model.proofs.HandedAsks.{handed_runs}
-- what is asked of it fits its open block
pub use Rattle.xc_model.proofs.HandedAsks.{handed_fits}
-- nothing fits every block
pub use Rattle.xc_model.proofs.HandedAsks.{unasked_fits}
-- ---- LiveWalks: What a job is asked where it stands; where clients ask, a walk stays where it is.
-- by clients or by its blocks, and never by both
pub use Rattle.xc_model.proofs.LiveWalks.{not_clients}
-- past silent statements it is asked the same
pub use Rattle.xc_model.proofs.LiveWalks.{asked_same}
-- ---- MostEntries: How many entries a journal may have.
-- of a script 10,000
pub use Rattle.xc_model.proofs.MostEntries.{most_scripted}
-- never more than there are numbers
pub use Rattle.xc_model.proofs.MostEntries.{most_numbered}
-- ---- StartedCalls: Late calls that start what kept calls would have started the same blocks.
-- the same blocks
pub use Rattle.xc_model.proofs.StartedCalls.{started_same}
