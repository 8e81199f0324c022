-- What other crates cite of this one's proofs: they import no other file of them.
-- ---- CountedAlike: What is counted of an entry is what its text shows.
-- journals that are shown alike have the same totals
pub use Rattle.xc_alike.proofs.CountedAlike.{totals_alike}
-- ---- LeadingAlike: What an entry leads to is what its text shows.
-- shown alike, they lead alike
pub use Rattle.xc_alike.proofs.LeadingAlike.{course_alike}
-- shown alike, they are judged alike
pub use Rattle.xc_alike.proofs.LeadingAlike.{part_alike}
-- shown alike, they lead to the same jobs
pub use Rattle.xc_alike.proofs.LeadingAlike.{jobs_alike}
