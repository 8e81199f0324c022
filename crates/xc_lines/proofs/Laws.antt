-- What other crates cite of this one's proofs: they import no other file of them.
-- ---- CallLaws: Calls that were printed are read again.
-- each call
pub use Rattle.xc_lines.proofs.CallLaws.{call_again}
-- ---- HeadLaws: The first line of an entry that was printed is read again.
-- the line
pub use Rattle.xc_lines.proofs.HeadLaws.{head_again}
-- ---- HeldLaws: Held objects that were printed are read again.
-- a claim is read again, before what ends it and isn't its mode
pub use Rattle.xc_lines.proofs.HeldLaws.{claim_again}
-- further claims end what stands before them
pub use Rattle.xc_lines.proofs.HeldLaws.{further_end}
-- further claims are no mode
pub use Rattle.xc_lines.proofs.HeldLaws.{further_other}
-- further claims are read again, up to the line's end
pub use Rattle.xc_lines.proofs.HeldLaws.{claims_again}
-- ---- ReplyLaws: Replies and the ends of late calls that were printed are read again.
-- a reply is read again, before the line's end
pub use Rattle.xc_lines.proofs.ReplyLaws.{reply_again}
-- ends of late calls
pub use Rattle.xc_lines.proofs.ReplyLaws.{late_end_again}
-- ---- Spelled: What was printed is read again: numbers, names and handles.
-- a number is read again, before what is no digit
pub use Rattle.xc_lines.proofs.Spelled.{number_again}
-- so is the name of a slot or a block
pub use Rattle.xc_lines.proofs.Spelled.{ident_again}
-- ---- TailLaws: What stands in the lines of compensations, effects, jobs and kept data is read again.
-- three pieces before a rest, each before what follows
pub use Rattle.xc_lines.proofs.TailLaws.{three_parts}
-- the same with four
pub use Rattle.xc_lines.proofs.TailLaws.{four_parts}
-- the same with five
pub use Rattle.xc_lines.proofs.TailLaws.{five_parts}
-- the same with six
pub use Rattle.xc_lines.proofs.TailLaws.{six_parts}
-- compensations
pub use Rattle.xc_lines.proofs.TailLaws.{kind_again}
-- the end of a compensation is read again, before the line's end
pub use Rattle.xc_lines.proofs.TailLaws.{undo_end_again}
-- effects
pub use Rattle.xc_lines.proofs.TailLaws.{standing_again}
-- jobs
pub use Rattle.xc_lines.proofs.TailLaws.{job_end_again}
-- kept data
pub use Rattle.xc_lines.proofs.TailLaws.{item_again}
