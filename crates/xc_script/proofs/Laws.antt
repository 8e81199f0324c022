-- What other crates cite of this one's proofs: they import no other file of them.
-- ---- SlotEnds: Calls that were kept, and their ends.
-- the calls that are kept for the commit, told ahead of the backs
pub use Rattle.xc_script.proofs.SlotEnds.{kept_ahead}
-- ---- Backs: A transaction that goes on behind a block, and one that goes on behind a call.
-- what is left from a place on is the statement there and those behind it
pub use Rattle.xc_script.proofs.Backs.{drop_there}
-- ---- Opened: A block is open just where the statements that are left are in one: a back and a keep are asked only there, and a save elsewhere.
-- after any replies
pub use Rattle.xc_script.proofs.Opened.{all_inner}
-- at the begin of a transaction of a script that was read
pub use Rattle.xc_script.proofs.Opened.{begins_inner}
-- what is asked fits the block that is open
pub use Rattle.xc_script.proofs.Opened.{asks_inner}
-- ---- Clients: Where clients ask, a walk stays where it is.
-- a transaction is left, of which nothing is said
pub use Rattle.xc_script.proofs.Clients.{live_body}
-- so no statement is left
pub use Rattle.xc_script.proofs.Clients.{live_left}
-- asked by blocks, the next transaction is the one of that number in its block
pub use Rattle.xc_script.proofs.Clients.{scripted_body}
-- where clients ask it is where its walk is
pub use Rattle.xc_script.proofs.Clients.{live_settled}
