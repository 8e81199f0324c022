-- What other crates cite of this one's proofs: they import no other file of them.
-- ---- Places: The kinds of calls by their places, and counts of them.
-- two kinds are one where they have one place
pub use Rattle.xc_host.proofs.Places.{same_place}
-- a kind's place is one of 25
pub use Rattle.xc_host.proofs.Places.{place_bound}
-- ---- Writes: Writes that follow each other.
-- a write after a front that was written makes a longer front
pub use Rattle.xc_host.proofs.Writes.{front_grows}
-- a write inside a file leaves it there, at its length
pub use Rattle.xc_host.proofs.Writes.{keeps_length}
-- ---- Called: Calls of a host that follow each other.
-- a count that rose twice rose by the sum
pub use Rattle.xc_host.proofs.Called.{rises_sum}
-- a host that wasn't called
pub use Rattle.xc_host.proofs.Called.{unused}
-- a host that was used once more
pub use Rattle.xc_host.proofs.Called.{used_then}
-- one more call of the same kind
pub use Rattle.xc_host.proofs.Called.{used_again}
-- one more call of a kind moved some bytes
pub use Rattle.xc_host.proofs.Called.{moves_more}
-- one more call of a kind moved none
pub use Rattle.xc_host.proofs.Called.{moves_none}
-- ---- PipeSteps: Calls on pipes that follow each other.
-- a put after a front that was put makes a longer front
pub use Rattle.xc_host.proofs.PipeSteps.{front_put}
-- ---- DataKept: Calls of a host that keep each pipe and each pair.
-- what is there is there after a change of nothing
pub use Rattle.xc_host.proofs.DataKept.{data_keeps_itself}
-- and after two changes that keep all
pub use Rattle.xc_host.proofs.DataKept.{keeps_then}
-- none, or some
pub use Rattle.xc_host.proofs.DataKept.{keeps_front}
-- bytes that are taken
pub use Rattle.xc_host.proofs.DataKept.{keeps_taken}
-- a new pipe
pub use Rattle.xc_host.proofs.DataKept.{keeps_new}
-- a message that is sent
pub use Rattle.xc_host.proofs.DataKept.{keeps_sent}
-- a pipe or a pair that is shut
pub use Rattle.xc_host.proofs.DataKept.{keeps_shut}
