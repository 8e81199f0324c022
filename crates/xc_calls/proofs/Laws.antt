-- What other crates cite of this one's proofs: they import no other file of them.
-- ---- Fronted: Calls on a host with kept items in front of what it holds.
-- what a host holds with what is kept
pub use Rattle.xc_calls.proofs.Fronted.{logical}
-- what a read leaves: the host, what is kept in front of it, and the private state
pub use Rattle.xc_calls.proofs.Fronted.{ReadState}
-- what it holds with what is kept
pub use Rattle.xc_calls.proofs.Fronted.{sides}
-- a host that was used is so with items in front, whatever becomes of these
pub use Rattle.xc_calls.proofs.Fronted.{uses_both}
-- where memory ran out what is there is as before
pub use Rattle.xc_calls.proofs.Fronted.{err_logical}
-- where memory ran out all is as before
pub use Rattle.xc_calls.proofs.Fronted.{err_before}
-- all is as before with kept items in front where it is without
pub use Rattle.xc_calls.proofs.Fronted.{before_fronted}
-- where nothing is changed
pub use Rattle.xc_calls.proofs.Fronted.{keeps_same}
-- ---- HostCalls: Calls on a host, as their contract has them.
-- what follows of each reply
pub use Rattle.xc_calls.proofs.HostCalls.{ok_more}
-- what holds anyway holds after each failure
pub use Rattle.xc_calls.proofs.HostCalls.{always_err}
-- it leaves one at most
pub use Rattle.xc_calls.proofs.HostCalls.{one_made}
-- a call that a check refuses, and that leaves no record then
pub use Rattle.xc_calls.proofs.HostCalls.{refused_call}
-- nothing is refused that passes
pub use Rattle.xc_calls.proofs.HostCalls.{some_refusal}
-- the records that a call with this reply leaves: one at most, and those of the plain machine where the host tells
pub use Rattle.xc_calls.proofs.HostCalls.{RecordsGrow}
-- a call that is passed, and replies
pub use Rattle.xc_calls.proofs.HostCalls.{replied_call}
-- a call that is passed
pub use Rattle.xc_calls.proofs.HostCalls.{passed_call}
-- a call that leaves no record
pub use Rattle.xc_calls.proofs.HostCalls.{none_grow}
-- a call whose records its reply tells, whatever the world
pub use Rattle.xc_calls.proofs.HostCalls.{told_grow}
-- the moment of these contents, with this private state
pub use Rattle.xc_calls.proofs.HostCalls.{call_view_at}
-- a call that reaches no host is a host call, over each
pub use Rattle.xc_calls.proofs.HostCalls.{alone_call}
-- ---- Refusals: What the private checks say of a call, and what they leave of one that they refuse.
-- a refused call leaves the plain machine as it was, with this reply
pub use Rattle.xc_calls.proofs.Refusals.{refused_acts}
-- where none of them refuses a call, the plain machine's checks refuse a bad word alone
pub use Rattle.xc_calls.proofs.Refusals.{passed_checks}
-- the first of the checks that refuses gives such a reply
pub use Rattle.xc_calls.proofs.Refusals.{plain_first}
-- what a check of a limit says
pub use Rattle.xc_calls.proofs.Refusals.{by_much}
-- the checks of a create, by whether all is made and by the lowest vacant handle
pub use Rattle.xc_calls.proofs.Refusals.{much}
-- neither is so
pub use Rattle.xc_calls.proofs.Refusals.{much_none}
-- where none of the first three refuses, a step is the one after them
pub use Rattle.xc_calls.proofs.Refusals.{first_none}
