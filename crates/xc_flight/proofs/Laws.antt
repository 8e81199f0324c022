-- What other crates cite of this one's proofs: they import no other file of them.
-- ---- Basics: What a transaction has and owns: decisions, and how claims grow.
-- it has an object, or not
pub use Rattle.xc_flight.proofs.Basics.{has_decide}
-- it has what it owns
pub use Rattle.xc_flight.proofs.Basics.{owns_has}
-- what its claims own, it owns
pub use Rattle.xc_flight.proofs.Basics.{owns_own}
-- ---- Backing: The end of a block's way back: all that it did is undone and given back, and the transaction runs on from the save.
-- where as many records as at the save have no end, a way back may end
pub use Rattle.xc_flight.proofs.Backing.{way_back}
-- it claimed what it had claimed
pub use Rattle.xc_flight.proofs.Backing.{body_gone}
-- the end of a way back keeps all
pub use Rattle.xc_flight.proofs.Backing.{backs}
-- ---- Frames: A transaction's flight depends on what it has alone.
-- what a body left, by what its transaction has and owns
pub use Rattle.xc_flight.proofs.Frames.{ran_whole}
-- it changes only what it owns
pub use Rattle.xc_flight.proofs.Frames.{ran_keeps}
-- what it left differs from S in what it owns at most
pub use Rattle.xc_flight.proofs.Frames.{left_keeps}
-- ---- Moving: A move of one transaction keeps what is true of all; and where none is active the station's world is the journal's.
-- of a job whose active transaction is known
pub use Rattle.xc_flight.proofs.Moving.{has_it}
-- it owns what its transaction owns
pub use Rattle.xc_flight.proofs.Moving.{own_it}
-- where nobody is active, the two worlds are one
pub use Rattle.xc_flight.proofs.Moving.{all_free}
-- the others stay
pub use Rattle.xc_flight.proofs.Moving.{active_set_other}
-- ---- Rows: A transaction begins, goes on, claims or ends.
-- it has and owns the same as before
pub use Rattle.xc_flight.proofs.Rows.{flight_goes_on}
-- a begin keeps all
pub use Rattle.xc_flight.proofs.Rows.{begin_keeps}
-- the start: nobody is active, and the station's world is the opening
pub use Rattle.xc_flight.proofs.Rows.{starts}
-- a job more changes nothing
pub use Rattle.xc_flight.proofs.Rows.{one_job_more}
-- ---- Calling: What a running transaction sees, and a call that it makes.
-- what its phase says
pub use Rattle.xc_flight.proofs.Calling.{is_running}
-- all that it has it sees as its body left it
pub use Rattle.xc_flight.proofs.Calling.{sees}
-- no call of its is without a reply
pub use Rattle.xc_flight.proofs.Calling.{all_noted}
-- ---- Ending: A commit, its late calls, and its entry.
-- a commit keeps all
pub use Rattle.xc_flight.proofs.Ending.{commits}
-- its late calls are those that its body left
pub use Rattle.xc_flight.proofs.Ending.{ran_late}
-- a late call keeps all
pub use Rattle.xc_flight.proofs.Ending.{does_late}
-- what it left is where its run leads
pub use Rattle.xc_flight.proofs.Ending.{left_run}
-- it enters
pub use Rattle.xc_flight.proofs.Ending.{commit_enters}
-- ---- Taking: What a body took from pipes and pairs: it owns them, and made none of them.
-- how much is in the pipe or the pair of an item
pub use Rattle.xc_flight.proofs.Taking.{amount_in}
-- the same in worlds that agree there
pub use Rattle.xc_flight.proofs.Taking.{filled_alike}
-- after several
pub use Rattle.xc_flight.proofs.Taking.{remains_empty}
-- and what has a number that nothing has is empty
pub use Rattle.xc_flight.proofs.Taking.{new_empty}
-- its records make nothing, and speak of no pipe or pair, but under its own number
pub use Rattle.xc_flight.proofs.Taking.{Coined}
-- of a whole body
pub use Rattle.xc_flight.proofs.Taking.{trail_coined}
-- with what it took given back, its body's world is S with its records, the words aside
pub use Rattle.xc_flight.proofs.Taking.{returns_left}
-- it owns what it took from
pub use Rattle.xc_flight.proofs.Taking.{taken_own}
-- ---- Undoing: A turn back, lack of memory after a call, a compensation, and the entry of an abort.
-- a turn back keeps all
pub use Rattle.xc_flight.proofs.Undoing.{turns_back}
-- the call did its part, and then memory ran out
pub use Rattle.xc_flight.proofs.Undoing.{wants}
-- what is true of all its records is true of this one
pub use Rattle.xc_flight.proofs.Undoing.{of_record}
-- it owns what it speaks of
pub use Rattle.xc_flight.proofs.Undoing.{record_own}
-- and took nothing from there
pub use Rattle.xc_flight.proofs.Undoing.{not_taken}
-- what it speaks of is there as its records tell: none of it was taken
pub use Rattle.xc_flight.proofs.Undoing.{there_as_told}
-- an aborted transaction, each of whose records has its end, gives back what it took and enters
pub use Rattle.xc_flight.proofs.Undoing.{abort_enters}
-- ---- Claiming: A claim is granted; and what a call touches is nobody else's new object.
-- claims cover those at their end
pub use Rattle.xc_flight.proofs.Claiming.{back_held}
-- covering goes on
pub use Rattle.xc_flight.proofs.Claiming.{covers_through}
-- claims that are merged hold the same as the list of them
pub use Rattle.xc_flight.proofs.Claiming.{merged_held}
-- granted claims keep all
pub use Rattle.xc_flight.proofs.Claiming.{claims_keep}
-- ---- LateReady: The late calls of a transaction are ready: their objects are there.
-- what it did with its late calls so far keeps every other one sound
pub use Rattle.xc_flight.proofs.LateReady.{done_sound}
-- the next one of a committing transaction is ready in the station's world
pub use Rattle.xc_flight.proofs.LateReady.{next_ready}
-- ---- Sounding: Soundness beside the flights: what a call touches, and the entry of a commit.
-- the station has no object with a number that a running transaction is still to give
pub use Rattle.xc_flight.proofs.Sounding.{still_absent}
-- for all others
pub use Rattle.xc_flight.proofs.Sounding.{sound_after}
-- for the jobs that have none
pub use Rattle.xc_flight.proofs.Sounding.{idle_after}
-- for its own job
pub use Rattle.xc_flight.proofs.Sounding.{own_after}
-- ---- Together: A call with its claims in one turn; and what keeps all sound.
-- the later one counts
pub use Rattle.xc_flight.proofs.Together.{two_turns}
-- they may be granted where they have no rival
pub use Rattle.xc_flight.proofs.Together.{call_granted}
-- a call whose claims have no rival is done and noted in one turn
pub use Rattle.xc_flight.proofs.Together.{called_with_claims}
-- what keeps all sound
pub use Rattle.xc_flight.proofs.Together.{turn_keeps_sound}
-- a begin keeps all sound
pub use Rattle.xc_flight.proofs.Together.{begin_sound}
-- ---- Aborting: A transaction that turned back: its records can be undone, and its abort leaves all sound.
-- its records were made one after another
pub use Rattle.xc_flight.proofs.Aborting.{records_made}
-- the newest of them is undone, however its compensation ends
pub use Rattle.xc_flight.proofs.Aborting.{newest_undone}
-- every other active transaction stays sound
pub use Rattle.xc_flight.proofs.Aborting.{abort_sound}
-- the jobs that have none stay so
pub use Rattle.xc_flight.proofs.Aborting.{abort_idle}
-- its own job may begin its next transaction, with the handles that it had
pub use Rattle.xc_flight.proofs.Aborting.{own_after_abort}
