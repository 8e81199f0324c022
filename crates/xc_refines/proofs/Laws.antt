-- What other crates cite of this one's proofs: they import no other file of them.
-- ---- AtRest: Where each job has ended all is as the journal says.
-- the words, what the host tells and the jobs are those that the journal leads to
pub use Rattle.xc_refines.proofs.AtRest.{at_rest}
-- ---- ClaimedThere: What a call of a running transaction has open and may claim is there.
-- its object is there
pub use Rattle.xc_refines.proofs.ClaimedThere.{claimed_there}
-- ---- HandedFlight: What a client hands in keeps the flights of all: what its transaction did and holds is as it was.
-- what is handed in keeps the flights of all
pub use Rattle.xc_refines.proofs.HandedFlight.{handed_flies}
-- ---- NewEmpty: What the newest record without an end made is empty, and nobody has taken from it: nothing was put there.
-- so it is
pub use Rattle.xc_refines.proofs.NewEmpty.{made_empty}
-- the newest record is not of what another took from
pub use Rattle.xc_refines.proofs.NewEmpty.{not_taken_from}
-- ---- NewNumbers: Nothing at the host has a number that a running transaction has still to give.
-- over a running transaction nothing at the host has a number that it has still to give
pub use Rattle.xc_refines.proofs.NewNumbers.{free_now}
-- over a running transaction no file at the host has a number that it has still to give
pub use Rattle.xc_refines.proofs.NewNumbers.{absent_now}
-- ---- NextLate: What the next late call of a committing transaction needs is there.
-- so its object is there
pub use Rattle.xc_refines.proofs.NextLate.{late_there}
-- ---- NextRecord: What the newest record without an end of an undoing transaction tells of is there.
-- so it is of the newest record, if nothing stands in its way
pub use Rattle.xc_refines.proofs.NextRecord.{covered_now}
-- ---- Noted: What an active transaction noted is what the plain machine's body gives in the world that the journal left.
-- it is played so far
pub use Rattle.xc_refines.proofs.Noted.{played_there}
-- ---- OpenFiles: The files that a running transaction has open are there, whoever holds them.
-- so all that it has open
pub use Rattle.xc_refines.proofs.OpenFiles.{open_files}
-- ---- TurnRows: Each row of the table of turns keeps the flights of all.
-- a mark cuts its way back short
pub use Rattle.xc_refines.proofs.TurnRows.{row_cuts_back}
-- ---- TurnStart: At a start nobody is active, and all is the plain machine's.
-- a start flies
pub use Rattle.xc_refines.proofs.TurnStart.{start_flies}
-- ---- TurnTable: A turn keeps the flights of all, whatever its row.
-- a turn of one job keeps the flights of all
pub use Rattle.xc_refines.proofs.TurnTable.{turn_flies}
