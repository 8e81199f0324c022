-- What other crates cite of this one's proofs: they import no other file of them.
-- ---- Finals: The text of a run without faults: its entries, and its jobs' lines.
-- where no attempt met another, no job found the journal full and nothing wanted memory, each job ended by its last transaction
pub use Rattle.xc_serial.proofs.Finals.{all_are_done}
-- the text of a run whose jobs ran one after another, where no call met a fault and nothing wanted memory, is the plain one
pub use Rattle.xc_serial.proofs.Finals.{plain_end}
-- ---- Remains: Where no fault is recorded no effect of an aborted transaction remains.
-- no effect remains
pub use Rattle.xc_serial.proofs.Remains.{nothing_remains}
