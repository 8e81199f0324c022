-- What other crates cite of this one's proofs: they import no other file of them.
-- ---- MachineRun: One call more of a body that is run.
-- what is left begins with the next one
pub use Rattle.xc_machine.proofs.MachineRun.{left-cons}
-- ---- MachineReplay: A body and late calls that are run again: one call more, and all of them.
-- a fact of what is there, of what it is
pub use Rattle.xc_machine.proofs.MachineReplay.{if_some}
-- what is replayed fits, and gives these replies
pub use Rattle.xc_machine.proofs.MachineReplay.{to_body}
-- what fits and gives these replies is replayed
pub use Rattle.xc_machine.proofs.MachineReplay.{from_body}
-- late calls that end so fit, and give these ends
pub use Rattle.xc_machine.proofs.MachineReplay.{to_lates}
-- late calls that fit and give these ends end so
pub use Rattle.xc_machine.proofs.MachineReplay.{from_lates}
-- they lead to the world that the late calls leave
pub use Rattle.xc_machine.proofs.MachineReplay.{led_to}
-- ---- MachineRemain: What remains of records, one after another.
-- what remains leaves the words
pub use Rattle.xc_machine.proofs.MachineRemain.{remains_words}
