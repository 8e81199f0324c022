-- What other crates cite of this one's proofs: they import no other file of them.
-- ---- Steps: Steps that don't wait, and those that wait for one that enters.
-- an event of a station leads on
pub use Rattle.xc_runner.proofs.Steps.{event_next}
-- one that lost now and then goes on
pub use Rattle.xc_runner.proofs.Steps.{outside_goes}
-- a pass that lost once more
pub use Rattle.xc_runner.proofs.Steps.{held_outside}
