use Rattle.xc_refines.proofs.TurnTable.{turn_flies}
use Rattle.xc_refines.proofs.turning.a_turn_keeps_all_flying.Goals as goal

pub returns : goal.returns
returns c = λ s at faults old new answer read tells turn kept flying. turn_flies s at old new answer tells turn kept.told flying
