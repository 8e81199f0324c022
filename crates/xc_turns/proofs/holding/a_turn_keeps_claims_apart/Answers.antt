use Rattle.xc_turns.proofs.Apart.{apart_kept}
use Rattle.xc_turns.proofs.holding.a_turn_keeps_claims_apart.Goals as goal

pub returns : goal.returns
returns c = apart_kept
