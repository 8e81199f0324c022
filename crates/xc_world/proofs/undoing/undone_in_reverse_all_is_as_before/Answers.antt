use Rattle.xc_world.proofs.UndoingBody.{body-undoes}
use Rattle.xc_world.proofs.undoing.undone_in_reverse_all_is_as_before.Goals as goal

-- src/undoing.rt
pub returns : goal.returns
returns c = body-undoes
