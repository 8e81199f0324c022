-- What a turn of an undoing answers.
use Rattle.xc_data.specs.declared.undo.UndoEnd.{UndoEnd}
use Rattle.xc_data.specs.declared.undo.UndoEnd.TheVariants as end
use Rattle.xc_compensate.specs.declared.stack.UndoTurn.{UndoTurn}
use Rattle.xc_compensate.specs.declared.stack.UndoTurn.TheVariants as turn

-- a record came to this end
abbrev pub turn_of : UndoEnd → UndoTurn
turn_of (end.Undone faults) = turn.Undone faults
turn_of (end.Failed done faults) = turn.Failed done faults
turn_of (end.Blocked by) = turn.Blocked by
