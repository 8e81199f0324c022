-- Whether the effect of a record stands.
use Rattle.std.specs.Prelude.{Bool, is_some}
use Rattle.xc_data.specs.Remaining.{remains_from}
use Rattle.xc_data.specs.declared.undo.Undo.{Undo}
use Rattle.xc_data.specs.declared.undo.UndoEnd.{UndoEnd}

-- the effect of a record with its end stands, from some byte on
abbrev pub effect_remains : Undo × UndoEnd → Bool
effect_remains (undo, end) = is_some (remains_from undo end)
