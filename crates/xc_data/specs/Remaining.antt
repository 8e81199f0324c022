-- What a record speaks of, and what stands of it after its compensation.
use Rattle.std.specs.Prelude.{ℕ, Bool, true, false, List, [], ◌∷◌, nat_lt, Option}
use Rattle.std.specs.declared.option.Option.TheVariants.{None, Some}
use Rattle.xc_data.specs.declared.object.Object.{Object}
use Rattle.xc_data.specs.declared.object.Object.TheVariants as object
use Rattle.xc_data.specs.declared.undo.Undo.{Undo}
use Rattle.xc_data.specs.declared.undo.Undo.TheVariants.{Overwrite, Append, Create, Rename, NewPipe, NewPair}
use Rattle.xc_data.specs.declared.undo.UndoEnd.{UndoEnd}
use Rattle.xc_data.specs.declared.undo.UndoEnd.TheVariants.{Undone, Failed, Blocked}

-- the objects that a record speaks of
abbrev pub objects_of : Undo → List Object
objects_of (Overwrite file at before after n) = object.File file ∷ []
objects_of (Append file from after n) = object.File file ∷ []
objects_of (Create name num) = object.Name name ∷ object.File num ∷ []
objects_of (Rename from to) = object.Name from ∷ object.Name to ∷ []
objects_of (NewPipe num) = object.Pipe num ∷ []
objects_of (NewPair num) = object.Pair num ∷ []

-- where a failed compensation stopped: after the restored bytes of an overwrite, else before all
abbrev pub stopped_at : Undo → ℕ → ℕ
stopped_at (Overwrite file at before after n) done = done
stopped_at (Append file from after n) done = 0
stopped_at (Create name num) done = 0
stopped_at (Rename from to) done = 0
stopped_at (NewPipe num) done = 0
stopped_at (NewPair num) done = 0

-- the place in a record's covered bytes from which on its effect stands, none where it is undone
abbrev pub remains_from : Undo → UndoEnd → Option ℕ
remains_from undo (Undone faults) = None
remains_from undo (Failed done faults) = Some (stopped_at undo done)
remains_from undo (Blocked by) = Some 0

-- whether a failed compensation left something: an overwrite that was restored whole left nothing
abbrev pub failed_short : Undo → ℕ → Bool
failed_short (Overwrite file at before after n) done = nat_lt done n
failed_short (Append file from after n) done = true
failed_short (Create name num) done = true
failed_short (Rename from to) done = true
failed_short (NewPipe num) done = true
failed_short (NewPair num) done = true

-- whether a record with its end leaves an effect
abbrev pub leaves : Undo × UndoEnd → Bool
leaves (undo, Undone faults) = false
leaves (undo, Failed done faults) = failed_short undo done
leaves (undo, Blocked by) = true
