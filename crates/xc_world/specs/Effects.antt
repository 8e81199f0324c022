-- The effects that records have in a world, and where undoing them one by one leads.
use Rattle.std.specs.Prelude.{◌≡◌, ℕ, ◌+◌, ◌≤◌, ◌<◌, ◌==◌, Bool, true, false, is_some, List, [], ◌∷◌, length, map, take, drop}
use Rattle.std.specs.Prelude.{if◌then◌else◌}
use Rattle.std.specs.declared.option.Option.TheVariants.{None, Some}
use Rattle.std.specs.FinMap as finite
use Rattle.xc_data.specs.declared.object.Num.{Num}
use Rattle.xc_data.specs.declared.call.Call.{Call}
use Rattle.xc_data.specs.Calls.{CallTaking, TakingBytes, TakingMessage, TakingNothing, traits}
use Rattle.xc_data.specs.declared.undo.Undo.{Undo}
use Rattle.xc_data.specs.declared.undo.Undo.TheVariants.{Overwrite, Append, Create, Rename, NewPipe, NewPair}
use Rattle.xc_data.specs.declared.undo.UndoEnd.{UndoEnd}
use Rattle.xc_data.specs.declared.undo.UndoEnd.TheVariants.{Undone, Failed, Blocked}
use Rattle.xc_data.specs.declared.private.Private.{Private}
use Rattle.xc_world.specs.World.{World, file_of, with_file}
use Rattle.xc_world.specs.Act.Files.{overwritten}
use Rattle.xc_world.specs.Trail.{with_effect, undone}

-- records that stand whole
abbrev pub whole : List Undo → List (Undo × ℕ)
whole us = map (λ u. (u, 0)) us

-- bytes or a message are taken
abbrev pub is_taking : CallTaking → Bool
is_taking TakingNothing = false
is_taking (TakingBytes h n) = true
is_taking (TakingMessage h) = true

-- a call that takes bytes or a message, which no record tells
abbrev pub takes_data : Call → Bool
takes_data call = is_taking (traits call).taking

-- ---- records that were made one after another, each in the world that the ones before it left
module _ (w : World) where
  -- the place is a file and a position in it: the file is there, all the new bytes lie within it from there on, and the
  -- old ones stood under them; some of them were written
  pub record IsOverwriteIn (place : Num × ℕ) (before after : List ℕ) (n : ℕ) : Type 0 where
    pub there : is_some (finite.get w.files place.0) ≡ true
    pub inside : place.1 + length after ≤ length (file_of w place.0)
    pub old : before ≡ take (length after) (drop place.1 (file_of w place.0))
    pub some : 1 ≤ n
    pub within : n ≤ length after

  -- the file is there, as long as the record says, with room for all the new bytes; some of them were appended
  pub record IsAppendIn (file : Num) (from : ℕ) (after : List ℕ) (n : ℕ) : Type 0 where
    pub there : is_some (finite.get w.files file) ≡ true
    pub size : length (file_of w file) ≡ from
    pub room : from + length after ≤ 65536
    pub some : 1 ≤ n
    pub within : n ≤ length after

  -- neither the name nor a file of this number is there
  pub record IsNewFileIn (name : List ℕ) (num : Num) : Type 0 where
    pub unnamed : finite.get w.names name ≡ None
    pub absent : finite.get w.files num ≡ None

  -- the old name has a file, and the new one none
  pub record IsRenameIn (from to : List ℕ) : Type 0 where
    pub there : is_some (finite.get w.names from) ≡ true
    pub vacant : finite.get w.names to ≡ None

  -- what each kind of record asks of the world in which it is made
  abbrev pub IsMadeIn : Undo → Type 0
  IsMadeIn (Overwrite file at before after n) = IsOverwriteIn (file, at) before after n
  IsMadeIn (Append file from after n) = IsAppendIn file from after n
  IsMadeIn (Create name num) = IsNewFileIn name num
  IsMadeIn (Rename from to) = IsRenameIn from to
  IsMadeIn (NewPipe num) = finite.get w.pipes num ≡ None
  IsMadeIn (NewPair num) = finite.get w.pairs num ≡ None

-- each record was made in the world that the records before it leave
abbrev pub AreMadeIn : World → List Undo → Type 0
AreMadeIn w [] = Unit {0}
AreMadeIn w (u ∷ us) = IsMadeIn w u × AreMadeIn (with_effect w u 0) us

-- a record makes no object whose number this private state is still to give
abbrev pub SparesNew : Private → ℕ → Undo → Type 0
SparesNew me tx (Create name num) = num.tx ≡ tx → num.k < me.made
SparesNew me tx (NewPipe num) = num.tx ≡ tx → num.k < me.made
SparesNew me tx (NewPair num) = num.tx ≡ tx → num.k < me.made
SparesNew me tx (Overwrite file at before after n) = Unit {0}
SparesNew me tx (Append file from after n) = Unit {0}
SparesNew me tx (Rename from to) = Unit {0}

-- ---- one record's compensation
-- the first bytes of an overwrite are the old ones again
abbrev pub restored : World → Undo → ℕ → World
restored w (Overwrite file at before after n) done =
    if done == 0 then w else with_file w file (overwritten at (take done before) (file_of w file))
restored w (Append file from after n) done = w
restored w (Create name num) done = w
restored w (Rename from to) done = w
restored w (NewPipe num) done = w
restored w (NewPair num) done = w

-- what a compensation with this end did: all, a front, or nothing
abbrev pub undone_to : World → Undo → UndoEnd → World
undone_to w u (Undone faults) = undone w u
undone_to w u (Failed done faults) = restored w u done
undone_to w u (Blocked by) = w

-- what a record tells of is as the record left it: an overwrite's and an append's bytes are in the file, a new file
-- has its name, a moved one its new name alone, a new pipe or pair is there
abbrev pub IsCovered : World → Undo → Type 0
IsCovered w (Overwrite file at before after n) = (is_some (finite.get w.files file) ≡ true) × (at + n ≤ length (file_of w file))
IsCovered w (Append file from after n) = (is_some (finite.get w.files file) ≡ true) × (from + n ≤ length (file_of w file))
IsCovered w (Create name num) = (finite.get w.names name ≡ Some num) × (is_some (finite.get w.files num) ≡ true)
IsCovered w (Rename from to) = (finite.get w.names from ≡ None) × (is_some (finite.get w.names to) ≡ true)
IsCovered w (NewPipe num) = is_some (finite.get w.pipes num) ≡ true
IsCovered w (NewPair num) = is_some (finite.get w.pairs num) ≡ true
