-- What a body leaves to be compensated: an undo record for each call that changed a name, a file or
-- the set of objects.
use Rattle.std.specs.Prelude.{ℕ, ◌+◌, ◌==◌, List, [], ◌∷◌, ◌++◌, length, take, drop, Option, if◌then◌else◌}
use Rattle.std.specs.declared.option.Option.TheVariants.{None, Some}
use Rattle.std.specs.FinMap as map
use Rattle.xc_data.specs.declared.object.Num.{Num}
use Rattle.xc_data.specs.declared.call.Call.{Call}
use Rattle.xc_data.specs.Calls.{Appending, CallChange, Creating, MakingPair, MakingPipe, Overwriting, Renaming, Unchanging, traits}
use Rattle.xc_data.specs.declared.call.Reply.{Reply}
use Rattle.xc_data.specs.declared.call.Reply.TheVariants as reply
use Rattle.xc_data.specs.declared.undo.Undo.{Undo}
use Rattle.xc_data.specs.declared.undo.Undo.TheVariants.{Overwrite, Append, Create, Rename, NewPipe, NewPair}
use Rattle.xc_data.specs.declared.private.Place.{Place}
use Rattle.xc_data.specs.declared.private.Place.TheVariants as place
use Rattle.xc_data.specs.declared.private.Private.{Private}
use Rattle.xc_data.specs.Private.{place_of}
use Rattle.xc_world.specs.World.{World, file_of, with_file, with_pipe, with_pair, empty_pipe, empty_pair}
use Rattle.xc_world.specs.Act.Names.{next_num, with_new_file, with_moved}
use Rattle.xc_world.specs.Act.Files.{overwritten}

-- how many of so many bytes a write with this reply did
abbrev pub done_of : ℕ → Reply → ℕ
done_of all reply.Done = all
done_of all (reply.Fault n) = n
-- with any other reply nothing was done, also with one yet to come
done_of all _ = 0

-- an overwrite that did n bytes
abbrev pub overwrite_record : World → List ℕ → ℕ → Place → List Undo
overwrite_record w bytes n (place.File num at) =
    if n == 0 then [] else Overwrite num at (take (length bytes) (drop at (file_of w num))) bytes n ∷ []
overwrite_record w bytes n _ = []

-- an append that did n bytes
abbrev pub append_record : World → List ℕ → ℕ → Place → List Undo
append_record w bytes n (place.File num at) = if n == 0 then [] else Append num (length (file_of w num)) bytes n ∷ []
append_record w bytes n _ = []

-- the record of a file that was made
abbrev pub create_record : Private → ℕ → List ℕ → Reply → List Undo
create_record me tx name (reply.Made h) = Create name (next_num me tx) ∷ []
-- with any other reply no file was made
create_record me tx name _ = []

-- the record of a file that took another name
abbrev pub rename_record : List ℕ → List ℕ → Reply → List Undo
rename_record from to reply.Done = Rename from to ∷ []
-- with any other reply no name was given
rename_record from to _ = []

-- the record of a pipe that was made
abbrev pub pipe_record : Private → ℕ → Reply → List Undo
pipe_record me tx (reply.Made h) = NewPipe (next_num me tx) ∷ []
-- with any other reply no pipe was made
pipe_record me tx _ = []

-- the record of a pair that was made
abbrev pub pair_record : Private → ℕ → Reply → List Undo
pair_record me tx (reply.MadePair h g) = NewPair (next_num me tx) ∷ []
-- with any other reply no pair was made
pair_record me tx _ = []

-- the record of such a change with this reply, in the world before it
abbrev pub recorded_as : World → Private → ℕ → CallChange → Reply → List Undo
recorded_as w me tx Unchanging r = []
recorded_as w me tx (Overwriting h bytes) r = overwrite_record w bytes (done_of (length bytes) r) (place_of me.places h)
recorded_as w me tx (Appending h bytes) r = append_record w bytes (done_of (length bytes) r) (place_of me.places h)
recorded_as w me tx (Creating name) r = create_record me tx name r
recorded_as w me tx (Renaming from to) r = rename_record from to r
recorded_as w me tx MakingPipe r = pipe_record me tx r
recorded_as w me tx MakingPair r = pair_record me tx r

-- the record of a call with its reply, in the world before it
abbrev pub recorded : World → Private → ℕ → Call → Reply → List Undo
recorded w me tx call r = recorded_as w me tx (traits call).change r

-- ---- what stands of a record: its effect, of its covered bytes from the k-th on
abbrev pub move_name : World → List ℕ → List ℕ → Option Num → World
move_name w from to None = w
move_name w from to (Some num) = with_moved w from to num

-- the world with what a record tells of, from its k-th byte on
abbrev pub with_effect : World → Undo → ℕ → World
with_effect w (Overwrite file at before after n) k = with_file w file (overwritten (at + k) (drop k (take n after)) (file_of w file))
with_effect w (Append file from after n) k = with_file w file (file_of w file ++ drop k (take n after))
with_effect w (Create name num) k = with_new_file w name num
with_effect w (Rename from to) k = move_name w from to (map.get w.names from)
with_effect w (NewPipe num) k = with_pipe w num empty_pipe
with_effect w (NewPair num) k = with_pair w num empty_pair

-- ---- its inverse: the old bytes, the old length, the old name, no object
abbrev pub undone : World → Undo → World
undone w (Overwrite file at before after n) = with_file w file (overwritten at (take n before) (file_of w file))
undone w (Append file from after n) = with_file w file (take from (file_of w file))
undone w (Create name num) = record w { names = map.remove w.names name; files = map.remove w.files num }
undone w (Rename from to) = move_name w to from (map.get w.names to)
undone w (NewPipe num) = record w { pipes = map.remove w.pipes num }
undone w (NewPair num) = record w { pairs = map.remove w.pairs num }

-- all records undone, the newest (the last) first
abbrev pub all_undone : World → List Undo → World
all_undone w [] = w
all_undone w (u ∷ us) = undone (all_undone w us) u
