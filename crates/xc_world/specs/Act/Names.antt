-- Calls on names: open, create, rename.
use Rattle.std.specs.Prelude.{ℕ, ◌+◌, Option, List, []}
use Rattle.std.specs.declared.option.Option.TheVariants.{None, Some}
use Rattle.std.specs.FinMap as map
use Rattle.xc_data.specs.declared.object.Num.{Num}
use Rattle.xc_data.specs.declared.call.Reply.TheVariants.{Made, Done, NoName, Exists, TooMuch}
use Rattle.xc_data.specs.declared.private.Place.TheVariants.{File}
use Rattle.xc_data.specs.declared.private.Private.{Private}
use Rattle.xc_data.specs.Private.{with_place, lowest_vacant}
use Rattle.xc_world.specs.World.{World}
use Rattle.xc_world.specs.Act.Step.{Stepped, step_to}

-- the number of the next object that a transaction makes
abbrev pub next_num : Private → ℕ → Num
next_num me tx = record { tx = tx; k = me.made }

-- one object more is made, and a handle holds it
abbrev pub making : Private → Private
making me = record me { made = me.made + 1 }

-- an empty file of this number under a new name
abbrev pub with_new_file : World → List ℕ → Num → World
with_new_file w name num = record w { names = map.insert w.names name num; files = map.insert w.files num [] }

-- the file goes from one name to another
abbrev pub with_moved : World → List ℕ → List ℕ → Num → World
with_moved w from to num = record w { names = map.insert (map.remove w.names from) to num }

module _ (w : World) (me : Private) where
  -- a file's number, and the vacant handle
  abbrev pub open_step : Option Num → Option ℕ → Stepped
  open_step None vacant = step_to w me NoName
  open_step (Some num) (Some h) = step_to w (with_place me h (File num 0)) (Made h)
  open_step (Some num) None = step_to w me TooMuch

  -- the file of a name is put at the lowest vacant handle
  abbrev pub open_by_name : List ℕ → Stepped
  open_by_name name = open_step (map.get w.names name) (lowest_vacant me.places)

  -- a new name and a vacant handle make an empty file at its start: by what has the name, and the vacant handle
  abbrev pub create_step : ℕ → List ℕ → Option Num × Option ℕ → Stepped
  create_step tx name (Some num, vacant) = step_to w me Exists
  create_step tx name (None, Some h) =
      step_to (with_new_file w name (next_num me tx)) (making (with_place me h (File (next_num me tx) 0))) (Made h)
  create_step tx name (None, None) = step_to w me TooMuch

  -- an empty file is made under a name, at the lowest vacant handle
  abbrev pub creates : ℕ → List ℕ → Stepped
  creates tx name = create_step tx name (map.get w.names name, lowest_vacant me.places)

  -- a file that is there takes a name that is not: by what has the first name, and what the second
  abbrev pub rename_step : List ℕ → List ℕ → Option Num × Option Num → Stepped
  rename_step from to (None, there) = step_to w me NoName
  rename_step from to (Some num, Some there) = step_to w me Exists
  rename_step from to (Some num, None) = step_to (with_moved w from to num) me Done

  -- a file takes another name
  abbrev pub renames : List ℕ → List ℕ → Stepped
  renames from to = rename_step from to (map.get w.names from, map.get w.names to)
