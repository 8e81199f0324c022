-- What a host holds, where it tells: the part of the plain machine's world that outlives a run.
use Rattle.std.specs.Prelude.{ℕ, ◌==◌, ◌||◌, Bool, not, is_some, List, [], ◌∷◌, ◌++◌, length, take, unwrap_or, Option}
use Rattle.std.specs.declared.option.Option.TheVariants.{None, Some}
use Rattle.std.specs.FinMap as map
use Rattle.xc_data.specs.declared.object.Num.{Num}
use Rattle.xc_data.specs.declared.script.Opened.{Opened}
use Rattle.xc_data.specs.declared.script.Prologue.{Prologue}
use Rattle.xc_maps.specs.Keys.{name_cmp, num_cmp}
use Rattle.xc_world.specs.World.{World, Pipe, Pair}
use Rattle.xc_world.specs.Act.Files.{overwritten}
use Rattle.xc_world.specs.Opening.{with_all_opened}

-- the names with their files' numbers, the files, the pipes and the pairs
pub record Contents : Type 0 where
  pub names : map.FinMap name_cmp Num
  pub files : map.FinMap num_cmp (List ℕ)
  pub pipes : map.FinMap num_cmp Pipe
  pub pairs : map.FinMap num_cmp Pair

-- a file's bytes, none where there is no such file
abbrev pub file_in : Contents → Num → List ℕ
file_in c num = unwrap_or (map.get c.files num) []

-- there is such a file
abbrev pub has_file : Contents → Num → Bool
has_file c num = is_some (map.get c.files num)

-- the bytes stand in a file in the place of those from `at` on
abbrev pub wrote : Contents → Num → ℕ → List ℕ → Contents
wrote c file at bytes = record c { files = map.insert c.files file (overwritten at bytes (file_in c file)) }

-- the same; nothing is changed where there are none
abbrev pub wrote_front : Contents → Num → ℕ → List ℕ → Contents
wrote_front c file at [] = c
wrote_front c file at (b ∷ bs) = wrote c file at (b ∷ bs)

-- bytes stand after those of a file
abbrev pub appended : Contents → Num → List ℕ → Contents
appended c file bytes = record c { files = map.insert c.files file (file_in c file ++ bytes) }

-- the same; nothing is changed where there are none
abbrev pub appended_front : Contents → Num → List ℕ → Contents
appended_front c file [] = c
appended_front c file (b ∷ bs) = appended c file (b ∷ bs)

-- a file has its first bytes alone
abbrev pub shortened : Contents → Num → ℕ → Contents
shortened c file len = record c { files = map.insert c.files file (take len (file_in c file)) }

-- an empty file of this number, under a new name
abbrev pub created : Contents → List ℕ → Num → Contents
created c name num = record c { names = map.insert c.names name num; files = map.insert c.files num [] }

-- neither the name nor the file
abbrev pub uncreated : Contents → List ℕ → Num → Contents
uncreated c name num = record c { names = map.remove c.names name; files = map.remove c.files num }

-- a name goes; its file stays
abbrev pub unnamed : Contents → List ℕ → Contents
unnamed c name = record c { names = map.remove c.names name }

-- a name's file has another name alone; nothing is changed where there is none
abbrev pub renamed_file : Contents → List ℕ → List ℕ → Option Num → Contents
renamed_file c from to None = c
renamed_file c from to (Some num) = record c { names = map.insert (map.remove c.names from) to num }

-- the same of the file that has the name
abbrev pub renamed : Contents → List ℕ → List ℕ → Contents
renamed c from to = renamed_file c from to (map.get c.names from)

-- ---- the host part of a world
abbrev pub contents_of : World → Contents
contents_of w = record { names = w.names; files = w.files; pipes = w.pipes; pairs = w.pairs }

-- a world with other contents
abbrev pub with_contents : World → Contents → World
with_contents w c = record w { names = c.names; files = c.files; pipes = c.pipes; pairs = c.pairs }

-- ---- an opening
abbrev pub no_contents : Contents
no_contents = record { names = map.empty; files = map.empty; pipes = map.empty; pairs = map.empty }

-- a world of these contents alone
abbrev pub world_of : Contents → World
world_of c = record { words = []; names = c.names; files = c.files; pipes = c.pipes; pairs = c.pairs; started = []; blocks = [] }

-- exactly these objects, numbered in their order
abbrev pub opened : List Opened → Contents
opened objects = contents_of (with_all_opened (world_of no_contents) 0 objects)

-- a prologue with a line that only a scripted host can follow
abbrev pub needs_scripted : Prologue → Bool
needs_scripted prologue = not (length prologue.objects == 0) || not (length prologue.faults == 0) || is_some prologue.grain
