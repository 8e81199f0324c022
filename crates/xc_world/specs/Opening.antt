-- The world and the handles that a script opens with.
use Rattle.std.specs.Prelude.{ℕ, ◌+◌, ◌-◌, List, [], ◌∷◌, ◌++◌, length, false, replicate}
use Rattle.std.specs.FinMap as map
use Rattle.xc_data.specs.declared.object.Num.{Num}
use Rattle.xc_data.specs.declared.script.Opened.{Opened}
use Rattle.xc_data.specs.declared.script.Opened.TheVariants as opened
use Rattle.xc_data.specs.declared.script.Outline.{Outline}
use Rattle.xc_data.specs.declared.private.Place.{Place}
use Rattle.xc_data.specs.declared.private.Place.TheVariants as place
use Rattle.xc_world.specs.World.{World, State, with_pipe, with_pair, empty_pair}

-- the number of the k-th object line, counted from 0
abbrev pub line_num : ℕ → Num
line_num k = record { tx = 0; k = k }

-- the world with one object more, of this number
abbrev pub with_opened : World → Num → Opened → World
with_opened w num (opened.File name bytes) = record w { names = map.insert w.names name num; files = map.insert w.files num bytes }
with_opened w num (opened.Pipe bytes) = with_pipe w num (record { held = bytes; shut = false })
with_opened w num opened.Pair = with_pair w num empty_pair

-- the world with these objects, numbered from k on
abbrev pub with_all_opened : World → ℕ → List Opened → World
with_all_opened w k [] = w
with_all_opened w k (o ∷ objects) = with_all_opened (with_opened w (line_num k) o) (k + 1) objects

-- the script's words and blocks, its jobs started, and no object
abbrev pub bare_world : Outline → World
bare_world script =
    record {
      words = script.words;
      names = map.empty;
      files = map.empty;
      pipes = map.empty;
      pairs = map.empty;
      started = script.jobs;
      blocks = script.jobs ++ script.bodies;
    }

-- the world that a script opens with
abbrev pub opening : Outline → World
opening script = with_all_opened (bare_world script) 0 script.prologue.objects

-- ---- the handles, in line order: a pipe has one, a pair has its two sides
abbrev pub handles_of : ℕ → List Opened → List Place
handles_of k [] = []
handles_of k (opened.File name bytes ∷ objects) = handles_of (k + 1) objects
handles_of k (opened.Pipe bytes ∷ objects) = place.Pipe (line_num k) ∷ handles_of (k + 1) objects
handles_of k (opened.Pair ∷ objects) = place.Pair (line_num k) 0 ∷ place.Pair (line_num k) 1 ∷ handles_of (k + 1) objects

-- all 256 places
abbrev pub opening_handles : Outline → List Place
opening_handles script = let handles = handles_of 0 script.prologue.objects in handles ++ replicate (256 - length handles) place.Vacant

-- the world that a script opens with, and each job's handles
abbrev pub opening_state : Outline → State
opening_state script = record { world = opening script; handles = replicate (length script.jobs) (opening_handles script) }
