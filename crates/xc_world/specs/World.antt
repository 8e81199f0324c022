-- The world of the plain machine, and a state of it: whole lists and finite maps, nothing else.
use Rattle.std.specs.Prelude.{ℕ, ◌==◌, Bool, false, List, [], unwrap_or, replicate, refl, if◌then◌else◌}
use Rattle.std.specs.Coded.{Coded, code_by, coded×, coded_bool, coded_list}
use Rattle.std.specs.FinMap as map
use Rattle.xc_data.specs.declared.object.Num.{Num}
use Rattle.xc_data.specs.declared.private.Place.{Place}
use Rattle.xc_data.specs.declared.private.Place.TheVariants.{Vacant}
use Rattle.xc_data.specs.declared.private.Private.{Private}
use Rattle.xc_maps.specs.Keys.{name_cmp, num_cmp, coded_name, coded_num}

-- a pipe's bytes, and whether it is shut
pub record Pipe : Type 0 where
  pub held : List ℕ
  pub shut : Bool

-- a pair's messages that wait for side 0 and for side 1, and whether it is shut
pub record Pair : Type 0 where
  pub first : List (List ℕ)
  pub second : List (List ℕ)
  pub shut : Bool

-- the words, the names with their files' numbers, the objects, the blocks of the started jobs in
-- the order of the jobs' numbers, and the names of the script's blocks
pub record World : Type 0 where
  pub words : List ℕ
  pub names : map.FinMap name_cmp Num
  pub files : map.FinMap num_cmp (List ℕ)
  pub pipes : map.FinMap num_cmp Pipe
  pub pairs : map.FinMap num_cmp Pair
  pub started : List (List ℕ)
  pub blocks : List (List ℕ)

-- a world, and the handles of each started job
pub record State : Type 0 where
  pub world : World
  pub handles : List (List Place)

-- ---- what is at a number: nothing there reads as an empty object
abbrev pub file_of : World → Num → List ℕ
file_of w num = unwrap_or (map.get w.files num) []

-- a pipe that holds no byte and is not shut
abbrev pub empty_pipe : Pipe
empty_pipe = record { held = []; shut = false }

-- the pipe of a number, or an empty one
abbrev pub pipe_of : World → Num → Pipe
pipe_of w num = unwrap_or (map.get w.pipes num) empty_pipe

-- a pair in which no message waits, and which is not shut
abbrev pub empty_pair : Pair
empty_pair = record { first = []; second = []; shut = false }

-- the pair of a number, or an empty one
abbrev pub pair_of : World → Num → Pair
pair_of w num = unwrap_or (map.get w.pairs num) empty_pair

-- the messages that wait for a side
abbrev pub waiting : Pair → ℕ → List (List ℕ)
waiting pair side = if side == 0 then pair.first else pair.second

-- the pair with other messages waiting for a side
abbrev pub with_waiting : Pair → ℕ → List (List ℕ) → Pair
with_waiting pair side messages = if side == 0 then record pair { first = messages } else record pair { second = messages }

-- the side that is not this one
abbrev pub other_side : ℕ → ℕ
other_side side = if side == 0 then 1 else 0

-- ---- the world with one object put
abbrev pub with_file : World → Num → List ℕ → World
with_file w num bytes = record w { files = map.insert w.files num bytes }

-- the world with a pipe under a number
abbrev pub with_pipe : World → Num → Pipe → World
with_pipe w num pipe = record w { pipes = map.insert w.pipes num pipe }

-- the world with a pair under a number
abbrev pub with_pair : World → Num → Pair → World
with_pair w num pair = record w { pairs = map.insert w.pairs num pair }

-- ---- a transaction's private state at its begin
abbrev pub beginning : List Place → Private
beginning places = record { places = places; made = 0; stored = 0 }

-- 256 vacant places
abbrev pub no_handles : List Place
no_handles = replicate 256 Vacant

-- ---- how a proof stores a world
abbrev pub coded_pipe : Coded Pipe
coded_pipe =
    code_by (List ℕ × Bool) (coded× coded_name coded_bool) (λ p. (p.held, p.shut)) (λ p. record { held = p.0; shut = p.1 }) (λ _. refl)

-- how a proof stores a pair
abbrev pub coded_pair : Coded Pair
coded_pair =
    code_by (List (List ℕ) × (List (List ℕ) × Bool)) (coded× (coded_list coded_name) (coded× (coded_list coded_name) coded_bool))
    (λ p. (p.first, (p.second, p.shut))) (λ p. record { first = p.0; second = p.1.0; shut = p.1.1 }) (λ _. refl)

-- how a proof stores a world
abbrev pub coded_world : Coded World
coded_world =
    code_by
    (List ℕ × (map.FinMap name_cmp Num
    × (map.FinMap num_cmp (List ℕ) × (map.FinMap num_cmp Pipe × (map.FinMap num_cmp Pair × (List (List ℕ) × List (List ℕ)))))))
    (coded× coded_name
    (coded× (map.code coded_name coded_num)
    (coded× (map.code coded_num coded_name)
    (coded× (map.code coded_num coded_pipe)
    (coded× (map.code coded_num coded_pair) (coded× (coded_list coded_name) (coded_list coded_name)))))))
    (λ w. (w.words, (w.names, (w.files, (w.pipes, (w.pairs, (w.started, w.blocks)))))))
    (λ p. record {
      words = p.0;
      names = p.1.0;
      files = p.1.1.0;
      pipes = p.1.1.1.0;
      pairs = p.1.1.1.1.0;
      started = p.1.1.1.1.1.0;
      blocks = p.1.1.1.1.1.1;
    })
    (λ _. refl)
