-- Kept data in front of what a world holds, and what is taken from there.
use Rattle.std.specs.Prelude.{ℕ, Bool, is_some, List, ◌++◌, drop}
use Rattle.std.specs.FinMap as map
use Rattle.xc_data.specs.declared.object.Num.{Num}
use Rattle.xc_world.specs.World.{World, Pipe, pipe_of, pair_of, with_pipe, with_pair, waiting, with_waiting}

-- there is such a pipe
abbrev pub world_has_pipe : World → Num → Bool
world_has_pipe w num = is_some (map.get w.pipes num)

-- there is such a pair
abbrev pub world_has_pair : World → Num → Bool
world_has_pair w num = is_some (map.get w.pairs num)

-- a pipe with bytes in front of those that it holds
abbrev pub with_front : List ℕ → Pipe → Pipe
with_front bytes pipe = record pipe { held = bytes ++ pipe.held }

-- a pipe loses its first bytes, so many of them
abbrev pub without_front : World → Num → ℕ → World
without_front w num n = with_pipe w num (record (pipe_of w num) { held = drop n (pipe_of w num).held })

-- a side of a pair loses its first message
abbrev pub without_first : World → Num → ℕ → World
without_first w num side = with_pair w num (with_waiting (pair_of w num) side (drop 1 (waiting (pair_of w num) side)))

-- a world with the pipes and the pairs of another
abbrev pub with_held : World → World → World
with_held rest w = record rest { pipes = w.pipes; pairs = w.pairs }

-- the pipe is gone
abbrev pub world_without_pipe : World → Num → World
world_without_pipe w num = record w { pipes = map.remove w.pipes num }

-- the pair is gone
abbrev pub world_without_pair : World → Num → World
world_without_pair w num = record w { pairs = map.remove w.pairs num }
