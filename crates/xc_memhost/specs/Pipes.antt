-- Calls on pipes: what a take gives, and what a call may ask.
use Rattle.std.specs.Prelude.{◌≡◌, ℕ, ◌+◌, ◌<◌, ◌≤◌, ◌==◌, true, false, List, length, take, Option, if◌then◌else◌}
use Rattle.xc_data.specs.declared.object.Num.{Num}
use Rattle.xc_data.specs.declared.object.Object.{Object}
use Rattle.xc_host.specs.Contents.{Contents, world_of}
use Rattle.xc_host.specs.Pipes.{pipe_in, has_pipe, is_shuttable}
use Rattle.xc_host.specs.declared.pipes.Took.{Took}
use Rattle.xc_host.specs.declared.pipes.Took.TheVariants.{Bytes, Empty, End}
use Rattle.xc_world.specs.World.{Pipe}
use Rattle.xc_world.specs.Sound.{is_there}
use Rattle.xc_memhost.specs.Faults.{grained}

-- of at most n bytes of a pipe, those that are there and that one call takes
abbrev pub took_of : Option ℕ → Pipe → ℕ → Took
took_of grain pipe n =
    if length pipe.held == 0 then (if pipe.shut then End else Empty) else Bytes (take (grained grain n) pipe.held)

-- ---- what a call may ask
-- some bytes are taken from a pipe that is there
pub record MayTake (c : Contents) (pipe : Num) (n : ℕ) : Type 0 where
  pub there : has_pipe c pipe ≡ true
  pub some : 0 < n

-- what is put isn't empty, and a pipe that is there, and isn't shut, has room for it
pub record MayPut (c : Contents) (pipe : Num) (bytes : List ℕ) : Type 0 where
  pub there : has_pipe c pipe ≡ true
  pub unshut : (pipe_in c pipe).shut ≡ false
  pub fits : length (pipe_in c pipe).held + length bytes ≤ 4096
  pub some : 0 < length bytes

-- a pipe or a pair that is there is shut
pub record MayShut (c : Contents) (object : Object) : Type 0 where
  pub shuttable : is_shuttable object ≡ true
  pub there : is_there (world_of c) object ≡ true
