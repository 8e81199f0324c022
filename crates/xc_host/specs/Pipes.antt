-- What the calls on pipes, and the one that shuts a pipe or a pair, do to what a host holds.
use Rattle.std.specs.Prelude.{◌≡◌, ℕ, zero, suc, ◌≤◌, ◌<◌, Bool, true, false, is_some, List, [], ◌∷◌, length, take, drop}
use Rattle.std.specs.FinMap as map
use Rattle.xc_data.specs.declared.object.Num.{Num}
use Rattle.xc_data.specs.declared.object.Object.{Object}
use Rattle.xc_data.specs.declared.object.Object.TheVariants as object
use Rattle.xc_world.specs.World.{Pipe, empty_pipe, pipe_of, with_pipe}
use Rattle.xc_world.specs.Late.{with_put, shut_down}
use Rattle.xc_host.specs.Contents.{Contents, contents_of, world_of}
use Rattle.xc_host.specs.declared.pipes.HostState.{HostState}
use Rattle.xc_host.specs.declared.pipes.Took.{Took}
use Rattle.xc_host.specs.declared.pipes.Took.TheVariants as took

-- a pipe, an empty one where there is no such pipe
abbrev pub pipe_in : Contents → Num → Pipe
pipe_in c num = pipe_of (world_of c) num

-- there is such a pipe
abbrev pub has_pipe : Contents → Num → Bool
has_pipe c num = is_some (map.get c.pipes num)

-- ---- what a call leaves
-- an empty pipe of this number
abbrev pub with_new_pipe : Contents → Num → Contents
with_new_pipe c num = contents_of (with_pipe (world_of c) num empty_pipe)

-- the first n bytes of a pipe leave it
abbrev pub taken_from : Contents → Num → ℕ → Contents
taken_from c num n = contents_of (with_pipe (world_of c) num (record (pipe_in c num) { held = drop n (pipe_in c num).held }))

-- the same; nothing is changed where n is 0
abbrev pub taken_front : Contents → Num → ℕ → Contents
taken_front c num zero = c
taken_front c num (suc n) = taken_from c num (suc n)

-- bytes stand after those of a pipe
abbrev pub put_into : Contents → Num → List ℕ → Contents
put_into c num bytes = contents_of (with_put (world_of c) num bytes)

-- the same; nothing is changed where there are none
abbrev pub put_front : Contents → Num → List ℕ → Contents
put_front c num [] = c
put_front c num (b ∷ bs) = put_into c num (b ∷ bs)

-- a pipe or a pair is shut
abbrev pub shut_in : Contents → Object → Contents
shut_in c object = contents_of (shut_down (world_of c) object).world

-- no such pipe
abbrev pub without_pipe : Contents → Num → Contents
without_pipe c num = record c { pipes = map.remove c.pipes num }

-- ---- what a call says of a pipe
-- how many bytes it holds, and whether it is shut
abbrev pub pipe_state : Pipe → HostState
pipe_state pipe = record { held = length pipe.held; shut = pipe.shut }

-- what a take gives: a front of the bytes; Empty where none is held and the pipe isn't shut, and End where none is and it is
abbrev pub IsTakenOf : Pipe → Took → Type 0
IsTakenOf pipe (took.Bytes bytes) = bytes ≡ take (length bytes) pipe.held
IsTakenOf pipe took.Empty = (pipe.held ≡ []) × (pipe.shut ≡ false)
IsTakenOf pipe took.End = (pipe.held ≡ []) × (pipe.shut ≡ true)

-- bytes that a take gives are some, and at most n
abbrev pub IsSomeOf : ℕ → Took → Type 0
IsSomeOf n (took.Bytes bytes) = (0 < length bytes) × (length bytes ≤ n)
IsSomeOf n took.Empty = Unit {0}
IsSomeOf n took.End = Unit {0}

-- what a take with this answer leaves: its bytes are gone
abbrev pub after_take : Num → Took → Contents → Contents
after_take num (took.Bytes bytes) c = taken_from c num (length bytes)
after_take num took.Empty c = c
after_take num took.End c = c

-- ---- what a call may name
-- the object is a pipe or a pair
abbrev pub is_shuttable : Object → Bool
is_shuttable (object.Pipe num) = true
is_shuttable (object.Pair num) = true
is_shuttable (object.Word at) = false
is_shuttable (object.Name name) = false
is_shuttable (object.File num) = false
is_shuttable object.Jobs = false
