-- Calls on pipes and pairs: make, read, receive.
use Rattle.std.specs.Prelude.{ℕ, ◌==◌, Option, List, [], ◌∷◌, length, take, drop, if◌then◌else◌}
use Rattle.std.specs.declared.option.Option.TheVariants.{None, Some}
use Rattle.xc_data.specs.declared.object.Num.{Num}
use Rattle.xc_data.specs.declared.call.Reply.{Reply}
use Rattle.xc_data.specs.declared.call.Reply.TheVariants.{Got, Made, MadePair, End, Empty, BadHandle, TooMuch}
use Rattle.xc_data.specs.declared.private.Place.{Place}
use Rattle.xc_data.specs.declared.private.Place.TheVariants as place
use Rattle.xc_data.specs.declared.private.Private.{Private}
use Rattle.xc_data.specs.Private.{with_place, lowest_vacant}
use Rattle.xc_world.specs.World.{World, Pipe, pipe_of, pair_of, empty_pipe, empty_pair, with_pipe, with_pair, waiting, with_waiting}
use Rattle.xc_world.specs.Act.Step.{Stepped, step_to}
use Rattle.xc_world.specs.Act.Names.{next_num, making}

-- nothing is there now, or ever again
abbrev pub empty_or_end : Pipe → Reply
empty_or_end pipe = if pipe.shut then End else Empty

-- an empty pipe is made, at a vacant handle
abbrev pub new_pipe : World → Private → ℕ → Option ℕ → Stepped
new_pipe w me tx (Some h) =
    step_to (with_pipe w (next_num me tx) empty_pipe) (making (with_place me h (place.Pipe (next_num me tx)))) (Made h)
new_pipe w me tx None = step_to w me TooMuch

-- the first n bytes, or all held where those are fewer, leave the pipe
abbrev pub took : World → Private → Num → ℕ → Stepped
took w me num n =
    step_to (with_pipe w num (record (pipe_of w num) { held = drop n (pipe_of w num).held })) me (Got (take n (pipe_of w num).held))

-- at most n bytes leave the pipe of a handle
abbrev pub read_pipe_at : World → Private → ℕ → Place → Stepped
read_pipe_at w me n (place.Pipe num) =
    if n == 0 then step_to w me (Got [])
    else if length (pipe_of w num).held == 0 then step_to w me (empty_or_end (pipe_of w num))
    else took w me num n
read_pipe_at w me n _ = step_to w me BadHandle

-- a pair whose sides are at the two lowest vacant handles
abbrev pub pair_made : World → Private → ℕ → ℕ → Option ℕ → Stepped
pair_made w me tx h (Some g) =
    step_to (with_pair w (next_num me tx) empty_pair) (making (with_place me g (place.Pair (next_num me tx) 1))) (MadePair h g)
pair_made w me tx h None = step_to w me TooMuch

-- an empty pair is made, its first side at a vacant handle
abbrev pub new_pair : World → Private → ℕ → Option ℕ → Stepped
new_pair w me tx (Some h) =
    let one = with_place me h (place.Pair (next_num me tx) 0) in
    pair_made w one tx h (lowest_vacant one.places)
new_pair w me tx None = step_to w me TooMuch

-- the first message that waits for this side leaves
abbrev pub received : World → Private → Num → ℕ → List (List ℕ) → Stepped
received w me num side [] = step_to w me (if (pair_of w num).shut then End else Empty)
received w me num side (message ∷ messages) = step_to (with_pair w num (with_waiting (pair_of w num) side messages)) me (Got message)

-- the first message that waits for a handle's side leaves
abbrev pub receive_at : World → Private → Place → Stepped
receive_at w me (place.Pair num side) = received w me num side (waiting (pair_of w num) side)
receive_at w me _ = step_to w me BadHandle
