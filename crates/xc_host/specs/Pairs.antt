-- What the calls on pairs do to what a host holds.
use Rattle.std.specs.Prelude.{◌≡◌, ℕ, ◌≤◌, Bool, true, false, is_some, List, [], ◌∷◌, length, drop}
use Rattle.std.specs.FinMap as map
use Rattle.xc_data.specs.declared.object.Num.{Num}
use Rattle.xc_world.specs.World.{Pair, empty_pair, other_side, pair_of, waiting, with_pair, with_waiting}
use Rattle.xc_world.specs.Late.{sent_to}
use Rattle.xc_host.specs.Contents.{Contents, contents_of, world_of}
use Rattle.xc_host.specs.declared.pipes.HostState.{HostState}
use Rattle.xc_host.specs.declared.pipes.Took.{Took}
use Rattle.xc_host.specs.declared.pipes.Took.TheVariants as took

-- a pair, an empty one where there is no such pair
abbrev pub pair_in : Contents → Num → Pair
pair_in c num = pair_of (world_of c) num

-- there is such a pair
abbrev pub has_pair : Contents → Num → Bool
has_pair c num = is_some (map.get c.pairs num)

-- ---- what a call leaves
-- an empty pair of this number
abbrev pub with_new_pair : Contents → Num → Contents
with_new_pair c num = contents_of (with_pair (world_of c) num empty_pair)

-- the first message that waits for a side leaves it
abbrev pub received_from : Contents → Num → ℕ → Contents
received_from c num side =
    contents_of (with_pair (world_of c) num (with_waiting (pair_in c num) side (drop 1 (waiting (pair_in c num) side))))

-- a message of a side stands after those that wait for the other one
abbrev pub sent_from : Contents → Num → ℕ → List ℕ → Contents
sent_from c num side bytes = contents_of (with_pair (world_of c) num (sent_to (pair_in c num) (other_side side) bytes))

-- no such pair
abbrev pub without_pair : Contents → Num → Contents
without_pair c num = record c { pairs = map.remove c.pairs num }

-- ---- what a call says of a pair
-- how many messages wait for a side, and whether the pair is shut
abbrev pub side_state : Pair → ℕ → HostState
side_state pair side = record { held = length (waiting pair side); shut = pair.shut }

-- what a receipt gives a side: its first message; Empty where none waits and the pair isn't shut, and End where none does and it is
abbrev pub IsReceivedOf : Pair → ℕ → Took → Type 0
IsReceivedOf pair side (took.Bytes message) = (rest : List (List ℕ)) × (waiting pair side ≡ message ∷ rest)
IsReceivedOf pair side took.Empty = (waiting pair side ≡ []) × (pair.shut ≡ false)
IsReceivedOf pair side took.End = (waiting pair side ≡ []) × (pair.shut ≡ true)

-- a message has at most 1,024 bytes, and may have none
abbrev pub IsMessage : Took → Type 0
IsMessage (took.Bytes message) = length message ≤ 1024
IsMessage took.Empty = Unit {0}
IsMessage took.End = Unit {0}

-- what a receipt with this answer leaves: its message is gone
abbrev pub after_receipt : Num → ℕ → Took → Contents → Contents
after_receipt num side (took.Bytes message) c = received_from c num side
after_receipt num side took.Empty c = c
after_receipt num side took.End c = c
