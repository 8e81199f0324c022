-- Calls on pairs: what a receipt gives, and what a call may ask.
use Rattle.std.specs.Prelude.{◌≡◌, ℕ, ◌<◌, ◌≤◌, Bool, true, false, List, [], ◌∷◌, length, drop, All, Option, None, Some}
use Rattle.std.specs.Prelude.{if◌then◌else◌}
use Rattle.xc_data.specs.declared.object.Num.{Num}
use Rattle.xc_host.specs.Contents.{Contents}
use Rattle.xc_host.specs.Pairs.{pair_in, has_pair}
use Rattle.xc_host.specs.declared.pipes.Took.{Took}
use Rattle.xc_host.specs.declared.pipes.Took.TheVariants.{Bytes, Empty, End}
use Rattle.xc_world.specs.World.{Pair, other_side, waiting, with_waiting}

-- ---- what a host holds
-- a message has at most 1,024 bytes, and may have none
abbrev pub IsSmall : List ℕ → Type 0
IsSmall message = length message ≤ 1024

-- no more than 8 messages wait for a side, each of them small
pub record AreFew (messages : List (List ℕ)) : Type 0 where
  pub few : length messages ≤ 8
  pub small : All IsSmall messages

-- the first of them
abbrev pub first_message : List (List ℕ) → Option (List ℕ)
first_message [] = None
first_message (message ∷ messages) = Some message

-- ---- what a receipt gives
-- the message, or that none waits, of a pair that is shut or isn't
abbrev pub message_took : Bool → Option (List ℕ) → Took
message_took shut None = if shut then End else Empty
message_took shut (Some message) = Bytes message

-- what one call takes of the messages that wait for a side
abbrev pub received_of : Pair → ℕ → Took
received_of pair side = message_took pair.shut (first_message (waiting pair side))

-- the pair without the first message that waits for a side
abbrev pub pair_without_first : Pair → ℕ → Pair
pair_without_first pair side = with_waiting pair side (drop 1 (waiting pair side))

-- ---- what a call may ask
-- it asks of a side of a pair that is there
pub record MayAsk (c : Contents) (pair : Num) (side : ℕ) : Type 0 where
  pub there : has_pair c pair ≡ true
  pub either : side < 2

-- a pair that is there, and isn't shut, has room for a message for its other side
pub record MaySend (c : Contents) (pair : Num) (side : ℕ) (bytes : List ℕ) : Type 0 where
  pub there : has_pair c pair ≡ true
  pub either : side < 2
  pub unshut : (pair_in c pair).shut ≡ false
  pub fits : length (waiting (pair_in c pair) (other_side side)) < 8
  pub few : length bytes ≤ 1024
