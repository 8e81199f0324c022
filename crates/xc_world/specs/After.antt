-- What a call with its reply leaves of a transaction's private state, whatever its host holds.
use Rattle.std.specs.Prelude.{◌≡◌, ℕ, zero, suc, ◌+◌, ◌==◌, List, length, slice_set, Option, if◌then◌else◌}
use Rattle.std.specs.declared.option.Option.TheVariants.{None, Some}
use Rattle.xc_data.specs.Private.{place_of, lowest_vacant}
use Rattle.xc_data.specs.declared.call.Call.{Call}
use Rattle.xc_data.specs.declared.call.Call.TheVariants as call
use Rattle.xc_data.specs.declared.call.Reply.{Reply}
use Rattle.xc_data.specs.declared.call.Reply.TheVariants as reply
use Rattle.xc_data.specs.declared.object.Num.{Num}
use Rattle.xc_data.specs.declared.private.Place.{Place}
use Rattle.xc_data.specs.declared.private.Place.TheVariants as place
use Rattle.xc_data.specs.declared.private.Private.{Private}
use Rattle.xc_world.specs.Act.Names.{next_num}
use Rattle.xc_world.specs.Checks.{refusal_of}
use Rattle.xc_data.specs.Calls.{bytes_of}
use Rattle.xc_world.specs.Trail.{done_of}

-- ---- handles
-- a place whose file's position is so many bytes further on
abbrev pub further : Place → ℕ → Place
further (place.File num at) n = place.File num (at + n)
further p n = p

-- a place whose file's position is this one
abbrev pub at_position : Place → ℕ → Place
at_position (place.File num at) to = place.File num to
at_position p to = p

-- these places with another one at a handle
abbrev pub with_at : List Place → ℕ → Place → List Place
with_at places h p = slice_set places h p

-- a read and an overwrite move the position of their file by the bytes that they did
abbrev pub moved_by : List Place → ℕ → ℕ → List Place
moved_by places h n = if n == 0 then places else with_at places h (further (place_of places h) n)

-- an append of so many bytes leaves it after them, wherever the file ended
abbrev pub IsAppendedAt : List Place → ℕ → ℕ → List Place → Type 0
IsAppendedAt was h zero is = is ≡ was
IsAppendedAt was h (suc n) is = (end : ℕ) × (is ≡ with_at was h (at_position (place_of was h) (end + suc n)))

-- the two lowest vacant handles have the sides of a new pair, side 0 the lower one
abbrev pub ArePairPlaces : Num → List Place → ℕ × ℕ → List Place → Type 0
ArePairPlaces num was handles is =
    let first = with_at was handles.0 (place.Pair num 0) in
    (lowest_vacant was ≡ Some handles.0) × (lowest_vacant first ≡ Some handles.1) × (is ≡ with_at first handles.1 (place.Pair num 1))

-- the handles after a call with this reply; calls and replies that aren't named leave them as they are
abbrev pub ArePlaces : ℕ → Call → Private → Reply → List Place → Type 0
ArePlaces tx (call.XOpen name) me (reply.Made h) is =
    (lowest_vacant me.places ≡ Some h) × (num : Num) × (is ≡ with_at me.places h (place.File num 0))
ArePlaces tx (call.XCreate name) me (reply.Made h) is =
    (lowest_vacant me.places ≡ Some h) × (is ≡ with_at me.places h (place.File (next_num me tx) 0))
ArePlaces tx call.XPipe me (reply.Made h) is =
    (lowest_vacant me.places ≡ Some h) × (is ≡ with_at me.places h (place.Pipe (next_num me tx)))
ArePlaces tx call.XPair me (reply.MadePair h g) is = ArePairPlaces (next_num me tx) me.places (h, g) is
ArePlaces tx (call.XRead h n) me (reply.Got bytes) is = is ≡ moved_by me.places h (length bytes)
ArePlaces tx (call.XWriteOvr h bytes) me r is = is ≡ moved_by me.places h (done_of (length bytes) r)
ArePlaces tx (call.XWriteSeq h bytes) me r is = IsAppendedAt me.places h (done_of (length bytes) r) is
ArePlaces tx (call.XSeek h to) me reply.Done is = is ≡ with_at me.places h (at_position (place_of me.places h) to)
ArePlaces tx (call.XClose h) me reply.Done is = is ≡ with_at me.places h place.Vacant
ArePlaces tx c me r is = is ≡ me.places

-- ---- what was made and stored
-- how many objects are made after it: a file, a pipe or a pair that was made is one more
abbrev pub made_after : Call → Reply → ℕ → ℕ
made_after (call.XCreate name) (reply.Made h) made = made + 1
made_after call.XPipe (reply.Made h) made = made + 1
made_after call.XPair (reply.MadePair h g) made = made + 1
-- no other call makes one
made_after c r made = made

-- the bytes that a reply brings
abbrev pub bytes_in : Reply → ℕ
bytes_in (reply.Got bytes) = length bytes
-- any other reply brings none, also one yet to come
bytes_in r = 0

-- the bytes of a call that passed the checks and of its reply are stored
abbrev pub stored_with_reply : Option Reply → Call → Reply → ℕ → ℕ
stored_with_reply (Some refused) c r stored = stored
stored_with_reply None c r stored = stored + length (bytes_of c) + bytes_in r

-- the private state of the transaction of this number after a call with this reply
pub record IsMeAfter (tx : ℕ) (c : Call) (r : Reply) (was is : Private) : Type 0 where
  pub places : ArePlaces tx c was r is.places
  pub made : is.made ≡ made_after c r was.made
  pub stored : is.stored ≡ stored_with_reply (refusal_of c was) c r was.stored
