-- What holds of a world, and of a transaction's private state in it: the condition of every step.
use Rattle.std.specs.Prelude.{◌≡◌, ℕ, ◌≤◌, Bool, true, is_some, List, [], All, length}
use Rattle.std.specs.declared.option.Option.TheVariants.{None, Some}
use Rattle.std.specs.FinMap as map
use Rattle.xc_data.specs.declared.object.Num.{Num}
use Rattle.xc_data.specs.declared.object.Object.{Object}
use Rattle.xc_data.specs.declared.object.Object.TheVariants as object
use Rattle.xc_data.specs.declared.call.LateCall.{LateCall}
use Rattle.xc_data.specs.declared.call.LateCall.TheVariants.{Sync, WritePipe, Shutdown, Send, Unlink, Thread}
use Rattle.xc_data.specs.declared.private.Place.{Place}
use Rattle.xc_data.specs.declared.private.Place.TheVariants as place
use Rattle.xc_data.specs.declared.private.Private.{Private}
use Rattle.xc_data.specs.Private.{place_of}
use Rattle.xc_world.specs.World.{World, Pair, file_of, pair_of}

-- a message has at most 1,024 bytes
abbrev pub AreShort : List (List ℕ) → Type 0
AreShort messages = All (λ message. length message ≤ 1024) messages

-- the messages of both sides have at most 1024 bytes each
pub record HoldsShort (pair : Pair) : Type 0 where
  pub first : AreShort pair.first
  pub second : AreShort pair.second

-- what holds of a world by itself: files and messages within their limits, names of files that are there
pub record IsFit (w : World) : Type 0 where
  pub files : (num : Num) → length (file_of w num) ≤ 65536
  pub messages : (num : Num) → HoldsShort (pair_of w num)
  pub names : (name : List ℕ) (num : Num) → map.get w.names name ≡ Some num → is_some (map.get w.files num) ≡ true

-- no object has this number
pub record IsFree (w : World) (num : Num) : Type 0 where
  pub file : map.get w.files num ≡ None
  pub pipe : map.get w.pipes num ≡ None
  pub pair : map.get w.pairs num ≡ None

-- a handle's object is there, and a side is 0 or 1
abbrev pub IsKnown : World → Place → Type 0
IsKnown w place.Vacant = Unit {0}
IsKnown w (place.File num at) = is_some (map.get w.files num) ≡ true
IsKnown w (place.Pipe num) = is_some (map.get w.pipes num) ≡ true
IsKnown w (place.Pair num side) = (is_some (map.get w.pairs num) ≡ true) × (side ≤ 1)

-- the world is fit, the transaction is within its limits, its next numbers are free and its handles are known
pub record IsSound (w : World) (me : Private) (tx : ℕ) : Type 0 where
  pub world : IsFit w
  pub made : me.made ≤ 16
  pub stored : me.stored ≤ 16384
  pub new : (k : ℕ) → me.made ≤ k → IsFree w (record { tx = tx; k = k })
  pub handles : (h : ℕ) → IsKnown w (place_of me.places h)

-- ---- a late call's conditions
-- the bytes that a late call carries
abbrev pub late_bytes_of : LateCall → List ℕ
late_bytes_of (WritePipe num bytes) = bytes
late_bytes_of (Send num side bytes) = bytes
late_bytes_of (Unlink name) = []
late_bytes_of (Sync num) = []
late_bytes_of (Shutdown object) = []
late_bytes_of (Thread body) = []

-- a late call carries at most 1024 bytes
abbrev pub IsShortCall : LateCall → Type 0
IsShortCall c = length (late_bytes_of c) ≤ 1024

-- a numbered object is in the world
abbrev pub is_there : World → Object → Bool
is_there w (object.File num) = is_some (map.get w.files num)
is_there w (object.Pipe num) = is_some (map.get w.pipes num)
is_there w (object.Pair num) = is_some (map.get w.pairs num)
is_there w _ = true

-- an object that a late call names by its number is in the world
abbrev pub names_there : World → LateCall → Bool
names_there w (Sync num) = is_some (map.get w.files num)
names_there w (WritePipe num bytes) = is_some (map.get w.pipes num)
names_there w (Shutdown object) = is_there w object
names_there w (Send num side bytes) = is_some (map.get w.pairs num)
names_there w (Unlink name) = true
names_there w (Thread body) = true

-- a late call that may be done: short, and its object is there
pub record IsReady (w : World) (c : LateCall) : Type 0 where
  pub short : IsShortCall c
  pub there : names_there w c ≡ true
