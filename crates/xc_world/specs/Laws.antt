-- What the laws of the plain machine say: refusals, and what a step depends on and changes.
use Rattle.std.specs.Prelude.{◌≡◌, ◌==◌, Bool, true, false, List, [], ◌∷◌, All, Contains, length, slice_get}
use Rattle.std.specs.FinMap as map
use Rattle.xc_data.specs.declared.object.Object.{Object}
use Rattle.xc_data.specs.declared.object.Object.TheVariants as object
use Rattle.xc_data.specs.declared.call.Reply.{Reply}
use Rattle.xc_data.specs.declared.call.Reply.TheVariants as reply
use Rattle.xc_data.specs.declared.call.LateCall.{LateCall}
use Rattle.xc_data.specs.declared.call.LateCall.TheVariants.{Unlink, Sync, WritePipe, Shutdown, Send, Thread}
use Rattle.xc_world.specs.World.{World}
use Rattle.xc_world.specs.Act.Step.{Stepped}
use Rattle.xc_world.specs.Late.{Ended}

-- the reply of a call that did nothing
abbrev pub is_refusal : Reply → Bool
is_refusal reply.BadHandle = true
is_refusal reply.TooBig = true
is_refusal reply.TooMuch = true
is_refusal reply.BadWord = true
is_refusal reply.NoName = true
is_refusal reply.Exists = true
is_refusal reply.PastEnd = true
is_refusal reply.End = true
is_refusal reply.Empty = true
is_refusal (reply.Fault n) = n == 0
is_refusal (reply.Number n) = false
is_refusal (reply.Got bytes) = false
is_refusal (reply.Made h) = false
is_refusal (reply.MadePair h g) = false
is_refusal reply.Done = false
is_refusal reply.Late = false
is_refusal (reply.Undone n) = false

-- two worlds have the same at an object
abbrev pub AgreeAt : World → World → Object → Type 0
AgreeAt w v (object.Word at) = slice_get w.words at ≡ slice_get v.words at
AgreeAt w v (object.Name name) = map.get w.names name ≡ map.get v.names name
AgreeAt w v (object.File num) = map.get w.files num ≡ map.get v.files num
AgreeAt w v (object.Pipe num) = map.get w.pipes num ≡ map.get v.pipes num
AgreeAt w v (object.Pair num) = map.get w.pairs num ≡ map.get v.pairs num
AgreeAt w v object.Jobs = w.started ≡ v.started

-- the second world differs from the first in these objects at most
pub record ChangesOnly (objects : List Object) (w v : World) : Type 0 where
  pub others : (o : Object) → (Contains objects o → ⊥) → AgreeAt w v o
  pub count : length v.words ≡ length w.words
  pub blocks : v.blocks ≡ w.blocks

-- two worlds w and v became x and y, which agree on these objects, and nothing else changed
pub record GoAlike (objects : List Object) (w v x y : World) : Type 0 where
  pub agree : All (AgreeAt x y) objects
  pub left : ChangesOnly objects w x
  pub right : ChangesOnly objects v y

-- two steps from the worlds w and v give the same
pub record ActsAlike (objects : List Object) (w v : World) (s t : Stepped) : Type 0 where
  pub reply : s.reply ≡ t.reply
  pub me : s.me ≡ t.me
  pub worlds : GoAlike objects w v s.world t.world

-- ---- late calls
-- the object of a late call
abbrev pub late_objects : LateCall → List Object
late_objects (Unlink name) = object.Name name ∷ []
late_objects (Sync num) = object.File num ∷ []
late_objects (WritePipe num bytes) = object.Pipe num ∷ []
late_objects (Shutdown object) = object ∷ []
late_objects (Send num side bytes) = object.Pair num ∷ []
late_objects (Thread body) = object.Jobs ∷ []

-- two late calls in the worlds w and v end alike
pub record EndsAlike (objects : List Object) (w v : World) (e f : Ended) : Type 0 where
  pub end : e.end ≡ f.end
  pub worlds : GoAlike objects w v e.world f.world
