-- The objects that a call touches, and those that it makes.
use Rattle.std.specs.Prelude.{ℕ, List, [], ◌∷◌, nat_eq, if◌then◌else◌}
use Rattle.std.specs.Cmp.Lexicographic.{pointwise}
use Rattle.xc_data.specs.declared.object.Num.{Num}
use Rattle.xc_data.specs.declared.object.Object.{Object}
use Rattle.xc_data.specs.declared.object.Object.TheVariants as object
use Rattle.xc_data.specs.declared.call.Call.{Call}
use Rattle.xc_data.specs.declared.call.Call.TheVariants as call
use Rattle.xc_data.specs.declared.private.Place.{Place}
use Rattle.xc_data.specs.declared.private.Place.TheVariants as place
use Rattle.xc_data.specs.declared.private.Private.{Private}
use Rattle.xc_data.specs.Calls.{Appending, CallChange, Creating, MakingPair, MakingPipe, Overwriting, Renaming, Unchanging, traits}
use Rattle.xc_data.specs.Private.{place_of}
use Rattle.xc_world.specs.Checks.{is_refused}
use Rattle.xc_world.specs.Act.Names.{next_num}

-- what a handle holds
abbrev pub object_at : Place → List Object
object_at place.Vacant = []
object_at (place.File num at) = object.File num ∷ []
object_at (place.Pipe num) = object.Pipe num ∷ []
object_at (place.Pair num side) = object.Pair num ∷ []

-- the objects of a call that passed the private checks, in its order; an absent name is one too
abbrev pub objects_of_call : Call → Private → List Object
objects_of_call (call.Load at) me = object.Word at ∷ []
objects_of_call (call.Store at value) me = object.Word at ∷ []
objects_of_call (call.XOpen name) me = object.Name name ∷ []
objects_of_call (call.XCreate name) me = object.Name name ∷ []
objects_of_call (call.XRead h n) me = object_at (place_of me.places h)
objects_of_call (call.XWriteOvr h bytes) me = object_at (place_of me.places h)
objects_of_call (call.XWriteSeq h bytes) me = object_at (place_of me.places h)
objects_of_call (call.XSeek h to) me = []
objects_of_call (call.XLen h) me = object_at (place_of me.places h)
objects_of_call (call.XRename from to) me =
    if pointwise nat_eq from to then object.Name from ∷ [] else object.Name from ∷ object.Name to ∷ []
objects_of_call (call.XClose h) me = []
objects_of_call call.XPipe me = []
objects_of_call (call.XReadPipe h n) me = object_at (place_of me.places h)
objects_of_call call.XPair me = []
objects_of_call (call.XRecvmsg h) me = object_at (place_of me.places h)
objects_of_call (call.XUnlink name slot) me = object.Name name ∷ []
objects_of_call (call.XSync h slot) me = object_at (place_of me.places h)
objects_of_call (call.XWritePipe h bytes slot) me = object_at (place_of me.places h)
objects_of_call (call.XShutdown h slot) me = object_at (place_of me.places h)
objects_of_call (call.XSendmsg h bytes slot) me = object_at (place_of me.places h)
objects_of_call (call.XThreadCreate body slot) me = object.Jobs ∷ []
objects_of_call call.Save me = []
objects_of_call call.Keep me = []
objects_of_call call.Back me = []

-- a refused call touches nothing
abbrev pub touch : Call → Private → ℕ → List Object
touch call me words = if is_refused call me words then [] else objects_of_call call me

-- the object of this number that such a change makes, where it makes one
abbrev pub made_as : CallChange → Num → List Object
made_as (Creating name) num = object.File num ∷ []
made_as MakingPipe num = object.Pipe num ∷ []
made_as MakingPair num = object.Pair num ∷ []
made_as Unchanging num = []
made_as (Overwriting h bytes) num = []
made_as (Appending h bytes) num = []
made_as (Renaming from to) num = []

-- the object that a call makes, where it makes one
abbrev pub made_by : Call → Private → ℕ → List Object
made_by call me tx = made_as (traits call).change (next_num me tx)
