-- What the next late call of a committing transaction needs is there.
use Rattle.std.proofs.Common.{◌≡◌, ℕ, List, ◌∷◌, ◌++◌, length, take, refl, ap, sym, ◌∙◌, Some, take-append-drop}
use Rattle.std.specs.Prelude.{slice_get}
use Rattle.xc_data.specs.declared.call.LateCall.{LateCall}
use Rattle.xc_data.specs.declared.call.LateCall.TheVariants.{Shutdown}
use Rattle.xc_data.specs.declared.object.Object.{Object}
use Rattle.xc_data.specs.declared.object.Object.TheVariants as object
use Rattle.xc_host.specs.Contents.{world_of}
use Rattle.xc_world.specs.Sound.{is_there, names_there}
use Rattle.xc_model.specs.declared.phase.Phase.TheVariants.{Committing}
use Rattle.xc_model.specs.Setting.{Setting}
use Rattle.xc_model.specs.Moment.{TxView, JobView, Moment, active_of, late_left}
use Rattle.xc_flight.proofs.Laws.{next_ready}
use Rattle.xc_refines.specs.InFlight.{flown, flown_phase, flight_state, world_now, AreInFlight}
use Rattle.xc_deferred.specs.Does.{IsThereFor}
use Rattle.xc_refines.proofs.FlownJobs.{flies_there, sound_there}

-- it stands after those that have an end
pub late_split : (tx : TxView) (call : LateCall) (calls : List LateCall) → late_left tx ≡ call ∷ calls
    → tx.late ≡ take (length tx.ends) tx.late ++ call ∷ calls
late_split tx call calls left =
    sym (take-append-drop (length tx.ends) tx.late) ∙ ap (λ l. take (length tx.ends) tx.late ++ l) left

-- ---- which objects are there is told by the host's contents alone
object_in : (s : Setting) (now : Moment) (o : Object) → is_there (world_of now.contents) o ≡ is_there (world_now s now) o
object_in s now (object.File num) = refl
object_in s now (object.Pipe num) = refl
object_in s now (object.Pair num) = refl
object_in s now _ = refl

names_in : (s : Setting) (now : Moment) (call : LateCall) → names_there (world_of now.contents) call ≡ names_there (world_now s now) call
names_in s now (Shutdown o) = object_in s now o
names_in s now _ = refl

-- so its object is there
pub late_there : (s : Setting) (now : Moment) (all : AreInFlight s now) (at : ℕ) (job : JobView) (tx : TxView) (call : LateCall) (calls : List LateCall)
    → slice_get now.jobs at ≡ Some job → active_of job ≡ Some tx → tx.phase ≡ Committing → late_left tx ≡ call ∷ calls → IsThereFor now.contents call
late_there s now all at job tx call calls there active commits left =
    let t = flown job.me (all.unnoted at) tx in
    let ready = next_ready (flight_state s now all.unnoted) at t call (take (length tx.ends) tx.late) calls all.flies
    (flies_there s now all at job tx there active) (ap flown_phase commits) (sound_there s now all at job tx there active)
    (late_split tx call calls left) in
    names_in s now call ∙ ready.there
