-- Nothing at the host has a number that a running transaction has still to give.
use Rattle.std.proofs.Common.{◌≡◌, ℕ, ◌≤◌, false, Some, ap, is_some}
use Rattle.std.specs.Prelude.{slice_get}
use Rattle.xc_flight.proofs.Laws.{still_absent}
use Rattle.xc_host.specs.Contents.{has_file, world_of}
use Rattle.xc_world.specs.Sound.{IsFree}
use Rattle.xc_model.specs.declared.phase.Phase.TheVariants.{Running}
use Rattle.xc_model.specs.Setting.{Setting}
use Rattle.xc_model.specs.Moment.{TxView, JobView, Moment, active_of}
use Rattle.xc_refines.specs.InFlight.{flown, flown_phase, flight_state, AreInFlight}
use Rattle.xc_refines.proofs.FlownJobs.{flies_there, sound_there}

-- over a running transaction nothing at the host has a number that it has still to give
pub free_now : (s : Setting) (now : Moment) (all : AreInFlight s now) (at : ℕ) (job : JobView) (tx : TxView) → slice_get now.jobs at ≡ Some job
    → active_of job ≡ Some tx → tx.phase ≡ Running → (k : ℕ) → tx.me.made ≤ k → IsFree (world_of now.contents) (record { tx = tx.number; k = k })
free_now s now all at job tx there active runs k le =
    let flies = flies_there s now all at job tx there active in
    let sound = sound_there s now all at job tx there active in
    let free = still_absent (flight_state s now all.unnoted) at (flown job.me (all.unnoted at) tx) all.flies flies (ap flown_phase runs) sound k le in
    record { file = free.file; pipe = free.pipe; pair = free.pair }

-- over a running transaction no file at the host has a number that it has still to give
pub absent_now : (s : Setting) (now : Moment) (all : AreInFlight s now) (at : ℕ) (job : JobView) (tx : TxView) → slice_get now.jobs at ≡ Some job
    → active_of job ≡ Some tx → tx.phase ≡ Running → (k : ℕ) → tx.me.made ≤ k → has_file now.contents (record { tx = tx.number; k = k }) ≡ false
absent_now s now all at job tx there active runs k le =
    let flies = flies_there s now all at job tx there active in
    let sound = sound_there s now all at job tx there active in
    ap is_some (still_absent (flight_state s now all.unnoted) at (flown job.me (all.unnoted at) tx) all.flies flies (ap flown_phase runs) sound k le).file
