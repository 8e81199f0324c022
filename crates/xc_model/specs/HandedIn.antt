-- What clients hand in: the next call of a running transaction, its commit or its abort, or the end of a client that has none. It is
-- taken up at the job's next turn.
use Rattle.std.specs.Prelude.{◌≡◌, ℕ, true, slice_get, is_some}
use Rattle.std.specs.declared.option.Option.TheVariants.{None, Some}
use Rattle.xc_script.specs.declared.ask.Ask.{Ask}
use Rattle.xc_script.specs.declared.ask.Ask.TheVariants as ask
use Rattle.xc_script.specs.Blocks.{fits_block}
use Rattle.xc_model.specs.declared.phase.Phase.TheVariants.{Running}
use Rattle.xc_model.specs.Live.{has_clients}
use Rattle.xc_model.specs.Setting.{Setting}
use Rattle.xc_model.specs.Moment.{JobView, Doing, Idle, Active, Moment, with_job}

-- this may be handed in where the job does this: a call that fits its open block, a commit and an abort where its transaction runs;
-- its end where it has none
abbrev pub MayHand : Doing → Ask → Type 0
MayHand (Active tx) (ask.Call call) = (tx.phase ≡ Running) × (fits_block (is_some tx.saved) call ≡ true)
MayHand (Active tx) ask.Commit = tx.phase ≡ Running
MayHand (Active tx) ask.Abort = tx.phase ≡ Running
MayHand Idle ask.End = Unit {0}
MayHand _ _ = ⊥

-- the client of the job in this place, which counts from 0, may hand this in: nothing that it handed in before waits for a turn
pub record MayHandIn (s : Setting) (at : ℕ) (asked : Ask) (now : Moment) : Type 0 where
  pub clients : has_clients s.script ≡ true
  pub job : JobView
  pub is : slice_get now.jobs at ≡ Some job
  pub none : job.handed ≡ None
  pub may : MayHand job.doing asked

-- the job with it
abbrev pub handing : JobView → Ask → JobView
handing job asked = record job { handed = Some asked }

-- it did, and nothing else changes
pub record IsHandedIn (s : Setting) (at : ℕ) (asked : Ask) (old new : Moment) : Type 0 where
  pub clients : has_clients s.script ≡ true
  pub job : JobView
  pub is : slice_get old.jobs at ≡ Some job
  pub none : job.handed ≡ None
  pub may : MayHand job.doing asked
  pub behind : new ≡ with_job old at (handing job asked)
