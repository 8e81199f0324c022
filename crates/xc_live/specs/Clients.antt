-- What a client may ask, and its transaction on the way to an answer.
use Rattle.std.specs.Prelude.{◌≡◌, ◌≢◌, ◌⊎◌, ℕ, Bool, true, false, [], ◌∷◌, ◌++◌, slice_get}
use Rattle.std.specs.declared.option.Option.TheVariants.{None, Some}
use Rattle.xc_data.specs.declared.call.Call.{Call}
use Rattle.xc_data.specs.declared.call.Call.TheVariants as call
use Rattle.xc_data.specs.declared.call.Reply.{Reply}
use Rattle.xc_data.specs.declared.entry.Cause.{Cause}
use Rattle.xc_data.specs.declared.entry.Cause.TheVariants as cause
use Rattle.xc_script.specs.Blocks.{fits_block}
use Rattle.xc_script.specs.declared.ask.Ask.{Ask}
use Rattle.xc_script.specs.declared.ask.Ask.TheVariants as ask
use Rattle.xc_model.specs.declared.phase.Phase.{Phase}
use Rattle.xc_model.specs.declared.phase.Phase.TheVariants.{Running, Committing, Undoing, Backing}
use Rattle.xc_model.specs.Live.{has_clients}
use Rattle.xc_model.specs.Moment.{TxView, JobView, Active, Moment}
use Rattle.xc_model.specs.Setting.{Setting}
use Rattle.xc_live.specs.Calm.{AreCalmBut}

-- a client may make it: outside of a block no keep and no back, in one no save; and it starts no job
abbrev pub may_ask : Bool → Call → Bool
may_ask within (call.XThreadCreate body slot) = false
-- any other call may be made where it fits, also one yet to come
may_ask within c = fits_block within c

-- a call was answered: the transaction has one call more, and one reply more
pub record IsCallNoted (c : Call) (was is : TxView) : Type 0 where
  pub number : is.number ≡ was.number
  pub rank : is.rank ≡ was.rank
  pub reply : Reply
  pub calls : is.calls ≡ was.calls ++ c ∷ []
  pub replies : is.replies ≡ was.replies ++ reply ∷ []

-- the client in this place has this running transaction, and has handed this in; all others are between two calls
pub record IsAsking (s : Setting) (at : ℕ) (tx : TxView) (asked : Ask) (now : Moment) : Type 0 where
  pub clients : has_clients s.script ≡ true
  pub job : JobView
  pub there : slice_get now.jobs at ≡ Some job
  pub active : job.doing ≡ Active tx
  pub running : tx.phase ≡ Running
  pub handed : job.handed ≡ Some asked
  pub asked_some : asked ≢ ask.End
  pub calm : AreCalmBut at now

-- an end of a transaction: its commit, or its own abort
abbrev pub IsEndAsk : Ask → Type 0
IsEndAsk ask.Commit = Unit {0}
IsEndAsk ask.Abort = Unit {0}
IsEndAsk (ask.Call c) = ⊥
IsEndAsk ask.End = ⊥

-- what rolls back a transaction that was asked this: at an end its own abort, or want of memory; at a call any cause may
abbrev pub MayUndo : Ask → Cause → Type 0
MayUndo (ask.Call c) why = Unit {0}
MayUndo ask.Commit why = why ≡ cause.NoMemory
MayUndo ask.Abort why = (why ≡ cause.Asked) ⊎ (why ≡ cause.NoMemory)
MayUndo ask.End why = ⊥

-- how its transaction stands then, by the phase: the call is answered, goes back yet, or the transaction is on the way to its entry
abbrev pub StandsBehind : TxView → Ask → JobView → TxView → Phase → Type 0
StandsBehind was asked job is Running = (job.handed ≡ None) × (c : Call) × (asked ≡ ask.Call c) × IsCallNoted c was is
StandsBehind was asked job is Backing =
    (job.handed ≡ Some asked) × (asked ≡ ask.Call call.Back) × (is.number ≡ was.number) × (is.rank ≡ was.rank) × (is.calls ≡ was.calls)
    × (is.replies ≡ was.replies)
StandsBehind was asked job is Committing = asked ≡ ask.Commit
StandsBehind was asked job is (Undoing why) = MayUndo asked why

-- it took its turn
pub record HasTakenUp (s : Setting) (at : ℕ) (was : TxView) (asked : Ask) (now : Moment) : Type 0 where
  pub clients : has_clients s.script ≡ true
  pub job : JobView
  pub there : slice_get now.jobs at ≡ Some job
  pub is : TxView
  pub active : job.doing ≡ Active is
  pub stands : StandsBehind was asked job is is.phase
  pub calm : AreCalmBut at now
