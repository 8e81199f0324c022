-- The kinds of turns: what becomes of the job that takes one.
use Rattle.std.proofs.Common.{◌≡◌, ◌⊎◌, ℕ, ◌+◌, List, [], ◌∷◌, ◌++◌, length}
use Rattle.std.specs.Prelude.{All, Option, slice_set}
use Rattle.std.specs.declared.option.Option.TheVariants.{None, Some}
use Rattle.xc_data.specs.Claims.{holding}
use Rattle.xc_data.specs.declared.call.Call.{Call}
use Rattle.xc_data.specs.declared.call.Call.TheVariants as call
use Rattle.xc_data.specs.declared.claim.Claim.{Claim}
use Rattle.xc_data.specs.declared.object.Object.{Object}
use Rattle.xc_data.specs.declared.entry.Cause.{Cause}
use Rattle.xc_data.specs.declared.entry.Cause.TheVariants as cause
use Rattle.xc_data.specs.declared.entry.Outcome.{Outcome}
use Rattle.xc_script.specs.declared.ask.Ask.TheVariants as ask
use Rattle.xc_model.specs.declared.phase.Phase.TheVariants.{Running, Undoing}
use Rattle.xc_model.specs.Setting.{Setting}
use Rattle.xc_model.specs.Moment.{TxView, JobView, Moment, active_of, begun_count}
use Rattle.xc_model.specs.Moment.{unmarked}
use Rattle.xc_model.specs.Stories.{cause_of_phase}
use Rattle.xc_model.specs.EntryEnds.{cause_in}
use Rattle.xc_model.specs.RunningRows.{Waits}
use Rattle.xc_model.specs.Movers.{mover, Mover}
use Rattle.xc_model.specs.Rivals.{HasNoRival, IsFirstRival}
use Rattle.xc_model.specs.Movers.{asked_at}
use Rattle.xc_model.specs.PlainSteps.{claims_at}
use Rattle.xc_model.specs.Entering.{entry_of}
use Rattle.xc_turns.proofs.Grown.{AreIdle}

-- ---- the kinds
-- the job in this place changes, and the words stay as many
pub record Sets (at : ℕ) (old new : Moment) (behind : JobView) : Type 0 where
  pub jobs : new.jobs ≡ slice_set old.jobs at behind
  pub words : length new.words ≡ length old.words

-- the job has no active transaction, before and after
pub record Rests (at : ℕ) (old : Moment) (job : JobView) (new : Moment) : Type 0 where
  pub behind : JobView
  pub sets : Sets at old new behind
  pub journal : new.journal ≡ old.journal
  pub marks : new.marks ≡ old.marks
  pub before : active_of job ≡ None
  pub after : active_of behind ≡ None

-- one begins: it holds nothing, doesn't undo and isn't marked
pub record Begins (at : ℕ) (old : Moment) (job : JobView) (new : Moment) : Type 0 where
  pub behind : JobView
  pub sets : Sets at old new behind
  pub journal : new.journal ≡ old.journal
  pub before : active_of job ≡ None
  pub tx : TxView
  pub after : active_of behind ≡ Some tx
  pub none : tx.held ≡ []
  pub running : tx.phase ≡ Running
  pub number : tx.number ≡ begun_count old + 1
  pub marks : new.marks ≡ unmarked old.marks tx.number

-- what it holds stays, or claims come to it that nobody else holds against it
abbrev pub HoldsOn : List JobView → ℕ → List Claim → List Claim → Type 0
HoldsOn jobs at was held = (held ≡ was) ⊎ ((claims : List Claim) × All (HasNoRival jobs at) claims × (held ≡ holding was claims))

-- the call that it was asked is done: it holds what that claims
pub record HoldsAsked (s : Setting) (old : Moment) (job : JobView) (was tx : TxView) : Type 0 where
  pub call : Call
  pub asked : asked_at s job ≡ ask.Call call
  pub held : tx.held ≡ holding was.held (claims_at old was call)

-- what it is asked stays, or the asked call is done; a block's way back claims nothing
abbrev pub AsksOn : Mover → JobView → TxView → TxView → Type 0
AsksOn m behind was tx =
    ((tx.me ≡ was.me) × (asked_at m.setting behind ≡ asked_at m.setting m.job))
    ⊎ (HoldsAsked m.setting m.old m.job was tx ⊎ (asked_at m.setting m.job ≡ ask.Call call.Back))

-- no conflict and no revocation
abbrev pub IsNoConflict : Option Cause → Type 0
IsNoConflict (Some (cause.Conflict object holder at)) = ⊥
IsNoConflict (Some (cause.Revoked object by at)) = ⊥
IsNoConflict _ = Unit {0}

-- why it undoes, or is marked
abbrev pub cause_on : Moment → TxView → Option Cause
cause_on now tx = cause_of_phase (now.marks tx.number) tx.phase

-- that stays, with all that it is judged by
pub record IsSameCause (m : Mover) (behind : JobView) (was tx : TxView) : Type 0 where
  pub cause : cause_on m.old tx ≡ cause_on m.old was
  pub me : tx.me ≡ was.me
  pub still : asked_at m.setting behind ≡ asked_at m.setting m.job

-- the call that it is asked meets a holder
pub record MeetsRival (m : Mover) (behind : JobView) (was tx : TxView) : Type 0 where
  pub call : Call
  pub asked : asked_at m.setting m.job ≡ ask.Call call
  pub object : Object
  pub holder : ℕ
  pub met : IsFirstRival m.old.jobs m.at (claims_at m.old was call) object holder
  pub phase : tx.phase ≡ Undoing (cause.Conflict object holder (length m.old.journal))
  pub me : tx.me ≡ was.me
  pub still : asked_at m.setting behind ≡ asked_at m.setting m.job

-- it has the old cause, none that names a holder, or a new one that does
pub data CauseOn (m : Mover) (behind : JobView) (was tx : TxView) : Type 0 where
  same : IsSameCause m behind was tx → CauseOn m behind was tx
  free : IsNoConflict (cause_on m.old tx) → CauseOn m behind was tx
  meets : MeetsRival m behind was tx → CauseOn m behind was tx

-- an active transaction goes on
pub record Moves (s : Setting) (at : ℕ) (old : Moment) (job : JobView) (new : Moment) : Type 0 where
  pub behind : JobView
  pub sets : Sets at old new behind
  pub journal : new.journal ≡ old.journal
  pub was : TxView
  pub tx : TxView
  pub before : active_of job ≡ Some was
  pub after : active_of behind ≡ Some tx
  pub number : tx.number ≡ was.number
  pub rank : tx.rank ≡ was.rank
  pub began : tx.began ≡ was.began
  pub held : HoldsOn old.jobs at was.held tx.held
  pub wants : AsksOn (mover s at old job) behind was tx
  pub why : CauseOn (mover s at old job) behind was tx
  pub marks : new.marks ≡ old.marks

-- an active transaction stays as it is, and another one is marked
pub record Stays (s : Setting) (at : ℕ) (old : Moment) (job : JobView) (new : Moment) : Type 0 where
  pub behind : JobView
  pub sets : Sets at old new behind
  pub journal : new.journal ≡ old.journal
  pub tx : TxView
  pub before : active_of job ≡ Some tx
  pub after : active_of behind ≡ Some tx
  pub still : asked_at s behind ≡ asked_at s job
  pub object : Object
  pub holder : ℕ
  pub waits : Waits (mover s at old job) tx object holder new

-- an active transaction ends, and perhaps more jobs come
pub record EntersJournal (at : ℕ) (old : Moment) (job : JobView) (new : Moment) : Type 0 where
  pub behind : JobView
  pub more : List JobView
  pub idle : AreIdle more
  pub jobs : new.jobs ≡ slice_set old.jobs at behind ++ more
  pub words : length new.words ≡ length old.words
  pub tx : TxView
  pub outcome : Outcome
  pub journal : new.journal ≡ old.journal ++ entry_of tx at outcome ∷ []
  pub before : active_of job ≡ Some tx
  pub after : active_of behind ≡ None
  pub why : cause_in outcome ≡ cause_on old tx
  pub marks : new.marks ≡ unmarked old.marks tx.number

-- one of these
pub data Kind (s : Setting) (at : ℕ) (old : Moment) (job : JobView) (new : Moment) : Type 0 where
  rests : Rests at old job new → Kind s at old job new
  begins : Begins at old job new → Kind s at old job new
  moves : Moves s at old job new → Kind s at old job new
  stays : Stays s at old job new → Kind s at old job new
  enters : EntersJournal at old job new → Kind s at old job new
