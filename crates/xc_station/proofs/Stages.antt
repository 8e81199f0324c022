-- What a job does, by the row that its next turn goes by.
use Rattle.std.proofs.Common.{◌≡◌, Bool, true, false, List, [], ◌∷◌, refl, ap, sym, ◌∙◌, ℕ, subst}
use Rattle.std.proofs.lemmas.Option.{get_or_from_slice_get}
use Rattle.std.specs.Prelude.{Option, get_or, if◌then◌else◌, slice_get, ◌==◌, ◌-◌}
use Rattle.std.specs.declared.option.Option.TheVariants.{None, Some}
use Rattle.xc_data.specs.declared.call.LateCall.{LateCall}
use Rattle.xc_data.specs.declared.entry.Cause.{Cause}
use Rattle.xc_data.specs.declared.undo.Undo.{Undo}
use Rattle.xc_model.specs.declared.phase.Phase.{Phase}
use Rattle.xc_model.specs.declared.phase.Phase.TheVariants as phase
use Rattle.xc_model.specs.Moment.{TxView, JobView, Doing, Idle, Active, Starved, Ended, active_in, active_of, late_left}
use Rattle.xc_station.specs.declared.job.Job.{Job}
use Rattle.xc_station.specs.declared.job.Stage.{Stage}
use Rattle.xc_station.specs.declared.job.Stage.TheVariants as stage
use Rattle.xc_station.specs.Jobs.{IsStage, back_stage, fed_doing, goes_on, late_stage, phase_stage, doing_of, stage_of}
use Rattle.xc_station.specs.Stations.{live_at, lives}

-- ---- the job there
pub record IsThere (jobs : List Job) (at : ℕ) (s : Stage) (job : Job) : Type 0 where
  pub there : slice_get jobs at ≡ Some job
  pub stage : stage_of (doing_of job) ≡ s

-- it is the one that is lent there
pub lent : (jobs : List Job) (at : ℕ) (s : Stage) (job : Job) → IsStage jobs at s → job ≡ get_or jobs at job → IsThere jobs at s job
lent jobs at s job is value =
    let same : is.0 ≡ job = sym (get_or_from_slice_get jobs at is.0 job is.1) ∙ sym value in
    subst (IsThere jobs at s) same (record { there = is.1; stage = is.2 })

-- ---- stages by phases
abbrev is_late_stage : Stage → Bool
is_late_stage stage.Committing = true
is_late_stage stage.Committed = true
is_late_stage _ = false

abbrev is_back_stage : Stage → Bool
is_back_stage stage.Undoing = true
is_back_stage stage.Undone = true
is_back_stage _ = false

-- ---- a job with an active transaction
abbrev is_active : Stage → Bool
is_active stage.Idle = false
is_active stage.Starved = false
is_active stage.Ended = false
is_active _ = true

back_active : (pending : List Undo) → is_active (back_stage pending) ≡ true
back_active [] = refl
back_active (u ∷ us) = refl

late_active : (late : List LateCall) → is_active (late_stage late) ≡ true
late_active [] = refl
late_active (c ∷ cs) = refl

phase_active : (tx : TxView) (p : Phase) → is_active (phase_stage tx p) ≡ true
phase_active tx phase.Running = refl
phase_active tx phase.Backing = refl
phase_active tx phase.Committing = late_active (late_left tx)
phase_active tx (phase.Undoing c) = back_active tx.undo.pending

-- its stage is none of the others
not_active : (tx : TxView) (s : Stage) → is_active s ≡ false → stage_of (Active tx) ≡ s → ⊥
not_active tx s is e = let no : true ≡ false = sym (phase_active tx tx.phase) ∙ ap is_active e ∙ is in cc no

-- ---- the stages
pub idle_stage : (d : Doing) → stage_of d ≡ stage.Idle → d ≡ Idle
idle_stage Idle e = refl
idle_stage (Active tx) e = absurd (not_active tx stage.Idle refl e)
idle_stage Starved e = cc e
idle_stage (Ended end) e = cc e

fed_none : (clients : Bool) → active_in (fed_doing clients) ≡ None
fed_none true = refl
fed_none false = refl

-- after its turn without memory a job has no transaction
pub fed_inactive : (was job : JobView) (clients : Bool) → job ≡ record was { doing = fed_doing clients } → active_of job ≡ None
fed_inactive was job clients is = ap active_of is ∙ fed_none clients

-- it is starved
pub starved_stage : (d : Doing) → stage_of d ≡ stage.Starved → d ≡ Starved
starved_stage Idle e = cc e
starved_stage (Active tx) e = absurd (not_active tx stage.Starved refl e)
starved_stage Starved e = refl
starved_stage (Ended end) e = cc e

-- it has an active transaction in this phase
pub record HasPhase (d : Doing) (p : Phase) : Type 0 where
  pub tx : TxView
  pub doing : d ≡ Active tx
  pub phase : tx.phase ≡ p

-- a stage of a committing transaction is no other
late_not : (late : List LateCall) (t : Stage) → is_late_stage t ≡ false → late_stage late ≡ t → ⊥
late_not [] t other e = let both : true ≡ false = ap is_late_stage e ∙ other in cc both
late_not (c ∷ cs) t other e = let both : true ≡ false = ap is_late_stage e ∙ other in cc both

back_not : (pending : List Undo) (t : Stage) → is_back_stage t ≡ false → back_stage pending ≡ t → ⊥
back_not [] t other e = let both : true ≡ false = ap is_back_stage e ∙ other in cc both
back_not (u ∷ us) t other e = let both : true ≡ false = ap is_back_stage e ∙ other in cc both

running_phase : (tx : TxView) (p : Phase) → phase_stage tx p ≡ stage.Running → p ≡ phase.Running
running_phase tx phase.Running e = refl
running_phase tx phase.Backing e = cc e
running_phase tx phase.Committing e = absurd (late_not (late_left tx) stage.Running refl e)
running_phase tx (phase.Undoing c) e = absurd (back_not tx.undo.pending stage.Running refl e)

-- it runs
pub running_stage : (d : Doing) → stage_of d ≡ stage.Running → HasPhase d phase.Running
running_stage Idle e = cc e
running_stage (Active tx) e = record { tx = tx; doing = refl; phase = running_phase tx tx.phase e }
running_stage Starved e = cc e
running_stage (Ended end) e = cc e

-- it commits, and a late call has no end
pub record IsLating (d : Doing) : Type 0 where
  pub tx : TxView
  pub doing : d ≡ Active tx
  pub phase : tx.phase ≡ phase.Committing
  pub next : LateCall
  pub later : List LateCall
  pub left : late_left tx ≡ next ∷ later

committing_left : (tx : TxView) (late : List LateCall) → tx.phase ≡ phase.Committing → late_left tx ≡ late → late_stage late ≡ stage.Committing
    → IsLating (Active tx)
committing_left tx [] commits left e = cc e
committing_left tx (c ∷ cs) commits left e = record { tx = tx; doing = refl; phase = commits; next = c; later = cs; left = left }

committing_phase : (tx : TxView) (p : Phase) → tx.phase ≡ p → phase_stage tx p ≡ stage.Committing → IsLating (Active tx)
committing_phase tx phase.Running in' e = cc e
committing_phase tx phase.Backing in' e = cc e
committing_phase tx phase.Committing in' e = committing_left tx (late_left tx) in' refl e
committing_phase tx (phase.Undoing c) in' e = absurd (back_not tx.undo.pending stage.Committing refl e)

-- its next turn does the first such call
pub committing_stage : (d : Doing) → stage_of d ≡ stage.Committing → IsLating d
committing_stage Idle e = cc e
committing_stage (Active tx) e = committing_phase tx tx.phase refl e
committing_stage Starved e = cc e
committing_stage (Ended end) e = cc e

-- it commits, and each late call has its end
pub record IsCommitted (d : Doing) : Type 0 where
  pub tx : TxView
  pub doing : d ≡ Active tx
  pub phase : tx.phase ≡ phase.Committing
  pub left : late_left tx ≡ []

committed_left : (tx : TxView) (late : List LateCall) → tx.phase ≡ phase.Committing → late_left tx ≡ late → late_stage late ≡ stage.Committed
    → IsCommitted (Active tx)
committed_left tx [] commits left e = record { tx = tx; doing = refl; phase = commits; left = left }
committed_left tx (c ∷ cs) commits left e = cc e

committed_phase : (tx : TxView) (p : Phase) → tx.phase ≡ p → phase_stage tx p ≡ stage.Committed → IsCommitted (Active tx)
committed_phase tx phase.Running in' e = cc e
committed_phase tx phase.Backing in' e = cc e
committed_phase tx phase.Committing in' e = committed_left tx (late_left tx) in' refl e
committed_phase tx (phase.Undoing c) in' e = absurd (back_not tx.undo.pending stage.Committed refl e)

-- its next turn enters it
pub committed_stage : (d : Doing) → stage_of d ≡ stage.Committed → IsCommitted d
committed_stage Idle e = cc e
committed_stage (Active tx) e = committed_phase tx tx.phase refl e
committed_stage Starved e = cc e
committed_stage (Ended end) e = cc e

-- it undoes, and a record has no end
pub record IsUndoingRecord (d : Doing) : Type 0 where
  pub tx : TxView
  pub cause : Cause
  pub doing : d ≡ Active tx
  pub phase : tx.phase ≡ phase.Undoing cause
  pub newest : Undo
  pub older : List Undo
  pub pending : tx.undo.pending ≡ newest ∷ older

undoing_left : (tx : TxView) (c : Cause) (pending : List Undo) → tx.phase ≡ phase.Undoing c → tx.undo.pending ≡ pending
    → back_stage pending ≡ stage.Undoing → IsUndoingRecord (Active tx)
undoing_left tx c [] in' left e = cc e
undoing_left tx c (u ∷ us) in' left e = record { tx = tx; cause = c; doing = refl; phase = in'; newest = u; older = us; pending = left }

undoing_phase : (tx : TxView) (p : Phase) → tx.phase ≡ p → phase_stage tx p ≡ stage.Undoing → IsUndoingRecord (Active tx)
undoing_phase tx phase.Running in' e = cc e
undoing_phase tx phase.Backing in' e = cc e
undoing_phase tx phase.Committing in' e = absurd (late_not (late_left tx) stage.Undoing refl e)
undoing_phase tx (phase.Undoing c) in' e = undoing_left tx c tx.undo.pending in' refl e

-- its next turn tries the newest
pub undoing_stage : (d : Doing) → stage_of d ≡ stage.Undoing → IsUndoingRecord d
undoing_stage Idle e = cc e
undoing_stage (Active tx) e = undoing_phase tx tx.phase refl e
undoing_stage Starved e = cc e
undoing_stage (Ended end) e = cc e

-- it undoes, and each record has its end
pub record IsUndone (d : Doing) : Type 0 where
  pub tx : TxView
  pub cause : Cause
  pub doing : d ≡ Active tx
  pub phase : tx.phase ≡ phase.Undoing cause
  pub pending : tx.undo.pending ≡ []

undone_left : (tx : TxView) (c : Cause) (pending : List Undo) → tx.phase ≡ phase.Undoing c → tx.undo.pending ≡ pending
    → back_stage pending ≡ stage.Undone → IsUndone (Active tx)
undone_left tx c [] in' left e = record { tx = tx; cause = c; doing = refl; phase = in'; pending = left }
undone_left tx c (u ∷ us) in' left e = cc e

undone_phase : (tx : TxView) (p : Phase) → tx.phase ≡ p → phase_stage tx p ≡ stage.Undone → IsUndone (Active tx)
undone_phase tx phase.Running in' e = cc e
undone_phase tx phase.Backing in' e = cc e
undone_phase tx phase.Committing in' e = absurd (late_not (late_left tx) stage.Undone refl e)
undone_phase tx (phase.Undoing c) in' e = undone_left tx c tx.undo.pending in' refl e

-- its next turn enters it
pub undone_stage : (d : Doing) → stage_of d ≡ stage.Undone → IsUndone d
undone_stage Idle e = cc e
undone_stage (Active tx) e = undone_phase tx tx.phase refl e
undone_stage Starved e = cc e
undone_stage (Ended end) e = cc e

-- ---- a job that goes on
live_there : (jobs : List Job) (at : ℕ) (o : Option Job) → slice_get jobs at ≡ o → lives o ≡ true
    → (job : Job) × (slice_get jobs at ≡ Some job) × (goes_on (stage_of (doing_of job)) ≡ true)
live_there jobs at None e is = cc is
live_there jobs at (Some job) e is = (job, e, is)

live_at_some : (jobs : List Job) (number : ℕ) (b : Bool) → (if b then false else lives (slice_get jobs (number - 1))) ≡ true
    → lives (slice_get jobs (number - 1)) ≡ true
live_at_some jobs number true is = cc is
live_at_some jobs number false is = is

-- it is there, and hasn't ended
pub record IsLive (jobs : List Job) (at : ℕ) (job : Job) : Type 0 where
  pub there : slice_get jobs at ≡ Some job
  pub lives : goes_on (stage_of (doing_of job)) ≡ true

-- the one of this number
pub live_shown : (jobs : List Job) (number : ℕ) (job : Job) → live_at jobs number ≡ true → job ≡ get_or jobs (number - 1) job → IsLive jobs (number - 1) job
live_shown jobs number job is value =
    let at = number - 1 in
    let found = live_there jobs at (slice_get jobs at) refl (live_at_some jobs number (number == 0) is) in
    let same : found.0 ≡ job = sym (get_or_from_slice_get jobs at found.0 job found.1) ∙ sym value in
    subst (IsLive jobs at) same (record { there = found.1; lives = found.2 })
