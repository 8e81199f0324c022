-- What is true between two turns of private checks, of handles and of the calls that the host got, over every host.
use Rattle.std.specs.Prelude.{◌≡◌, ℕ, ◌+◌, List, [], ◌∷◌, ◌++◌, Option, map, option_map, sum_by}
use Rattle.std.specs.declared.option.Option.TheVariants.{None, Some}
use Rattle.xc_data.specs.Counts.{RisesBy}
use Rattle.xc_data.specs.declared.entry.Entry.{Entry}
use Rattle.xc_data.specs.declared.private.Place.{Place}
use Rattle.xc_data.specs.declared.script.HostCallKind.{HostCallKind}
use Rattle.xc_host.specs.Cause.{times}
use Rattle.xc_script.specs.declared.ask.Ask.{Ask}
use Rattle.xc_model.specs.declared.phase.Phase.{Phase}
use Rattle.xc_model.specs.declared.phase.Phase.TheVariants.{Running, Committing, Undoing, Backing}
use Rattle.xc_model.specs.Called.{BacksMake, LatesMake, StopsBy}
use Rattle.xc_model.specs.Handles.{AtSave, Handled, HandlesCalls, AreHandled, handled_anew, opened_reach}
use Rattle.xc_model.specs.Moment.{TxView, SavedView, JobView, active_of}
use Rattle.xc_model.specs.Movers.{asked_at}
use Rattle.xc_model.specs.Setting.{Setting}

-- what a save keeps of handles and late calls
abbrev pub handles_at_save : SavedView → AtSave
handles_at_save kept = record { places = kept.places; late = kept.late }

-- where a transaction stands whose calls made these calls of the host
abbrev pub handled_in : TxView → List HostCallKind → Handled
handled_in tx made = record { me = tx.me; late = tx.late; saved = option_map handles_at_save tx.saved; made = made }

-- where memory ran out, the call that was asked made these
abbrev pub StopsIn : Phase → Ask → List HostCallKind → Type 0
StopsIn (Undoing c) last made = StopsBy c last made
StopsIn Running last made = made ≡ []
StopsIn Committing last made = made ≡ []
StopsIn Backing last made = made ≡ []

-- a job's active transaction made these calls of the host: its own calls lead from the job's handles to where it stands; then come
-- that at which memory ran out, the compensations that ended, and the late calls that did
pub record HasMade (s : Setting) (job : JobView) (tx : TxView) (made : List HostCallKind) : Type 0 where
  pub body : List HostCallKind
  pub stops : List HostCallKind
  pub backs : List HostCallKind
  pub lates : List HostCallKind
  pub calls : HandlesCalls tx.number tx.calls tx.replies (handled_anew job.me.places) (handled_in tx body)
  pub stopped : StopsIn tx.phase (asked_at s job) stops
  pub undone : BacksMake tx.undo.ended backs
  pub ended : LatesMake tx.late tx.ends lates
  pub all : made ≡ body ++ stops ++ backs ++ lates

-- without one it made none
abbrev pub MadeBy : Setting → JobView → Option TxView → List HostCallKind → Type 0
MadeBy s job None made = made ≡ []
MadeBy s job (Some tx) made = HasMade s job tx made

-- the same of each job
abbrev pub AreMade : Setting → List JobView → List (List HostCallKind) → Type 0
AreMade s [] mades = mades ≡ []
AreMade s (job ∷ jobs) [] = ⊥
AreMade s (job ∷ jobs) (made ∷ mades) = MadeBy s job (active_of job) made × AreMade s jobs mades

-- the handles of each job, with which its next transaction begins, or its active one began
abbrev pub places_of : List JobView → List (List Place)
places_of jobs = map (λ (job : JobView). job.me.places) jobs

-- the journal leads from the opening's handles to those of the jobs, and each active transaction from its job's on; the host was
-- called by them since its opening, as often as they say, and by nothing else; `lasts` has what was asked last, entry by entry
pub record HandlesAgree (s : Setting) (lasts : List Ask) (journal : List Entry) (jobs : List JobView)
    (calls : HostCallKind → ℕ) : Type 0 where
  pub entered : List HostCallKind
  pub entries : AreHandled (opened_reach s.script.outline) lasts journal
      (record { places = places_of jobs; made = entered })
  pub under_way : List (List HostCallKind)
  pub active : AreMade s jobs under_way
  pub called : (kind : HostCallKind) → RisesBy (times kind entered + sum_by (times kind) under_way) 0 (calls kind)
