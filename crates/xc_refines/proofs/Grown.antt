-- Jobs that come after those of a station in flight: they have no transactions.
use Rattle.std.proofs.Common.{◌≡◌, ℕ, zero, suc, List, [], ◌∷◌, ◌++◌, length, get_or, map, Option, Some, None, refl, ap, ap₂, sym, ◌∙◌, subst}
use Rattle.std.proofs.Common.{append-nil, append_assoc}
use Rattle.std.specs.Prelude.{replicate, slice_get}
use Rattle.xc_data.specs.declared.call.CallWithAnswer.{CallWithAnswer}
use Rattle.xc_data.specs.declared.private.Place.{Place as Handle}
use Rattle.xc_text.specs.declared.script.Script.{Script}
use Rattle.std.specs.List.{cons_option}
use Rattle.std.proofs.lemmas.List.Elements.{filter_map-append}
use Rattle.xc_model.specs.Moment.{JobView, active_of, actives}
use Rattle.xc_model.specs.Entering.{started_job}
use Rattle.xc_flight.specs.Active.{Tx}
use Rattle.xc_flight.specs.State.{FlightState, InFlight, AreSound}
use Rattle.xc_flight.proofs.Laws.{one_job_more}
use Rattle.xc_refines.specs.InFlight.{flown_in, flown_jobs}
use Rattle.xc_refines.proofs.FlownLists.{none_flown}

-- it is idle, and has these handles
pub record IsNewJob (places : List Handle) (job : JobView) : Type 0 where
  pub none : active_of job ≡ None
  pub handles : job.me.places ≡ places

-- each of them
abbrev pub AreNewJobs : List Handle → List JobView → Type 0
AreNewJobs places [] = Unit {0}
AreNewJobs places (job ∷ more) = IsNewJob places job × AreNewJobs places more

new_at : (places : List Handle) (more : List JobView) → AreNewJobs places more → (j : ℕ) (job : JobView) → slice_get more j ≡ Some job → IsNewJob places job
new_at places [] new j job e = cc e
new_at places (x ∷ more) new zero job e = let is : x ≡ job = cc e in subst (IsNewJob places) is new.0
new_at places (x ∷ more) new (suc j) job e = new_at places more new.1 j job e

-- what is true of the jobs in front and of new ones is true of all
pub grown_cases : (places : List Handle) (jobs more : List JobView) (P : ℕ → JobView → Type 0) → AreNewJobs places more
    → ((j : ℕ) (job : JobView) → slice_get jobs j ≡ Some job → P j job) → ((j : ℕ) (job : JobView) → IsNewJob places job → P j job)
    → (j : ℕ) (job : JobView) → slice_get (jobs ++ more) j ≡ Some job → P j job
grown_cases places [] more P are front new j job e = new j job (new_at places more are j job e)
grown_cases places (x ∷ jobs) more P are front new zero job e = front 0 job e
grown_cases places (x ∷ jobs) more P are front new (suc j) job e =
    grown_cases places jobs more (λ i other. P (suc i) other) are (λ i other at. front (suc i) other at) (λ i other is. new (suc i) other is) j job e

-- ---- nothing flies in their places
abbrev nones : List JobView → List (Option Tx)
nones [] = []
nones (job ∷ more) = None ∷ nones more

new_flown : (places : List Handle) (unnoted : ℕ → List CallWithAnswer) (more : List JobView) → AreNewJobs places more → flown_jobs unnoted more ≡ nones more
new_flown places unnoted [] new = refl
new_flown places unnoted (job ∷ more) new =
    ap₂ (λ o os. o ∷ os) (none_flown job.me (unnoted 0) job.doing new.0.none) (new_flown places (λ i. unnoted (suc i)) more new.1)

grown_flown : (places : List Handle) (unnoted : ℕ → List CallWithAnswer) (jobs more : List JobView) → AreNewJobs places more
    → flown_jobs unnoted (jobs ++ more) ≡ flown_jobs unnoted jobs ++ nones more
grown_flown places unnoted [] more new = new_flown places unnoted more new
grown_flown places unnoted (job ∷ jobs) more new =
    ap (λ os. flown_in job.me (unnoted 0) job.doing ∷ os) (grown_flown places (λ i. unnoted (suc i)) jobs more new)

joins : (s : FlightState) (more : List JobView) → InFlight s → InFlight (record s { active = s.active ++ nones more })
joins s [] h = subst (λ active. InFlight (record s { active = active })) (sym (append-nil s.active)) h
joins s (job ∷ more) h =
    subst (λ active. InFlight (record s { active = active })) (append_assoc s.active (None ∷ []) (nones more))
    (joins (record s { active = s.active ++ None ∷ [] }) more (one_job_more s h))

get_nones : (more : List JobView) (j : ℕ) → get_or (nones more) j None ≡ None
get_nones [] j = refl
get_nones (job ∷ more) zero = refl
get_nones (job ∷ more) (suc j) = get_nones more j

get_joined : (active : List (Option Tx)) (more : List JobView) (j : ℕ) → get_or (active ++ nones more) j None ≡ get_or active j None
get_joined [] more j = get_nones more j
get_joined (x ∷ active) more zero = refl
get_joined (x ∷ active) more (suc j) = get_joined active more j

-- all go on
module _ (places : List Handle) (s : FlightState) (unnoted : ℕ → List CallWithAnswer) (jobs more : List JobView) (new : AreNewJobs places more) where
  pub grown_flies : InFlight (record s { active = flown_jobs unnoted jobs }) → InFlight (record s { active = flown_jobs unnoted (jobs ++ more) })
  grown_flies h =
      subst (λ active. InFlight (record s { active = active })) (sym (grown_flown places unnoted jobs more new))
      (joins (record s { active = flown_jobs unnoted jobs }) more h)

  pub grown_sound : AreSound (record s { active = flown_jobs unnoted jobs }) → AreSound (record s { active = flown_jobs unnoted (jobs ++ more) })
  grown_sound h =
      subst (λ active. AreSound (record s { active = active })) (sym (grown_flown places unnoted jobs more new))
      (λ j t e. h j t (sym (get_joined (flown_jobs unnoted jobs) more j) ∙ e))

-- ---- jobs that were started
pub started_new : (script : Script) (starter : JobView) (blocks : List (List ℕ)) → AreNewJobs starter.me.places (map (started_job script starter) blocks)
started_new script starter [] = tt
started_new script starter (block ∷ blocks) = (record { none = refl; handles = refl }, started_new script starter blocks)

-- their handles
pub started_handles : (script : Script) (starter : JobView) (blocks : List (List ℕ))
    → replicate (length blocks) starter.me.places ≡ map (λ (job : JobView). job.me.places) (map (started_job script starter) blocks)
started_handles script starter [] = refl
started_handles script starter (block ∷ blocks) = ap (λ hs. starter.me.places ∷ hs) (started_handles script starter blocks)

-- and their blocks
pub started_their_blocks : (script : Script) (starter : JobView) (blocks : List (List ℕ))
    → blocks ≡ map (λ (job : JobView). job.block) (map (started_job script starter) blocks)
started_their_blocks script starter [] = refl
started_their_blocks script starter (block ∷ blocks) = ap (λ bs. block ∷ bs) (started_their_blocks script starter blocks)

-- ---- as many are active
new_actives : (places : List Handle) (more : List JobView) → AreNewJobs places more → actives more ≡ []
new_actives places [] new = refl
new_actives places (job ∷ more) new = ap (λ o. cons_option o (actives more)) new.0.none ∙ new_actives places more new.1

-- jobs that are new after others add no active transaction
pub idle_actives : (places : List Handle) (jobs more : List JobView) → AreNewJobs places more → actives (jobs ++ more) ≡ actives jobs
idle_actives places jobs more new =
    filter_map-append active_of jobs more ∙ ap (λ ts. actives jobs ++ ts) (new_actives places more new) ∙ append-nil (actives jobs)
