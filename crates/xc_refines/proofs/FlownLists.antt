-- The active transactions of jobs in flight, in the jobs' places.
use Rattle.std.proofs.Common.{◌≡◌, ◌≢◌, ℕ, zero, suc, List, [], ◌∷◌, length, Some, None, get_or, ap, sym, ◌∙◌, subst, refl}
use Rattle.std.specs.Prelude.{slice_get, slice_set}
use Rattle.xc_data.specs.declared.call.CallWithAnswer.{CallWithAnswer}
use Rattle.xc_data.specs.declared.private.Private.{Private}
use Rattle.xc_script.specs.declared.ask.Ask.{Ask}
use Rattle.xc_model.specs.declared.phase.Phase.{Phase}
use Rattle.xc_model.specs.Moment.{TxView, JobView, Doing, Idle, Active, Starved, Ended, active_in, active_of}
use Rattle.xc_flight.specs.Active.{Tx}
use Rattle.xc_refines.specs.InFlight.{IsUnnoted, flown, flown_in, flown_jobs}

-- ---- what isn't noted, by places: another list in one place
abbrev pub put_in : (ℕ → List CallWithAnswer) → ℕ → List CallWithAnswer → ℕ → List CallWithAnswer
put_in unnoted zero us zero = us
put_in unnoted zero us (suc j) = unnoted (suc j)
put_in unnoted (suc at) us zero = unnoted 0
put_in unnoted (suc at) us (suc j) = put_in (λ i. unnoted (suc i)) at us j

-- it stands there
pub put_here : (unnoted : ℕ → List CallWithAnswer) (at : ℕ) (us : List CallWithAnswer) → put_in unnoted at us at ≡ us
put_here unnoted zero us = refl
put_here unnoted (suc at) us = put_here (λ i. unnoted (suc i)) at us

-- the others stay
pub put_elsewhere : (unnoted : ℕ → List CallWithAnswer) (at j : ℕ) (us : List CallWithAnswer) → j ≢ at → put_in unnoted at us j ≡ unnoted j
put_elsewhere unnoted zero zero us ne = absurd (ne refl)
put_elsewhere unnoted zero (suc j) us ne = refl
put_elsewhere unnoted (suc at) zero us ne = refl
put_elsewhere unnoted (suc at) (suc j) us ne = put_elsewhere (λ i. unnoted (suc i)) at j us (λ e. ne (ap suc e))

-- where all is noted, whatever is asked
pub none_unnoted : (p : Phase) (next : Ask) (us : List CallWithAnswer) → us ≡ [] → IsUnnoted p next us
none_unnoted p next us none = subst (IsUnnoted p next) (sym none) tt

-- ---- a job in flight
-- one with no transaction has none in flight
pub none_flown : (me : Private) (us : List CallWithAnswer) (d : Doing) → active_in d ≡ None → flown_in me us d ≡ None
none_flown me us Idle e = refl
none_flown me us (Active tx) e = cc e
none_flown me us Starved e = refl
none_flown me us (Ended end) e = refl

-- what a job with an active transaction does
pub active_does : (d : Doing) (tx : TxView) → active_in d ≡ Some tx → d ≡ Active tx
active_does Idle tx e = cc e
active_does (Active u) tx e = let is : u ≡ tx = cc e in ap Active is
active_does Starved tx e = cc e
active_does (Ended end) tx e = cc e

-- ---- all jobs
pub flown-count : (unnoted : ℕ → List CallWithAnswer) (jobs : List JobView) → length (flown_jobs unnoted jobs) ≡ length jobs
flown-count unnoted [] = refl
flown-count unnoted (job ∷ jobs) = ap suc (flown-count (λ i. unnoted (suc i)) jobs)

-- what flies in a job's place
pub flown-at : (unnoted : ℕ → List CallWithAnswer) (jobs : List JobView) (at : ℕ) (job : JobView) → slice_get jobs at ≡ Some job
    → get_or (flown_jobs unnoted jobs) at None ≡ flown_in job.me (unnoted at) job.doing
flown-at unnoted [] at job e = cc e
flown-at unnoted (other ∷ jobs) zero job e =
    let is : other ≡ job = cc e in
    ap (λ (j : JobView). flown_in j.me (unnoted 0) j.doing) is
flown-at unnoted (other ∷ jobs) (suc at) job e = flown-at (λ i. unnoted (suc i)) jobs at job e

-- an active transaction flies there
pub flown_there : (unnoted : ℕ → List CallWithAnswer) (jobs : List JobView) (at : ℕ) (job : JobView) (tx : TxView) → slice_get jobs at ≡ Some job
    → job.doing ≡ Active tx → get_or (flown_jobs unnoted jobs) at None ≡ Some (flown job.me (unnoted at) tx)
flown_there unnoted jobs at job tx there is = flown-at unnoted jobs at job there ∙ ap (flown_in job.me (unnoted at)) is

-- a job is put
pub flown-put : (unnoted : ℕ → List CallWithAnswer) (jobs : List JobView) (at : ℕ) (us : List CallWithAnswer) (job : JobView)
    → flown_jobs (put_in unnoted at us) (slice_set jobs at job) ≡ slice_set (flown_jobs unnoted jobs) at (flown_in job.me us job.doing)
flown-put unnoted [] at us job = refl
flown-put unnoted (other ∷ jobs) zero us job = refl
flown-put unnoted (other ∷ jobs) (suc at) us job =
    ap (λ os. flown_in other.me (unnoted 0) other.doing ∷ os) (flown-put (λ i. unnoted (suc i)) jobs at us job)

-- one that flies as before is put
pub flown-put_same : (unnoted : ℕ → List CallWithAnswer) (jobs : List JobView) (at : ℕ) (us : List CallWithAnswer) (job job' : JobView)
    → slice_get jobs at ≡ Some job
    → flown_in job'.me us job'.doing ≡ flown_in job.me (unnoted at) job.doing
    → flown_jobs (put_in unnoted at us) (slice_set jobs at job') ≡ flown_jobs unnoted jobs
flown-put_same unnoted [] at us job job' e same = refl
flown-put_same unnoted (other ∷ jobs) zero us job job' e same =
    let is : job ≡ other = cc e in
    ap (λ o. o ∷ flown_jobs (λ i. unnoted (suc i)) jobs) (same ∙ ap (λ (j : JobView). flown_in j.me (unnoted 0) j.doing) is)
flown-put_same unnoted (other ∷ jobs) (suc at) us job job' e same =
    ap (λ os. flown_in other.me (unnoted 0) other.doing ∷ os) (flown-put_same (λ i. unnoted (suc i)) jobs at us job job' e same)

-- ---- what flies in a place is the active transaction of the job there
pub record IsFlownAt (unnoted : List CallWithAnswer) (jobs : List JobView) (at : ℕ) (t : Tx) : Type 0 where
  pub job : JobView
  pub tx : TxView
  pub there : slice_get jobs at ≡ Some job
  pub active : active_of job ≡ Some tx
  pub same : t ≡ flown job.me unnoted tx

some_flown : (t u : Tx) → Some t ≡ Some u → t ≡ u
some_flown t u e = cc e

flown_first : (us : List CallWithAnswer) (job : JobView) (jobs : List JobView) (t : Tx) (d : Doing) → job.doing ≡ d → flown_in job.me us d ≡ Some t
    → IsFlownAt us (job ∷ jobs) 0 t
flown_first us job jobs t Idle does e = cc e
flown_first us job jobs t (Active tx) does e =
    record { job = job; tx = tx; there = refl; active = ap active_in does; same = sym (some_flown (flown job.me us tx) t e) }
flown_first us job jobs t Starved does e = cc e
flown_first us job jobs t (Ended end) does e = cc e

-- whatever flies in a place
pub flown_back : (unnoted : ℕ → List CallWithAnswer) (jobs : List JobView) (at : ℕ) (t : Tx) → get_or (flown_jobs unnoted jobs) at None ≡ Some t
    → IsFlownAt (unnoted at) jobs at t
flown_back unnoted [] at t e = cc e
flown_back unnoted (job ∷ jobs) zero t e = flown_first (unnoted 0) job jobs t job.doing refl e
flown_back unnoted (job ∷ jobs) (suc at) t e =
    let f = flown_back (λ i. unnoted (suc i)) jobs at t e in
    record { job = f.job; tx = f.tx; there = f.there; active = f.active; same = f.same }
