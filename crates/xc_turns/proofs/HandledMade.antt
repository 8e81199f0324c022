-- Which calls of the host the active transactions of all jobs made, job by job.
use Rattle.std.proofs.Common.{◌≡◌, ℕ, zero, suc, Option, Some, None, List, [], ◌∷◌, ◌++◌, map, refl, ap, sym, subst, arith}
use Rattle.std.specs.Prelude.{slice_get, slice_set, sum_by}
use Rattle.std.proofs.lemmas.List.Sums.{sum_by-append, sum_by-cons}
use Rattle.xc_data.specs.declared.entry.JobLine.{JobLine}
use Rattle.xc_data.specs.declared.script.HostCallKind.{HostCallKind}
use Rattle.xc_host.specs.Cause.{times}
use Rattle.xc_model.specs.Setting.{Setting}
use Rattle.xc_model.specs.Consistent.{AreLinesOf, IsLineOf}
use Rattle.xc_model.specs.Handling.{AreMade, MadeBy}
use Rattle.xc_model.specs.Moment.{TxView, JobView, Doing, Idle, Active, Starved, Ended, active_in, active_of}
use Rattle.xc_model.specs.Opened.{opened_job}
use Rattle.xc_turns.proofs.Grown.{AreIdle}

-- those of one job
pub record MadeAt (s : Setting) (job : JobView) (mades : List (List HostCallKind)) (at : ℕ) : Type 0 where
  pub made : List HostCallKind
  pub there : slice_get mades at ≡ Some made
  pub by : MadeBy s job (active_of job) made

-- in its place
pub made_at : (s : Setting) (jobs : List JobView) (mades : List (List HostCallKind)) (at : ℕ) (job : JobView) → AreMade s jobs mades
    → slice_get jobs at ≡ Some job → MadeAt s job mades at
made_at s [] mades at job h stands = cc
made_at s (x ∷ jobs) [] at job h stands = absurd h
made_at s (x ∷ jobs) (made ∷ mades) zero job h stands =
    let same : x ≡ job = cc in
    record { made = made; there = refl; by = subst (λ (j : JobView). MadeBy s j (active_of j) made) same h.0 }
made_at s (x ∷ jobs) (made ∷ mades) (suc at) job h stands =
    let rest = made_at s jobs mades at job h.1 stands in
    record { made = rest.made; there = rest.there; by = rest.by }

-- another job in its place, which made others
pub made_set : (s : Setting) (jobs : List JobView) (mades : List (List HostCallKind)) (at : ℕ) (job job' : JobView) (made' : List HostCallKind)
    → AreMade s jobs mades → slice_get jobs at ≡ Some job → MadeBy s job' (active_of job') made'
    → AreMade s (slice_set jobs at job') (slice_set mades at made')
made_set s [] mades at job job' made' h stands by = cc
made_set s (x ∷ jobs) [] at job job' made' h stands by = absurd h
made_set s (x ∷ jobs) (made ∷ mades) zero job job' made' h stands by = (by, h.1)
made_set s (x ∷ jobs) (made ∷ mades) (suc at) job job' made' h stands by =
    (h.0, made_set s jobs mades at job job' made' h.1 stands by)

-- without an active transaction a job made none
pub idle_made : (s : Setting) (job : JobView) → active_of job ≡ None → MadeBy s job (active_of job) []
idle_made s job none = subst (λ (o : Option TxView). MadeBy s job o []) (sym none) refl

-- and so do jobs
abbrev pub no_mades : List JobView → List (List HostCallKind)
no_mades [] = []
no_mades (job ∷ more) = [] ∷ no_mades more

idle_mades : (s : Setting) (more : List JobView) → AreIdle more → AreMade s more (no_mades more)
idle_mades s [] idle = refl
idle_mades s (job ∷ more) idle = (idle_made s job idle.0, idle_mades s more idle.1)

-- more jobs, which have no transactions yet
pub made_grown : (s : Setting) (jobs : List JobView) (mades : List (List HostCallKind)) (more : List JobView) → AreMade s jobs mades → AreIdle more
    → AreMade s (jobs ++ more) (mades ++ no_mades more)
made_grown s [] mades more h idle =
    subst (λ (ms : List (List HostCallKind)). AreMade s more (ms ++ no_mades more)) (sym h) (idle_mades s more idle)
made_grown s (x ∷ jobs) [] more h idle = absurd h
made_grown s (x ∷ jobs) (made ∷ mades) more h idle = (h.0, made_grown s jobs mades more h.1 idle)

-- they count for nothing
no_times : (kind : HostCallKind) (more : List JobView) → sum_by (times kind) (no_mades more) ≡ 0
no_times kind [] = refl
no_times kind (job ∷ more) =
    let all = sum_by-cons (times kind) [] (no_mades more) in
    let first : times kind [] ≡ 0 = refl in
    let rest = no_times kind more in
    omega (arith, all, first, rest)

-- so with them the sum is as before
pub grown_times : (kind : HostCallKind) (mades : List (List HostCallKind)) (more : List JobView)
    → sum_by (times kind) (mades ++ no_mades more) ≡ sum_by (times kind) mades
grown_times kind mades more =
    let all = sum_by-append (times kind) mades (no_mades more) in
    let none = no_times kind more in
    omega (arith, all, none)

-- ---- at the begin and at the end
-- the jobs of a script before their first transactions
pub opened_made : (s : Setting) (names : List (List ℕ))
    → AreMade s (map (opened_job s.script) names) (no_mades (map (opened_job s.script) names))
opened_made s [] = refl
opened_made s (name ∷ names) = (refl, opened_made s names)

-- and they made none
pub opened_times : (kind : HostCallKind) (s : Setting) (names : List (List ℕ)) → sum_by (times kind) (no_mades (map (opened_job s.script) names)) ≡ 0
opened_times kind s names = no_times kind (map (opened_job s.script) names)

-- a job that has ended
line_made : (s : Setting) (line : JobLine) (job : JobView) (d : Doing) (made : List HostCallKind) → IsLineOf line job d → MadeBy s job (active_in d) made
    → made ≡ []
line_made s line job Idle made of h = absurd of
line_made s line job (Active tx) made of h = absurd of
line_made s line job Starved made of h = absurd of
line_made s line job (Ended end) made of h = h

-- jobs that have ended
pub ended_times : (kind : HostCallKind) (s : Setting) (jobs : List JobView) (lines : List JobLine) (mades : List (List HostCallKind)) → AreLinesOf jobs lines
    → AreMade s jobs mades → sum_by (times kind) mades ≡ 0
ended_times kind s [] lines mades are h = ap (sum_by (times kind)) h
ended_times kind s (job ∷ jobs) [] mades are h = absurd are
ended_times kind s (job ∷ jobs) (line ∷ lines) [] are h = absurd h
ended_times kind s (job ∷ jobs) (line ∷ lines) (made ∷ mades) are h =
    let none : times kind made ≡ 0 = ap (times kind) (line_made s line job job.doing made are.0 h.0) in
    let rest = ended_times kind s jobs lines mades are.1 h.1 in
    let all = sum_by-cons (times kind) made mades in
    omega (arith, none, rest, all)
