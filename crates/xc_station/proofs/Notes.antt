-- What was taken from pipes and pairs, with another job in one place.
use Rattle.std.proofs.Common.{◌≡◌, ◌≢◌, ℕ, zero, suc, ◌+◌, ◌≤◌, List, [], ◌∷◌, ap, sym, ◌∙◌, subst, arith}
use Rattle.std.specs.Prelude.{All, slice_get, slice_set}
use Rattle.std.specs.declared.option.Option.TheVariants.{None, Some}
use Rattle.std.proofs.lemmas.List.Elements.{All-weaker}
use Rattle.std.proofs.lemmas.List.Sums.{sum_by-cons}
use mathlib.Core.Logic.{dite}
use native.Mathlib.Decide.{ℕ_discrete}
use Rattle.xc_data.specs.declared.entry.KeptItem.{KeptItem}
use Rattle.xc_data.specs.declared.entry.KeptItem.TheVariants.{Bytes, Message}
use Rattle.xc_host.specs.Contents.{Contents}
use Rattle.xc_model.specs.Moment.{TxView, JobView, active_of}
use Rattle.xc_model.specs.Movers.{IsActiveAt}
use Rattle.xc_host.specs.Kept.{KeepsData}
use Rattle.xc_station.specs.Lent.{AreBacked, IsBacked, notes_in, notes_in_all, notes_of}
use Rattle.xc_station.specs.declared.job.Job.{Job}
use Rattle.xc_station.specs.Jobs.{job_view, job_views}
use Rattle.xc_turns.proofs.Laws.{active_before, active_is}
use Rattle.xc_data.proofs.Laws.{get_map, map_set}
use Rattle.xc_host.proofs.Laws.{data_keeps_itself}

-- ---- how much is noted
-- the notes of one job go, and those of another come
pub notes_set : (jobs : List JobView) (at : ℕ) (job' job : JobView) → slice_get jobs at ≡ Some job
    → notes_in_all (slice_set jobs at job') + notes_of job ≡ notes_in_all jobs + notes_of job'
notes_set [] at job' job stands = cc stands
notes_set (j ∷ jobs) zero job' job stands =
    let same : notes_of j ≡ notes_of job = (let one : j ≡ job = cc stands in ap notes_of one) in
    let a = sum_by-cons notes_of job' jobs in
    let b = sum_by-cons notes_of j jobs in
    omega (arith, same, a, b)
notes_set (j ∷ jobs) (suc at) job' job stands =
    let more = notes_set jobs at job' job stands in
    let a = sum_by-cons notes_of j (slice_set jobs at job') in
    let b = sum_by-cons notes_of j jobs in
    omega (arith, more, a, b)

-- those of one job are among all
pub notes_within : (jobs : List JobView) (at : ℕ) (job : JobView) → slice_get jobs at ≡ Some job → notes_of job ≤ notes_in_all jobs
notes_within [] at job stands = cc stands
notes_within (j ∷ jobs) zero job stands =
    let same : notes_of j ≡ notes_of job = (let one : j ≡ job = cc stands in ap notes_of one) in
    let a = sum_by-cons notes_of j jobs in
    omega (arith, same, a)
notes_within (j ∷ jobs) (suc at) job stands =
    let more = notes_within jobs at job stands in
    let a = sum_by-cons notes_of j jobs in
    omega (arith, more, a)

-- a job without an active transaction has none
pub no_notes : (job : JobView) → active_of job ≡ None → notes_of job ≡ 0
no_notes job none = ap notes_in none

-- ---- what the host has of it
-- a host that keeps its pipes and pairs has what an item is of
pub still_backed : (c d : Contents) (items : List KeptItem) → KeepsData c d → All (IsBacked c) items → All (IsBacked d) items
still_backed c d items keeps backed = All-weaker (IsBacked c) (IsBacked d) each items backed
  where
    each : (item : KeptItem) → IsBacked c item → IsBacked d item
    each (Bytes num bytes) is = record { fit = is.fit; there = keeps.pipes num is.there }
    each (Message num side bytes) is = record { fit = is.fit; there = keeps.pairs num is.there }

-- with another job in one place, whose active transaction took what the host has
pub backed_set : (c d : Contents) (kept kept' : List KeptItem) (jobs : List JobView) (at : ℕ) (job job' : JobView) → slice_get jobs at ≡ Some job
    → KeepsData c d → All (IsBacked d) kept' → ((tx : TxView) → active_of job' ≡ Some tx → All (IsBacked d) tx.taken) → AreBacked c kept jobs
    → AreBacked d kept' (slice_set jobs at job')
backed_set c d kept kept' jobs at job job' stands keeps backed mine are =
    record {
      kept = backed;
      taken = λ j tx a. dite (ℕ_discrete j at)
          (λ (q : j ≡ at). mine tx (active_is jobs at job stands job' tx (subst (λ k. IsActiveAt (slice_set jobs at job') k tx) q a)))
          (λ (ne : j ≢ at). still_backed c d tx.taken keeps (are.taken j tx (active_before jobs at j job' tx ne a)));
    }

-- the same of the jobs of a station
pub backed_jobs : (c d : Contents) (kept kept' : List KeptItem) (jobs : List Job) (at : ℕ) (was job : Job) → slice_get jobs at ≡ Some was
    → KeepsData c d → All (IsBacked d) kept' → ((tx : TxView) → active_of (job_view job) ≡ Some tx → All (IsBacked d) tx.taken)
    → AreBacked c kept (job_views jobs) → AreBacked d kept' (job_views (slice_set jobs at job))
backed_jobs c d kept kept' jobs at was job stands keeps backed mine are =
    subst (AreBacked d kept') (sym (map_set job_view jobs at job))
    (backed_set c d kept kept' (job_views jobs) at (job_view was) (job_view job) (get_map job_view jobs at was stands) keeps backed mine are)

-- of a job that has no active transaction then
pub backed_without : (c : Contents) (kept kept' : List KeptItem) (jobs : List Job) (at : ℕ) (was job : Job) → slice_get jobs at ≡ Some was
    → All (IsBacked c) kept' → active_of (job_view job) ≡ None → AreBacked c kept (job_views jobs) → AreBacked c kept' (job_views (slice_set jobs at job))
backed_without c kept kept' jobs at was job stands backed none are =
    backed_jobs c c kept kept' jobs at was job stands (data_keeps_itself c) backed (λ tx is. let lacks : None ≡ Some tx = sym none ∙ is in cc lacks) are
