-- What is true of a station between two turns stays so where a client hands something in.
use Rattle.std.proofs.Common.{◌≡◌, ℕ, zero, suc, List, [], ◌∷◌, refl, ap, sym, ◌∙◌}
use Rattle.std.proofs.lemmas.Option.{get_or_from_slice_get}
use Rattle.std.specs.Prelude.{get_or, slice_get, slice_set}
use Rattle.std.specs.declared.option.Option.TheVariants.{Some}
use Rattle.xc_data.specs.declared.entry.Entry.{Entry}
use Rattle.xc_host.specs.Model.{HostModel}
use Rattle.xc_script.specs.declared.ask.Ask.{Ask}
use Rattle.xc_model.specs.HandedIn.{IsHandedIn, MayHandIn, handing}
use Rattle.xc_model.specs.Moment.{JobView, Moment, with_job}
use Rattle.xc_model.specs.Setting.{Setting}
use Rattle.xc_station.specs.Jobs.{job_view, job_views}
use Rattle.xc_station.specs.Stations.{IsSteady, moment}
use Rattle.xc_station.specs.declared.calls.Shared.{Shared}
use Rattle.xc_station.specs.declared.job.Job.{Job}
use Rattle.xc_data.proofs.Laws.{get_map, map_set}
use Rattle.xc_turns.proofs.Laws.{handed_consistent}
use Rattle.xc_refines.proofs.Laws.{handed_flies}

-- what a client hands in keeps what is true of a station between two turns
pub what_is_handed_in_keeps_it_steady : (s : Setting) (faults at : ℕ) (asked : Ask) (old new : Moment) → IsHandedIn s at asked old new → IsSteady s faults old
    → IsSteady s faults new
what_is_handed_in_keeps_it_steady s faults at asked old new is steady = record {
  set = steady.set;
  kept = handed_consistent s faults at asked old new is steady.kept;
  flying = λ tells. handed_flies s at asked old new is (steady.flying tells);
}

-- ---- the job there
pub job_there : (jobs : List Job) (at : ℕ) (view : JobView) → slice_get (job_views jobs) at ≡ Some view → (job : Job) × (slice_get jobs at ≡ Some job)
job_there [] at view e = cc e
job_there (job ∷ jobs) zero view e = (job, refl)
job_there (job ∷ jobs) (suc at) view e = job_there jobs at view e

-- it is the one that is lent there
pub stands_lent : (jobs : List Job) (at : ℕ) (was : Job) (view : JobView) → slice_get (job_views jobs) at ≡ Some view → was ≡ get_or jobs at was
    → slice_get jobs at ≡ Some was
stands_lent jobs at was view e value =
    let f = job_there jobs at view e in
    let same : f.0 ≡ was = sym (get_or_from_slice_get jobs at f.0 was f.1) ∙ sym value in
    f.1 ∙ ap Some same

-- and it is seen so
pub same_job : (jobs : List Job) (at : ℕ) (was : Job) (view : JobView) → slice_get (job_views jobs) at ≡ Some view → slice_get jobs at ≡ Some was
    → view ≡ job_view was
same_job jobs at was view e stands = let there = get_map job_view jobs at was stands in cc (e, there)

-- the job with this handed in
abbrev pub with_handed : Job → Ask → Job
with_handed job asked = record job { handed = Some asked }

module _ {H : Type 0} (model : HostModel H) (shared : Shared H) (journal : List Entry) (jobs : List Job) (at : ℕ) (was : Job) (asked : Ask)
    (stands : slice_get jobs at ≡ Some was) where
  -- it is what is handed in
  pub handed_in_there : (s : Setting) → MayHandIn s at asked (moment model shared journal jobs)
      → IsHandedIn s at asked (moment model shared journal jobs) (moment model shared journal (slice_set jobs at (with_handed was asked)))
  handed_in_there s may =
      let there = get_map job_view jobs at was stands in
      let one : may.job ≡ job_view was = cc (may.is, there) in
      record {
        clients = may.clients;
        job = may.job;
        is = may.is;
        none = may.none;
        may = may.may;
        behind = (λ i. record (moment model shared journal jobs) { jobs = map_set job_view jobs at (with_handed was asked) i })
            ∙ ap (λ (j : JobView). with_job (moment model shared journal jobs) at (handing j asked)) (sym one);
      }
