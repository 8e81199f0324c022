-- Lines of jobs that have ended.
use Rattle.std.proofs.Common.{◌≡◌, ◌<◌, ◌+◌, ℕ, List, [], ◌∷◌, ◌++◌, length, get_or, take, map, ap, sym, ◌∙◌, subst}
use Rattle.std.proofs.lemmas.Grind.{take_at_read}
use Rattle.std.proofs.lemmas.List.{map-append}
use Rattle.xc_data.specs.declared.entry.JobLine.{JobLine}
use Rattle.xc_model.specs.Consistent.{AreLinesOf, IsLineOf}
use Rattle.xc_model.specs.Moment.{JobView}
use Rattle.xc_station.specs.declared.job.Job.{Job}
use Rattle.xc_station.specs.Jobs.{job_view}

one_more : (jobs : List JobView) (lines : List JobLine) (job : JobView) (line : JobLine) → AreLinesOf jobs lines → IsLineOf line job job.doing
    → AreLinesOf (jobs ++ job ∷ []) (lines ++ line ∷ [])
one_more [] lines job line are is = subst (λ ls. AreLinesOf (job ∷ []) (ls ++ line ∷ [])) (sym are) (is, (λ i. []))
one_more (j ∷ jobs) [] job line are is = absurd are
one_more (j ∷ jobs) (l ∷ lines) job line are is = (are.0, one_more jobs lines job line are.1 is)

-- the next job's line after those of the jobs before it
pub next_line : (jobs : List Job) (lines : List JobLine) (at : ℕ) (job : Job) (line : JobLine) → at < length jobs → job ≡ get_or jobs at job
    → AreLinesOf (map job_view (take at jobs)) lines → IsLineOf line (job_view job) (job_view job).doing
    → AreLinesOf (map job_view (take (at + 1) jobs)) (lines ++ line ∷ [])
next_line jobs lines at job line lt here are is =
    let grown : map job_view (take at jobs) ++ job_view job ∷ [] ≡ map job_view (take (at + 1) jobs) =
    sym (map-append job_view (take at jobs) (job ∷ []))
    ∙ ap (λ j. map job_view (take at jobs ++ j ∷ [])) here ∙ ap (map job_view) (sym (take_at_read jobs at job lt).1) in
    subst (λ js. AreLinesOf js (lines ++ line ∷ [])) grown (one_more _ lines (job_view job) line are is)
