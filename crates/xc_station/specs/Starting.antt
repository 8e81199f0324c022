-- What a thread call of a committing transaction leaves of its job.
use Rattle.std.specs.Prelude.{◌≡◌, ℕ, ◌++◌, List, [], ◌∷◌}
use Rattle.xc_data.specs.declared.call.LateEnd.{LateEnd}
use Rattle.xc_data.specs.declared.call.LateEnd.TheVariants as end
use Rattle.xc_model.specs.Entering.{behind_commit, started_job}
use Rattle.xc_model.specs.Moment.{TxView, Active}
use Rattle.xc_text.specs.declared.script.Script.{Script}
use Rattle.xc_station.specs.declared.job.Child.{Child}
use Rattle.xc_station.specs.declared.job.Job.{Job}
use Rattle.xc_station.specs.Jobs.{child_view, job_view}

-- the children with those of an end: one more where a job was started, as it will be from the entry on
abbrev pub StartsChild : Script → Job → List ℕ → LateEnd → List Child → Type 0
StartsChild script job block end.Done children =
    (child : Child) × (children ≡ job.children.items ++ child ∷ [])
    × ((tx : TxView) → (job_view job).doing ≡ Active tx → child_view child ≡ started_job script (behind_commit (job_view job) tx) block)
-- with any other end none was started
StartsChild script job block _ children = children ≡ job.children.items
