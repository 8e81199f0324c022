-- The names of jobs.
use Rattle.std.specs.Prelude.{◌≡◌, ℕ, ◌==◌, ◌-◌, List, map, slice_get, if◌then◌else◌, Option}
use Rattle.std.specs.declared.option.Option.TheVariants.{None, Some}
use Rattle.xc_data.specs.declared.entry.Entry.{Entry}
use Rattle.xc_text.specs.declared.script.Script.{Script}
use Rattle.xc_model.specs.Progress.{Following, progress_of}

-- the block of the job of this number, where one was started
abbrev pub block_name_at : List (List ℕ) → ℕ → Option (List ℕ)
block_name_at started job = if job == 0 then None else slice_get started (job - 1)

-- the blocks of the jobs that a journal tells, in the order of their numbers
abbrev pub told_blocks : Script → List Entry → List (List ℕ)
told_blocks script journal = map (λ (f : Following). f.block) (progress_of script journal).jobs

-- this is the block of the job of this number, as a journal tells it, which tells of such a job
pub record IsNameOf (script : Script) (journal : List Entry) (job : ℕ) (name : Option (List ℕ)) : Type 0 where
  pub block : List ℕ
  pub is : name ≡ Some block
  pub told : block_name_at (told_blocks script journal) job ≡ Some block
