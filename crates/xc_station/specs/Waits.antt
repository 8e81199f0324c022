-- What a turn says of waiting.
use Rattle.std.specs.Prelude.{◌≡◌, ◌≢◌, ◌⊎◌, ℕ, ◌+◌, ◌<◌, length, slice_get}
use Rattle.std.specs.declared.option.Option.TheVariants.{Some}
use Rattle.xc_data.specs.declared.entry.Mark.{Mark}
use Rattle.xc_data.specs.declared.entry.Turn.{Turn}
use Rattle.xc_data.specs.declared.entry.Turn.TheVariants as turn
use Rattle.xc_data.specs.declared.object.Object.{Object}
use Rattle.xc_model.specs.Setting.{Setting}
use Rattle.xc_model.specs.Moment.{JobView, Moment}
use Rattle.xc_model.specs.Waiting.{CountsOn, IsMarkedBy, MayWait}

-- who waits, how a job's waits are counted, and who is marked
pub record IsFairWait (s : Setting) (at : ℕ) (old : Moment) (answer : Turn) (new : Moment) : Type 0 where
  -- told to wait is a job whose last attempt this transaction ended, or an older one for a younger holder
  pub waits : (object : Object) (number : ℕ) → answer ≡ turn.Busy object number → MayWait s at old object number
  -- that raises the job's count by one
  pub counts : (object : Object) (number : ℕ) → answer ≡ turn.Busy object number
      → (job is : JobView) → slice_get old.jobs at ≡ Some job → slice_get new.jobs at ≡ Some is → is.busy ≡ job.busy + 1
  -- after another answer the count is as before, or 0 where a transaction began or entered
  pub kept : ((object : Object) (number : ℕ) → answer ≢ turn.Busy object number)
      → (job is : JobView) → slice_get old.jobs at ≡ Some job → slice_get new.jobs at ≡ Some is → CountsOn job is
  -- the counts of all other jobs stay
  pub others : (j : ℕ) → j ≢ at → j < length old.jobs → slice_get new.jobs j ≡ slice_get old.jobs j
  -- a mark is an old one, or was made by an older transaction that waits in this very turn
  pub marks : (number : ℕ) (m : Mark) → new.marks number ≡ Some m → (old.marks number ≡ Some m) ⊎ IsMarkedBy at old answer number m
