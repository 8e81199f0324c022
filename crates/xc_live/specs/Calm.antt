-- What is true of a desk between two calls: no client is half-way.
use Rattle.std.specs.Prelude.{◌≡◌, ◌≢◌, ℕ, true, slice_get}
use Rattle.std.specs.declared.option.Option.TheVariants.{None, Some}
use Rattle.xc_model.specs.declared.phase.Phase.TheVariants.{Running}
use Rattle.xc_model.specs.Live.{has_clients}
use Rattle.xc_model.specs.Moment.{JobView, Doing, Idle, Active, Starved, Ended, Moment}
use Rattle.xc_model.specs.Setting.{Setting}

-- a client has no transaction, or one that runs, or has ended
abbrev pub IsCalm : Doing → Type 0
IsCalm Idle = Unit {0}
IsCalm (Active tx) = tx.phase ≡ Running
IsCalm (Ended end) = Unit {0}
-- after a want of memory it takes one turn more before the call that met it answers
IsCalm Starved = ⊥

-- and it has handed in nothing
pub record IsCalmJob (job : JobView) : Type 0 where
  pub none : job.handed ≡ None
  pub calm : IsCalm job.doing

-- so it is of each client but the one in this place; and no transaction is marked
pub record AreCalmBut (at : ℕ) (now : Moment) : Type 0 where
  pub others : (other : ℕ) (job : JobView) → other ≢ at → slice_get now.jobs other ≡ Some job → IsCalmJob job
  pub unmarked : (number : ℕ) → now.marks number ≡ None

-- so it is of all clients of a desk
pub record IsDesk (s : Setting) (now : Moment) : Type 0 where
  pub clients : has_clients s.script ≡ true
  pub calm : (at : ℕ) (job : JobView) → slice_get now.jobs at ≡ Some job → IsCalmJob job
  pub unmarked : (number : ℕ) → now.marks number ≡ None
