-- The order of a worker's events: it picks a job, takes its turns to the end, and picks again, until none is left.
use Rattle.std.specs.Prelude.{◌≡◌, ◌==◌, ◌+◌, ℕ, Bool, true, false, List, [], ◌∷◌, ◌++◌, Option, Contains, length, if◌then◌else◌}
use Rattle.std.specs.declared.option.Option.TheVariants.{None, Some}
use Rattle.xc_data.specs.declared.entry.Event.{Event}
use Rattle.xc_data.specs.declared.entry.Event.TheVariants.{Turned, Picked, Looked}
use Rattle.xc_data.specs.declared.entry.Turn.{Turn}
use Rattle.xc_data.specs.declared.entry.Turn.TheVariants as turn
use Rattle.xc_station.specs.Passes.{StationPass}

-- where a worker stands: it picks a job next, or takes turns of this job, or is done; none of them comes to be astray
pub data Stage : Type 0 where
  picking : Stage
  turning : ℕ → Stage
  over : Stage
  astray : Stage

-- whether this answer is a job's last: the job has ended, or doesn't go on
abbrev pub is_last : Option Turn → Bool
is_last None = true
is_last (Some turn.Went) = false
is_last (Some (turn.Busy object holder)) = false
is_last (Some turn.NoMemory) = false
is_last (Some (turn.Ended end)) = true

-- after a pick a worker takes turns of the job that it got, or is done
abbrev pub picked : Option ℕ → Stage
picked None = over
picked (Some job) = turning job

-- where an event leads a worker that picks next: nothing but a pick is right
abbrev pub from_picking : Event → Stage
from_picking (Picked job) = picked job
from_picking (Turned job answer) = astray
from_picking (Looked length) = astray

-- where an event leads a worker that takes turns of this job: nothing but a turn of the job is right, and it picks after the last
abbrev pub from_turning : ℕ → Event → Stage
from_turning job (Turned other answer) = if job == other then (if is_last answer then picking else turning job) else astray
from_turning job (Picked next) = astray
from_turning job (Looked length) = astray

-- where one event leads a worker: one that is done has no event
abbrev pub walk : Stage → Event → Stage
walk picking e = from_picking e
walk (turning job) e = from_turning job e
walk over e = astray
walk astray e = astray

-- where events lead a worker, one after another
abbrev pub walk_all : Stage → List Event → Stage
walk_all s [] = s
walk_all s (e ∷ es) = walk_all (walk s e) es

-- the pass gained events, one at each entering, and they lead a worker from one stage to the other
pub record Leads (from : Stage) (old new : StationPass) (to : Stage) : Type 0 where
  pub gained : List Event
  pub events : new.view.events ≡ old.view.events ++ gained
  pub won : new.view.won ≡ old.view.won + length gained
  pub leads : walk_all from gained ≡ to

-- the pass gained events, and somebody found no job left: a pick with none is among them
pub record FindsNoneLeft (old new : StationPass) : Type 0 where
  pub gained : List Event
  pub events : new.view.events ≡ old.view.events ++ gained
  pub found : Contains gained (Picked None)
