-- A poll of all tasks: each is polled, and then jobs are asked for.
use Rattle.std.specs.Prelude.{◌≡◌, ◌+◌, ◌⊎◌, Bool, true, false, List, [], ◌∷◌, ◌++◌, Contains, Option}
use Rattle.std.specs.declared.option.Option.TheVariants.{None, Some}
use Rattle.std.specs.List.{AllZip, list_all}
use Rattle.futures.specs.declared.task.Poll.{Poll}
use Rattle.futures.specs.Poll.{IfReady, OnPending}
use Rattle.xc_data.specs.declared.entry.Event.{Event}
use Rattle.xc_data.specs.declared.entry.Event.TheVariants.{Picked, Turned}
use Rattle.xc_data.specs.declared.entry.JobEnd.{JobEnd}
use Rattle.xc_data.specs.declared.entry.Turn.{Turn}
use Rattle.xc_station.specs.Passes.{StationPass}
use Rattle.xc_poll.specs.Askings.{AreAsked, TellsAsked}
use Rattle.xc_poll.specs.Crews.{Crew, IsGathered, Rise, jobs_of}
use Rattle.xc_poll.specs.Polls.{IsPolled}
use Rattle.xc_poll.specs.Tasks.{Task}
use Rattle.xc_poll.specs.declared.asking.Asked.{Asked}
use Rattle.xc_poll.specs.declared.asking.Asked.TheVariants as asked

-- ---- the polls of a round
-- one poll of a task
abbrev pub IsPolledOnce : Task → Task → Type 0
IsPolledOnce old new = (result : Poll (Option JobEnd)) × IsPolled old new result

-- one of each, in their order
abbrev pub ArePolled : List Task → List Task → Type 0
ArePolled old new = AllZip IsPolledOnce old new

-- its pass has gained a turn, or has found another inside, unless it has answered Ready
abbrev pub HasMoved : Task → Task → Type 0
HasMoved old new =
    (new.ready ≡ true) ⊎ ((new.pass.view.lost ≡ old.pass.view.lost + 1)
    ⊎ ((answer : Option Turn) × (more : List Event) × (new.pass.view.events ≡ old.pass.view.events ++ Turned old.job answer ∷ more)))

-- R holds of each item of the first list and of the one at its place in the second, which may be longer
abbrev pub AllFront : {A B : Type 0} → (A → B → Type 0) → List A → List B → Type 0
AllFront R [] ys = Unit {0}
AllFront R (x ∷ xs) [] = ⊥
AllFront R (x ∷ xs) (y ∷ ys) = R x y × AllFront R xs ys

-- ---- a round
-- each task is polled, and then jobs are asked for
pub record IsRoundOfAll (old new : Crew) (last : Asked) : Type 0 where
  pub polled : List Task
  pub polls : ArePolled old.tasks polled
  pub asks : AreAsked (record old { tasks = polled }) new last

-- every task has answered Ready, and no job was left at the last asking
abbrev pub is_crew_over : Crew → Asked → Bool
is_crew_over crew (asked.Held word) = false
is_crew_over crew (asked.Job job) = false
is_crew_over crew asked.Nothing = list_all (λ (task : Task). task.ready) crew.tasks

-- ---- a poll
-- one poll is a round. It is Ready exactly where the round is over, with one pass of all that are left, and Pending exactly where it isn't
pub record IsAllPolled (old : Crew) (new : Option Crew) (result : Poll StationPass) : Type 0 where
  -- what the round leaves, and what its last asking was answered
  pub left : Crew
  pub last : Asked
  pub round : IsRoundOfAll old left last
  -- the pass that asks tells this answer; the tasks stand in rising job number; and each that was there has moved
  pub told : TellsAsked old.asking left.asking last
  pub rise : Rise 0 (jobs_of left.tasks) left.top
  pub moved : AllFront HasMoved old.tasks left.tasks
  pub given : IfReady result (λ back. (is_crew_over left last ≡ true) × IsGathered left back × Contains back.view.events (Picked None)
      × (new ≡ None))
  pub waits : OnPending result ((is_crew_over left last ≡ false) × (new ≡ Some left))

-- what a poll that is ready gives: one pass that goes on from the one that asks, with all shares, and that knows that no job was left
abbrev pub GivesAll : Crew → StationPass → Type 0
GivesAll crew back = IsGathered crew back × Contains back.view.events (Picked None)
