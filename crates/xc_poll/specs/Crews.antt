-- The pass that asks for jobs, and the tasks of those that were taken in, as contracts see them.
use Rattle.std.specs.Prelude.{◌≡◌, ℕ, ◌+◌, ◌^◌, ◌<◌, ◌≤◌, List, [], ◌∷◌, ◌++◌, map, All}
use Rattle.std.specs.List.{sum_by}
use Rattle.atomic_table.specs.Seated.{TableId}
use Rattle.xc_data.specs.declared.entry.Event.{Event}
use Rattle.xc_station.specs.Passes.{StationPass}
use Rattle.xc_turnstile.specs.Views.{BeginsWith}
use Rattle.xc_poll.specs.Tasks.{Task}

-- its turnstile, the pass that asks, the tasks, a number that no job of them is above, and how many turns a poll of each takes
pub record Crew : Type 0 where
  pub home : TableId
  pub asking : StationPass
  pub tasks : List Task
  pub top : ℕ
  pub share : ℕ

-- the shares of the tasks' passes
abbrev pub shares_of : List Task → ℕ
shares_of tasks = sum_by (λ (task : Task). task.pass.view.shares) tasks

-- the shares of all passes
abbrev pub all_shares : Crew → ℕ
all_shares crew = crew.asking.view.shares + shares_of crew.tasks

-- the numbers of the tasks' jobs, in their order
abbrev pub jobs_of : List Task → List ℕ
jobs_of tasks = map (λ (task : Task). task.job) tasks

-- the numbers rise, from above the first bound up to the second
abbrev pub Rise : ℕ → List ℕ → ℕ → Type 0
Rise low [] high = low ≤ high
Rise low (n ∷ ns) high = (low < n) × Rise n ns high

-- what is true of a crew between two polls
pub record IsCrewSound (crew : Crew) : Type 0 where
  pub table : crew.asking.table ≡ crew.home
  pub homes : All (λ (task : Task). task.home ≡ crew.home) crew.tasks
  pub rise : Rise 0 (jobs_of crew.tasks) crew.top
  pub share : 1 ≤ crew.share
  pub few : all_shares crew < 2 ^ 64

-- the second list is a front of the first
abbrev pub BeginsWithEvents : List Event → List Event → Type 0
BeginsWithEvents whole front = (more : List Event) × (whole ≡ front ++ more)

-- one pass of those of a crew: it has their shares, and goes on from the one that asks
pub record IsGathered (crew : Crew) (back : StationPass) : Type 0 where
  pub table : back.table ≡ crew.asking.table
  pub shares : back.view.shares ≡ all_shares crew
  pub origin : back.view.origin ≡ crew.asking.view.origin
  pub seen : BeginsWith back.view.seen crew.asking.view.seen
  pub own_events : BeginsWithEvents back.view.events crew.asking.view.events
