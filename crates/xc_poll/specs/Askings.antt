-- The askings of a round: jobs are handed out, and each that is taken in gets half of the pass with the most shares.
use Rattle.std.specs.Prelude.{◌≡◌, ℕ, ◌+◌, ◌<◌, ◌≤◌, ◌⊎◌, false, List, [], ◌∷◌, ◌++◌, length, get_or, map, All, Option, MatchOption}
use Rattle.std.specs.declared.option.Option.TheVariants.{None, Some}
use Rattle.xc_data.specs.declared.entry.Event.{Event}
use Rattle.xc_data.specs.declared.entry.Event.TheVariants.{Picked}
use Rattle.xc_runner.specs.Tries.{GainsOnce, IsHeldOff}
use Rattle.xc_runner.specs.declared.tries.Tried.{Tried}
use Rattle.xc_runner.specs.declared.tries.Tried.TheVariants.{Answered, Held}
use Rattle.xc_station.specs.Passes.{StationPass}
use Rattle.xc_turnstile.specs.Views.{given_half, kept_half}
use Rattle.xc_poll.specs.Crews.{Crew}
use Rattle.xc_poll.specs.Tasks.{Task}
use Rattle.xc_poll.specs.declared.asking.Asked.{Asked}
use Rattle.xc_poll.specs.declared.asking.Asked.TheVariants as asked

-- ---- one asking
-- another was inside; or a job was handed out; or none is left
abbrev pub HasAsked : StationPass → StationPass → Asked → Type 0
HasAsked old new (asked.Held word) = IsHeldOff old new word
HasAsked old new (asked.Job job) = GainsOnce old new (Picked (Some job))
HasAsked old new asked.Nothing = GainsOnce old new (Picked None)

-- what a step that doesn't wait says to one that asks
abbrev pub asked_from : Tried (Option ℕ) → Asked
asked_from (Answered (Some job)) = asked.Job job
asked_from (Answered None) = asked.Nothing
asked_from (Held word) = asked.Held word

-- ---- a pass for a job
-- half of a pass, which has two shares at least, is given away
pub record IsHalved (old kept given : StationPass) : Type 0 where
  pub enough : 2 ≤ old.view.shares
  pub kept_is : kept ≡ record old { view = kept_half old.view }
  pub given_is : given ≡ record old { view = given_half old.view }

-- no pass has more shares than so many
abbrev pub HaveAtMost : ℕ → StationPass → List Task → Type 0
HaveAtMost most asking tasks = (asking.view.shares ≤ most) × All (λ (task : Task). task.pass.view.shares ≤ most) tasks

-- the task at this place has so many shares
abbrev pub HasShares : List Task → ℕ → ℕ → Type 0
HasShares tasks shares at = (at < length tasks) × ((other : Task) → (get_or tasks at other).pass.view.shares ≡ shares)

-- no pass has more than so many, and one has as many: that of the task at this place, or without a place the one that asks
pub record IsMost (asking : ℕ) (tasks : List Task) (place : Option ℕ) (most : ℕ) : Type 0 where
  pub above : asking ≤ most
  pub below : All (λ (task : Task). task.pass.view.shares ≤ most) tasks
  pub at : MatchOption place (most ≡ asking) (HasShares tasks most)

-- half of the pass that asks is given away, and no pass has more shares
pub record PartsAsking (asking left : StationPass) (tasks rest : List Task) (given : StationPass) : Type 0 where
  pub halved : IsHalved asking left given
  pub most : HaveAtMost asking.view.shares asking tasks
  pub same : rest ≡ tasks

-- half of a task's pass is given away, and no pass has more shares
pub record PartsTask (asking left : StationPass) (tasks rest : List Task) (given : StationPass) : Type 0 where
  pub before : List Task
  pub task : Task
  pub behind : List Task
  pub kept : StationPass
  pub were : tasks ≡ before ++ task ∷ behind
  pub halved : IsHalved task.pass kept given
  pub most : HaveAtMost task.pass.view.shares asking tasks
  pub are : rest ≡ before ++ record task { pass = kept } ∷ behind
  pub same : left ≡ asking

-- half of a pass with the most shares is given away
abbrev pub PartsMost : StationPass → StationPass → List Task → List Task → StationPass → Type 0
PartsMost asking left tasks rest given = PartsAsking asking left tasks rest given ⊎ PartsTask asking left tasks rest given

-- ---- a job that was handed out
-- a task that hasn't been polled
abbrev pub task_for : ℕ → ℕ → StationPass → Task
task_for job share pass = record { home = pass.table; pass = pass; job = job; share = share; ready = false; why = None }

-- it is taken in
pub record TakesIn (old new : Crew) (job : ℕ) : Type 0 where
  pub above : old.top < job
  pub given : StationPass
  pub rest : List Task
  pub parts : PartsMost old.asking new.asking old.tasks rest given
  pub tasks : new.tasks ≡ rest ++ task_for job old.share given ∷ []
  pub top : new.top ≡ job
  pub same : (new.home ≡ old.home) × (new.share ≡ old.share)

-- or it is left
abbrev pub TakesInOrLeaves : Crew → Crew → ℕ → Type 0
TakesInOrLeaves old new job = TakesIn old new job ⊎ (new ≡ old)

-- an asking that was answered a job
pub record HandsOut (old new : Crew) (job : ℕ) : Type 0 where
  pub left : StationPass
  pub gains : GainsOnce old.asking left (Picked (Some job))
  pub taken : TakesInOrLeaves (record old { asking = left }) new job

-- ---- the askings of a round
-- these jobs were handed out, one after another
abbrev pub HandOut : Crew → List ℕ → Crew → Type 0
HandOut old [] new = new ≡ old
HandOut old (job ∷ jobs) new = (mid : Crew) × HandsOut old mid job × HandOut mid jobs new

-- an asking that handed out no job
abbrev pub AsksInVain : Crew → Crew → Asked → Type 0
AsksInVain old new last = HasAsked old.asking new.asking last × (new ≡ record old { asking = new.asking })

-- behind these jobs the last asking was answered so: one that hands out a job is the 1,001st, and another is that or comes before it
abbrev pub EndsAsking : List ℕ → Crew → Crew → Asked → Type 0
EndsAsking jobs old new (asked.Held word) = (length jobs ≤ 1000) × AsksInVain old new (asked.Held word)
EndsAsking jobs old new (asked.Job job) = (length jobs ≡ 1000) × HandsOut old new job
EndsAsking jobs old new asked.Nothing = (length jobs ≤ 1000) × AsksInVain old new asked.Nothing

-- all askings of a round: `before` are the jobs that were handed out before the last asking
pub record AreAsked (old new : Crew) (last : Asked) : Type 0 where
  pub before : List ℕ
  pub mid : Crew
  pub handed : HandOut old before mid
  pub ended : EndsAsking before mid new last

-- the events that the last asking adds to those of the pass that asks
abbrev pub asked_events : Asked → List Event
asked_events (asked.Held word) = []
asked_events (asked.Job job) = Picked (Some job) ∷ []
asked_events asked.Nothing = Picked None ∷ []

-- and how often that pass lost in it
abbrev pub asked_lost : Asked → ℕ
asked_lost (asked.Held word) = 1
asked_lost (asked.Job job) = 0
asked_lost asked.Nothing = 0

-- so the pass that asks tells what it was answered: one event for each answer, in their order, and one more lost where it didn't enter
pub record TellsAsked (old new : StationPass) (last : Asked) : Type 0 where
  pub before : List ℕ
  pub few : length before ≤ 1000
  pub events : new.view.events ≡ old.view.events ++ (map (λ job. Picked (Some job)) before ++ asked_events last)
  pub lost : new.view.lost ≡ old.view.lost + asked_lost last
