-- What one poll of a task does: it takes turns of the job, up to the first that doesn't go on.
use Rattle.std.specs.Prelude.{◌≡◌, ℕ, ◌+◌, ◌%◌, ◌<◌, ◌≤◌, Bool, true, false, List, [], ◌∷◌, ◌++◌, length, map}
use Rattle.std.specs.Prelude.{Option, IsSomeAnd, if◌then◌else◌}
use Rattle.std.specs.declared.option.Option.TheVariants.{None, Some}
use Rattle.std.specs.List.{last_or}
use Rattle.futures.specs.declared.task.Poll.{Poll}
use Rattle.futures.specs.declared.task.Poll.TheVariants.{Ready, Pending}
use Rattle.futures.specs.Poll.{IfReady, OnPending}
use Rattle.xc_data.specs.declared.entry.Event.{Event}
use Rattle.xc_data.specs.declared.entry.Event.TheVariants.{Turned}
use Rattle.xc_data.specs.declared.entry.JobEnd.{JobEnd}
use Rattle.xc_data.specs.declared.entry.Turn.{Turn}
use Rattle.xc_data.specs.declared.entry.Turn.TheVariants as turn
use Rattle.xc_turnstile.specs.Insides.{PassGoesOn}
use Rattle.xc_station.specs.Passes.{StationPass}
use Rattle.xc_runner.specs.Tries.{GainsOnce}
use Rattle.xc_poll.specs.Tasks.{Task}
use Rattle.xc_poll.specs.declared.round.RoundStop.{RoundStop}
use Rattle.xc_poll.specs.declared.round.RoundStop.TheVariants as stop
use Rattle.xc_poll.specs.declared.round.Waits.{Waits}
use Rattle.xc_poll.specs.declared.round.Waits.TheVariants as waits

-- ---- the answers of the turns that a poll took, in their order
-- the events of these turns
abbrev pub events_of_turns : ℕ → List (Option Turn) → List Event
events_of_turns job answers = map (λ answer. Turned job answer) answers

-- each went
abbrev pub AllWent : List (Option Turn) → Type 0
AllWent [] = Unit {0}
AllWent (a ∷ rest) = (a ≡ Some turn.Went) × AllWent rest

-- each but the last went
abbrev pub AllButLastWent : List (Option Turn) → Type 0
AllButLastWent [] = Unit {0}
AllButLastWent (a ∷ []) = Unit {0}
AllButLastWent (a ∷ b ∷ rest) = (a ≡ Some turn.Went) × AllButLastWent (b ∷ rest)

-- the last of them
abbrev pub last_of : List (Option Turn) → Option (Option Turn)
last_of answers = last_or None answers

-- ---- what a poll says
-- what the last answer says
abbrev pub poll_said : Option (Option Turn) → Poll (Option JobEnd)
poll_said None = Pending
poll_said (Some None) = Ready None
poll_said (Some (Some turn.Went)) = Pending
poll_said (Some (Some (turn.Busy object holder))) = Pending
poll_said (Some (Some turn.NoMemory)) = Pending
poll_said (Some (Some (turn.Ended end))) = Ready (Some end)

-- what the poll says: where the task was ready before, that there is no end any more
abbrev pub said : Bool → List (Option Turn) → Poll (Option JobEnd)
said ready answers = if ready then Ready None else poll_said (last_of answers)

-- what holds where a task has to be polled again for this reason: of its answers, and of how often it found another inside
abbrev pub HasReason : ℕ → List (Option Turn) → ℕ → ℕ → Waits → Type 0
HasReason share answers old new (waits.Met object holder) = (last_of answers ≡ Some (Some (turn.Busy object holder))) × (new ≡ old)
HasReason share answers old new (waits.Held word) = AllWent answers × (length answers < share) × (word % 2 ≡ 1) × (new ≡ old + 1)
HasReason share answers old new waits.Spent = AllWent answers × (length answers ≡ share) × (new ≡ old)
HasReason share answers old new waits.Memory = (last_of answers ≡ Some (Some turn.NoMemory)) × (new ≡ old)

-- one poll
pub record IsPolled (old new : Task) (result : Poll (Option JobEnd)) : Type 0 where
  pub answers : List (Option Turn)
  pub events : new.pass.view.events ≡ old.pass.view.events ++ events_of_turns old.job answers
  pub few : length answers ≤ old.share
  pub share : 1 ≤ old.share
  pub went : AllButLastWent answers
  pub won : new.pass.view.won ≡ old.pass.view.won + length answers
  pub goes : PassGoesOn old.pass new.pass
  pub says : result ≡ said old.ready answers
  pub over : old.ready ≡ true → (answers ≡ []) × (new ≡ old)
  pub ready : IfReady result (λ _. (new.ready ≡ true) × (new.pass.view.lost ≡ old.pass.view.lost))
  pub again : OnPending result (new.ready ≡ false)
  pub why : IfReady result (λ _. new.why ≡ None)
  pub waits : OnPending result (IsSomeAnd new.why (HasReason old.share answers old.pass.view.lost new.pass.view.lost))
  pub same : (new.home ≡ old.home) × (new.job ≡ old.job) × (new.share ≡ old.share)

-- ---- within a poll
-- where the turns stop behind an answer
abbrev pub stop_of : Option Turn → Option RoundStop
stop_of None = Some (stop.Ended None)
stop_of (Some turn.Went) = None
stop_of (Some (turn.Busy object holder)) = Some (stop.Waits (waits.Met object holder))
stop_of (Some turn.NoMemory) = Some (stop.Waits waits.Memory)
stop_of (Some (turn.Ended end)) = Some (stop.Ended (Some end))

-- with one turn
abbrev pub GainsTurn : StationPass → StationPass → ℕ → Option Turn → Type 0
GainsTurn old new job answer = GainsOnce old new (Turned job answer)

-- so many turns were taken, and each went
pub record TookTurns (old new : StationPass) (job count : ℕ) : Type 0 where
  pub answers : List (Option Turn)
  pub went : AllWent answers
  pub long : length answers ≡ count
  pub events : new.view.events ≡ old.view.events ++ events_of_turns job answers
  pub won : new.view.won ≡ old.view.won + count
  pub lost : new.view.lost ≡ old.view.lost
  pub goes : PassGoesOn old new

-- the last answer, where the job has ended
abbrev pub end_of : Option JobEnd → Option Turn
end_of None = None
end_of (Some end) = Some (turn.Ended end)

-- what holds where the turns of a poll stop so
abbrev pub HasStopped : ℕ → List (Option Turn) → ℕ → ℕ → RoundStop → Type 0
HasStopped share answers old new (stop.Ended end) = (last_of answers ≡ Some (end_of end)) × (new ≡ old)
HasStopped share answers old new (stop.Waits why) = HasReason share answers old new why

-- the turns of a poll
pub record IsRound (old new : StationPass) (job share : ℕ) (at : RoundStop) : Type 0 where
  pub answers : List (Option Turn)
  pub events : new.view.events ≡ old.view.events ++ events_of_turns job answers
  pub few : length answers ≤ share
  pub went : AllButLastWent answers
  pub won : new.view.won ≡ old.view.won + length answers
  pub goes : PassGoesOn old new
  pub stopped : HasStopped share answers old.view.lost new.view.lost at
