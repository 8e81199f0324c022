-- The turn of an idle job.
use Rattle.std.specs.Prelude.{◌≡◌, ℕ, ◌<◌, Bool, true, false, is_some, not, Option}
use Rattle.std.specs.declared.option.Option.TheVariants.{None, Some}
use Rattle.xc_data.specs.declared.entry.JobEnd.TheVariants as job_end
use Rattle.xc_data.specs.declared.entry.Turn.{Turn}
use Rattle.xc_data.specs.declared.entry.Turn.TheVariants as turn
use Rattle.xc_data.specs.declared.object.Object.{Object}
use Rattle.xc_sentinel.specs.Seated.{Seats}
use Rattle.xc_sentinel.specs.Seating.{KeepsSeats, SetsSeat, seat_in}
use Rattle.xc_model.specs.declared.phase.Attempts.{Attempts}
use Rattle.xc_model.specs.Setting.{Setting}
use Rattle.xc_model.specs.Moment.{JobView, Ended, Moment, asked_to_wait}
use Rattle.xc_model.specs.IdleRows.{IsEnding, IsWaiting, NamesLast}
use Rattle.xc_model.specs.Movers.{body_at}
use Rattle.xc_script.specs.declared.ask.Ask.{Ask}
use Rattle.xc_script.specs.declared.ask.Ask.TheVariants as ask
use Rattle.xc_station.specs.declared.begin_tx.Halt.{Halt}
use Rattle.xc_station.specs.declared.begin_tx.Halt.TheVariants.{End, Wait}

-- a client has handed in its end
abbrev pub is_end_in : Option Ask → Bool
is_end_in (Some ask.End) = true
-- it has handed in something else, or nothing
is_end_in _ = false

-- whether a job is over, as the code looks at it: by what its client has handed in, or by its block
abbrev pub is_over_in : Bool → Setting → JobView → Bool
is_over_in true s job = is_end_in job.handed
is_over_in false s job = not (is_some (body_at s job.place))

-- the transaction that ended the last attempt is this one, for this object; or there is none
abbrev pub IsNamedLast : Option Attempts → Option (Object × ℕ) → Type 0
IsNamedLast attempts None = (object : Object) (number : ℕ) → NamesLast attempts object number → ⊥
IsNamedLast attempts (Some w) = NamesLast attempts w.0 w.1

-- nobody is waited for: whoever ended the last attempt is no longer active, or there is no patience
abbrev pub IsWaitOver : Option Attempts → ℕ → ℕ → Seats → Type 0
IsWaitOver attempts patience busy seats = (object : Object) (number : ℕ) → NamesLast attempts object number → busy < patience
    → is_some (seat_in seats number) ≡ true → ⊥

-- an idle job that doesn't begin ends, or waits for a transaction
abbrev pub IsHalted : Setting → Moment → JobView → Halt → Type 0
IsHalted s now job (End end) = IsEnding s now job end
IsHalted s now job (Wait object holder) = IsWaiting s now job object holder

-- where it waits its patience isn't spent
abbrev pub WaitsOnly : ℕ → ℕ → Halt → Type 0
WaitsOnly busy patience (End end) = Unit {0}
WaitsOnly busy patience (Wait object holder) = busy < patience

-- the job after that turn, and what it answers
abbrev pub IsStopped : JobView → JobView → Halt → Turn → Type 0
IsStopped was is (End end) answer = (is ≡ record was { doing = Ended end }) × (answer ≡ turn.Ended end)
IsStopped was is (Wait object holder) answer = (is ≡ asked_to_wait was) × (answer ≡ turn.Busy object holder)

-- after a begin without memory: where clients ask the job is as before; a script's has ended
abbrev pub GoesWithout : Bool → JobView → JobView → Turn → Type 0
GoesWithout true was is answer = (is ≡ was) × (answer ≡ turn.NoMemory)
GoesWithout false was is answer = (is ≡ record was { doing = Ended job_end.NoMemory }) × (answer ≡ turn.Ended job_end.NoMemory)

-- the seats after it: a transaction of this number and rank has begun, or they are as before
abbrev pub IsSeatBehind : ℕ → ℕ → Seats → Seats → Turn → Type 0
IsSeatBehind number rank old new turn.Went = SetsSeat old new number (Some (record { rank = rank; running = true; mark = None }))
-- with any other answer no transaction began
IsSeatBehind number rank old new _ = KeepsSeats old new
