-- A task as contracts see it.
use Rattle.std.specs.Prelude.{ℕ, Bool, [], Option}
use Rattle.std.specs.declared.option.Option.TheVariants.{None, Some}
use Rattle.atomic_table.specs.Seated.{TableId}
use Rattle.xc_station.specs.Passes.{StationPass}
use Rattle.xc_turnstile.specs.Views.{spent}
use Rattle.xc_poll.specs.declared.round.Waits.{Waits}

-- its turnstile, its pass, its job, how many turns a poll takes, whether it was ready, and why it has to be polled again
pub record Task : Type 0 where
  pub home : TableId
  pub pass : StationPass
  pub job : ℕ
  pub share : ℕ
  pub ready : Bool
  pub why : Option Waits

-- no turnstile
abbrev pub nowhere : TableId
nowhere = record { words = 0; slots = 0; views_name = 0; atom = 0; block = 0; offset = 0; slot_names = [] }

-- the pass, which is there between two polls
abbrev pub known_of : Option StationPass → StationPass
known_of None = record { table = nowhere; view = spent }
known_of (Some pass) = pass
