-- A desk that is closed: each client ends.
use Rattle.std.specs.Prelude.{◌≡◌, ◌≢◌, ℕ, true, false, length, slice_get, is_some, Option}
use Rattle.std.specs.declared.option.Option.TheVariants.{None, Some}
use Rattle.xc_data.specs.Step.{Step}
use Rattle.xc_script.specs.declared.ask.Ask.{Ask}
use Rattle.xc_model.specs.Live.{has_clients}
use Rattle.xc_model.specs.Moment.{JobView, Doing, Idle, Active, Starved, Ended, Moment}
use Rattle.xc_model.specs.Setting.{Setting}
use Rattle.xc_live.specs.Told.{tx_at}
use Rattle.xc_station.specs.Jobs.{job_views}
use Rattle.xc_station.specs.Stations.{StationView, live_at}

-- no client has a transaction
abbrev pub NobodyIsActive : {H : Type 0} → StationView H → Type 0
NobodyIsActive desk = (client : ℕ) → tx_at (job_views desk.jobs) client ≡ None

-- some client has one
abbrev pub SomebodyIsActive : {H : Type 0} → StationView H → Type 0
SomebodyIsActive desk = (client : ℕ) × (is_some (tx_at (job_views desk.jobs) client) ≡ true)

-- a client has ended, or has no transaction and has handed in nothing
abbrev pub IsAtRest : Doing → Option Ask → Type 0
IsAtRest Idle handed = handed ≡ None
IsAtRest (Ended end) handed = Unit {0}
IsAtRest (Active tx) handed = ⊥
IsAtRest Starved handed = ⊥

-- so it is of all
pub record AreQuiet (s : Setting) (now : Moment) : Type 0 where
  pub clients : has_clients s.script ≡ true
  pub quiet : (at : ℕ) (job : JobView) → slice_get now.jobs at ≡ Some job → IsAtRest job.doing job.handed

-- this client has ended, and the others are as before
pub record HasDismissed {H : Type 0} (client : ℕ) (desk : Step (StationView H)) : Type 0 where
  pub ended : live_at desk.new.jobs client ≡ false
  pub others : (other : ℕ) → other ≢ client → live_at desk.new.jobs other ≡ live_at desk.old.jobs other
  pub count : length desk.new.jobs ≡ length desk.old.jobs
  pub journal : desk.new.journal ≡ desk.old.journal
  pub gone : desk.new.gone ≡ desk.old.gone
  pub words : desk.new.words ≡ desk.old.words
  pub opening : desk.new.opening ≡ desk.old.opening
  pub rules : desk.new.rules ≡ desk.old.rules
