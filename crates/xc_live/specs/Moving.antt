-- Parts of a client's call on its way to its answer.
use Rattle.std.specs.Prelude.{ℕ, suc, ◌-◌, Bool, true, false, List, length, replicate, slice_get, Option}
use Rattle.std.specs.declared.option.Option.TheVariants.{None, Some}
use Rattle.xc_data.specs.Step.{Step}
use Rattle.xc_data.specs.declared.entry.Cause.{Cause}
use Rattle.xc_data.specs.declared.entry.Cause.TheVariants as cause
use Rattle.xc_host.specs.Model.{HostModel}
use Rattle.xc_script.specs.declared.ask.Ask.{Ask}
use Rattle.xc_model.specs.declared.phase.Phase.{Phase}
use Rattle.xc_model.specs.declared.phase.Phase.TheVariants.{Running, Committing, Undoing, Backing}
use Rattle.xc_model.specs.Moment.{TxView, JobView, Doing, Idle, Active, Starved, Ended}
use Rattle.xc_station.specs.Stations.{StationView, TakeTurns, now_of, setting_of}
use Rattle.xc_live.specs.Calm.{IsDesk}
use Rattle.xc_live.specs.Clients.{HasTakenUp, IsAsking}
use Rattle.xc_live.specs.Ended.{IsEnteredBehind}
use Rattle.xc_live.specs.GivingWay.{GiveWay, GivesWay}

-- a client of a station asks
abbrev pub AsksAt : {H : Type 0} → HostModel H → ℕ → TxView → Ask → StationView H → Type 0
AsksAt model client tx asked now = IsAsking (setting_of model now) (client - 1) tx asked (now_of model now)

-- and has taken its turn
abbrev pub AskedAt : {H : Type 0} → HostModel H → ℕ → TxView → Ask → StationView H → Type 0
AskedAt model client tx asked now = HasTakenUp (setting_of model now) (client - 1) tx asked (now_of model now)

-- one that was in its way gave way, and it asks the same again
abbrev pub IsYielded : {H : Type 0} → HostModel H → ℕ → Step (StationView H) → Type 0
IsYielded model client desk =
    (tx : TxView) (asked : Ask) → AsksAt model client tx asked desk.old
    → (victim : ℕ) × GivesWay model client victim desk × AsksAt model client tx asked desk.new

-- nobody was, and it took its turn
abbrev pub IsMoved : {H : Type 0} → HostModel H → ℕ → Step (StationView H) → Type 0
IsMoved model client desk =
    (tx : TxView) (asked : Ask) → AsksAt model client tx asked desk.old
    → TakeTurns model (replicate 1 client) desk.old desk.new × AskedAt model client tx asked desk.new

-- all that were in its way gave way, and it took its turn
abbrev pub IsThrough : {H : Type 0} → HostModel H → ℕ → TxView → Ask → Step (StationView H) → Type 0
IsThrough {H = H} model client tx asked desk =
    (victims : List ℕ) × (free : StationView H) × GiveWay model client victims (record { old = desk.old; new = free })
    × TakeTurns model (replicate 1 client) free desk.new × AskedAt model client tx asked desk.new

-- so it did from where it asked
abbrev pub HasComeThrough : {H : Type 0} → HostModel H → ℕ → Step (StationView H) → Type 0
HasComeThrough model client desk =
    (tx : TxView) (asked : Ask) → AsksAt model client tx asked desk.old → IsThrough model client tx asked desk

-- how many turns a block on its way back has: one for each record, and one for its reply
abbrev pub back_turns : TxView → Phase → ℕ
back_turns tx Backing = suc (length tx.undo.pending)
back_turns tx Running = 0
back_turns tx Committing = 0
back_turns tx (Undoing c) = 0

-- the same of what a job does
abbrev pub back_turns_of : Doing → ℕ
back_turns_of (Active tx) = back_turns tx tx.phase
back_turns_of Idle = 0
back_turns_of Starved = 0
back_turns_of (Ended end) = 0

-- and of the job in a place, if there is one
abbrev pub back_turns_in : Option JobView → ℕ
back_turns_in None = 0
back_turns_in (Some job) = back_turns_of job.doing

-- the turns of this client's block on its way back
abbrev pub back_turns_at : List JobView → ℕ → ℕ
back_turns_at jobs client = back_turns_in (slice_get jobs (client - 1))

-- turns of the client alone, after which it is on its way still
abbrev pub IsSettledSo : {H : Type 0} → HostModel H → ℕ → TxView → Ask → Step (StationView H) → Type 0
IsSettledSo model client tx asked desk =
    (turns : ℕ) × TakeTurns model (replicate turns client) desk.old desk.new × AskedAt model client tx asked desk.new

-- so it is from where it was
abbrev pub HasSettled : {H : Type 0} → HostModel H → ℕ → Step (StationView H) → Type 0
HasSettled model client desk = (tx : TxView) (asked : Ask) → AskedAt model client tx asked desk.old → IsSettledSo model client tx asked desk

-- a cause after whose entry the client takes one turn more
abbrev pub is_want : Cause → Bool
is_want cause.NoMemory = true
is_want cause.Asked = false
is_want (cause.Conflict object holder when) = false
is_want (cause.Revoked object by when) = false
is_want (cause.Stuck failed) = false

-- turns of the client alone, after which its transaction, which was in this phase, is in the journal
pub record HasLeft {H : Type 0} (model : HostModel H) (client : ℕ) (phase : Phase) (desk : Step (StationView H)) : Type 0 where
  pub turns : ℕ
  pub takes : TakeTurns model (replicate turns client) desk.old desk.new
  pub entered : IsEnteredBehind client phase desk.old.journal desk.new
  pub calm : IsDesk (setting_of model desk.new) (now_of model desk.new)
