-- What a begin and a call of a client come to.
use Rattle.std.specs.Prelude.{◌≡◌, ℕ, ◌≤◌, true, false, is_some, List, replicate}
use Rattle.std.specs.declared.option.Option.TheVariants.{None, Some}
use Rattle.xc_data.specs.Step.{Step}
use Rattle.xc_data.specs.declared.call.Call.{Call}
use Rattle.xc_data.specs.declared.entry.Entry.{Entry}
use Rattle.xc_data.specs.declared.entry.Turn.TheVariants as turn
use Rattle.xc_data.specs.declared.object.Object.{Object}
use Rattle.xc_host.specs.Model.{HostModel}
use Rattle.xc_script.specs.declared.ask.Ask.TheVariants as ask
use Rattle.xc_model.specs.declared.phase.Phase.TheVariants.{Running, Undoing}
use Rattle.xc_model.specs.Moment.{TxView, JobView}
use Rattle.xc_live.specs.Told.{tx_at}
use Rattle.xc_station.specs.Jobs.{job_views}
use Rattle.xc_station.specs.Stations.{HasTurned, StationView, TakeTurns, entries_due, now_of}
use Rattle.xc_live.specs.declared.answers.Began.{Began}
use Rattle.xc_live.specs.declared.answers.Began.TheVariants as began
use Rattle.xc_live.specs.declared.answers.Called.{Called}
use Rattle.xc_live.specs.declared.answers.Called.TheVariants as called
use Rattle.xc_live.specs.Clients.{IsCallNoted, may_ask}
use Rattle.xc_live.specs.Ended.{HandsIn, IsEnteredBehind}
use Rattle.xc_live.specs.GivingWay.{GiveWay}

-- a begin is one turn of the client, by its answer; without memory for a transaction it changes nothing. Where 10,000 entries wait, or
-- will once the active transactions have ended, no turn is taken
abbrev pub IsBegunSo : {H : Type 0} → HostModel H → ℕ → Step (StationView H) → Began → Type 0
IsBegunSo model client desk began.Went = HasTurned model client desk turn.Went
IsBegunSo model client desk (began.Waits holder) = (object : Object) × HasTurned model client desk (turn.Busy object holder)
IsBegunSo model client desk (began.Ended end) = HasTurned model client desk (turn.Ended end)
IsBegunSo model client desk began.NoMemory = HasTurned model client desk turn.NoMemory × (now_of model desk.new ≡ now_of model desk.old)
IsBegunSo model client desk began.Full = (10000 ≤ entries_due desk.old) × (desk.new ≡ desk.old)

-- a call: the client hands it in, those in its way give way, and turns of the client alone are taken
pub record MakesItsCall {H : Type 0} (model : HostModel H) (client : ℕ) (c : Call) (desk : Step (StationView H)) : Type 0 where
  pub tx : TxView
  pub begun : tx_at (job_views desk.old.jobs) client ≡ Some tx
  pub allowed : may_ask (is_some tx.saved) c ≡ true
  pub handed : StationView H
  pub hands : HandsIn model client (ask.Call c) (record { old = desk.old; new = handed })
  pub victims : List ℕ
  pub free : StationView H
  pub way : GiveWay model client victims (record { old = handed; new = free })
  pub turns : ℕ
  pub takes : TakeTurns model (replicate turns client) free desk.new

-- it is answered: the transaction runs on, with one call more
pub record IsAnsweredAt (jobs : Step (List JobView)) (client : ℕ) (c : Call) : Type 0 where
  pub was : TxView
  pub is : TxView
  pub before : tx_at jobs.old client ≡ Some was
  pub behind : tx_at jobs.new client ≡ Some is
  pub runs : is.phase ≡ Running
  pub noted : IsCallNoted c was is

-- it doesn't fit, or starts a job
pub record IsBarred (jobs : List JobView) (client : ℕ) (c : Call) : Type 0 where
  pub tx : TxView
  pub begun : tx_at jobs client ≡ Some tx
  pub barred : may_ask (is_some tx.saved) c ≡ false

-- by the answer
abbrev pub IsCalledSo : {H : Type 0} → HostModel H → ℕ → Call → Step (StationView H) → Called → Type 0
IsCalledSo model client c desk called.Gone = (tx_at (job_views desk.old.jobs) client ≡ None) × (desk.new ≡ desk.old)
IsCalledSo model client c desk called.Refused = IsBarred (job_views desk.old.jobs) client c × (desk.new ≡ desk.old)
IsCalledSo model client c desk called.Replied =
    MakesItsCall model client c desk × IsAnsweredAt (record { old = job_views desk.old.jobs; new = job_views desk.new.jobs }) client c
IsCalledSo model client c desk (called.Again why) =
    MakesItsCall model client c desk × (before : List Entry) × IsEnteredBehind client (Undoing why) before desk.new
