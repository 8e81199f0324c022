-- Clients in the way of an older one give way.
use Rattle.std.specs.Prelude.{◌≡◌, ℕ, List, [], ◌∷◌, length, replicate}
use Rattle.std.specs.declared.option.Option.TheVariants.{Some}
use Rattle.xc_data.specs.Step.{Step}
use Rattle.xc_data.specs.declared.entry.Cause.TheVariants.{Revoked}
use Rattle.xc_data.specs.declared.entry.Turn.TheVariants as turn
use Rattle.xc_data.specs.declared.object.Object.{Object}
use Rattle.xc_host.specs.Model.{HostModel}
use Rattle.xc_model.specs.declared.phase.Phase.TheVariants.{Undoing}
use Rattle.xc_model.specs.Moment.{TxView}
use Rattle.xc_live.specs.Told.{IsClientOf, tx_at}
use Rattle.xc_station.specs.Finishing.{AddsEntry}
use Rattle.xc_station.specs.Jobs.{job_views}
use Rattle.xc_station.specs.Stations.{HasTurned, StationView, TakeTurns}

-- the client is told to wait for the younger transaction of another one, which holds the object; then turns of that one are
-- taken, to the entry of its transaction: it was revoked
pub record GivesWay {H : Type 0} (model : HostModel H) (client victim : ℕ) (desk : Step (StationView H)) : Type 0 where
  pub tx : TxView
  pub asking : tx_at (job_views desk.old.jobs) client ≡ Some tx
  pub object : Object
  pub number : ℕ
  pub waited : StationView H
  pub told : HasTurned model client (record { old = desk.old; new = waited }) (turn.Busy object number)
  pub holder : IsClientOf (job_views desk.old.jobs) number victim
  pub turns : ℕ
  pub rolled : TakeTurns model (replicate turns victim) waited desk.new
  pub entered : AddsEntry victim (Undoing (Revoked object tx.number (length desk.old.journal))) desk.old.journal desk.new.journal

-- several of them do so, one after another; the last one stands first
abbrev pub GiveWay : {H : Type 0} → HostModel H → ℕ → List ℕ → Step (StationView H) → Type 0
GiveWay model client [] desk = desk.new ≡ desk.old
GiveWay {H = H} model client (victim ∷ before) desk =
    (last : StationView H) × GiveWay model client before (record { old = desk.old; new = last })
    × GivesWay model client victim (record { old = last; new = desk.new })
