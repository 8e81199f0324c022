-- What a commit and an abort of a client come to.
use Rattle.std.specs.Prelude.{◌≡◌, true, ℕ, ◌-◌, List, replicate, length}
use Rattle.std.specs.declared.option.Option.TheVariants.{None}
use Rattle.xc_data.specs.Step.{Step}
use Rattle.xc_data.specs.declared.entry.Entry.{Entry}
use Rattle.xc_host.specs.Model.{HostModel}
use Rattle.xc_script.specs.declared.ask.Ask.{Ask}
use Rattle.xc_script.specs.declared.ask.Ask.TheVariants as ask
use Rattle.xc_model.specs.HandedIn.{IsHandedIn}
use Rattle.xc_model.specs.declared.phase.Phase.{Phase}
use Rattle.xc_model.specs.declared.phase.Phase.TheVariants.{Committing, Undoing}
use Rattle.xc_live.specs.Told.{tx_at}
use Rattle.xc_station.specs.Finishing.{AddsEntry}
use Rattle.xc_station.specs.Jobs.{job_views}
use Rattle.xc_station.specs.Stations.{KeepsOpening, StationView, TakeTurns, live_at, now_of, setting_of}
use Rattle.xc_live.specs.declared.answers.Ended.{Ended}
use Rattle.xc_live.specs.declared.answers.Ended.TheVariants as ended
use Rattle.xc_live.specs.Clients.{MayUndo}

-- a client hands this in, and nothing else is done
pub record HandsIn {H : Type 0} (model : HostModel H) (client : ℕ) (asked : Ask) (desk : Step (StationView H)) : Type 0 where
  pub same : KeepsOpening desk.old desk.new
  pub handed : IsHandedIn (setting_of model desk.old) (client - 1) asked (now_of model desk.old) (now_of model desk.new)

-- then turns of this client are taken, and of nobody else
pub record AsksAlone {H : Type 0} (model : HostModel H) (client : ℕ) (asked : Ask) (desk : Step (StationView H)) : Type 0 where
  pub handed : StationView H
  pub hands : HandsIn model client asked (record { old = desk.old; new = handed })
  pub turns : ℕ
  pub takes : TakeTurns model (replicate turns client) handed desk.new

-- its transaction, which was in this phase, is in the journal, behind these; it has none any more, and hasn't ended
pub record IsEnteredBehind {H : Type 0} (client : ℕ) (phase : Phase) (before : List Entry) (now : StationView H) : Type 0 where
  pub entered : AddsEntry client phase before now.journal
  pub none : tx_at (job_views now.jobs) client ≡ None
  pub lives : live_at now.jobs client ≡ true

-- by the answer
abbrev pub IsEndedSo : {H : Type 0} → HostModel H → ℕ → Ask → Step (StationView H) → Ended → Type 0
IsEndedSo model client asked desk ended.Gone = (tx_at (job_views desk.old.jobs) client ≡ None) × (desk.new ≡ desk.old)
IsEndedSo model client asked desk (ended.Committed entry) =
    AsksAlone model client asked desk × (asked ≡ ask.Commit) × (entry ≡ length desk.old.journal)
    × IsEnteredBehind client Committing desk.old.journal desk.new
IsEndedSo model client asked desk (ended.Aborted entry c) =
    AsksAlone model client asked desk × MayUndo asked c × (entry ≡ length desk.old.journal)
    × IsEnteredBehind client (Undoing c) desk.old.journal desk.new
