-- A desk that is opened by a text.
use Rattle.std.specs.Prelude.{◌≡◌, ℕ, true, List, Ok}
use Rattle.xc_host.specs.Model.{HostModel}
use Rattle.xc_text.specs.Scripts.{parse_of}
use Rattle.xc_text.specs.declared.script.Script.{Script}
use Rattle.xc_model.specs.Opened.{IsOpening}
use Rattle.xc_station.specs.Stations.{StationView, now_of}

-- the text is a script, each job of which is a client; nothing is asked yet
pub record IsOpenedBy {H : Type 0} (model : HostModel H) (text : List ℕ) (desk : StationView H) : Type 0 where
  pub script : Script
  pub read : parse_of text ≡ Ok script
  pub clients : desk.opening.script ≡ record script { clients = true }
  pub opening : IsOpening (record script { clients = true }) (now_of model desk)
