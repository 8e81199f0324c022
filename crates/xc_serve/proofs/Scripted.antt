-- A pass for the station of a script, which stays one.
use Rattle.std.proofs.Common.{◌≡◌, sym, ◌∙◌}
use Rattle.xc_station.specs.Passes.{StationPass}
use Rattle.xc_serve.specs.Gains.{IsOfScript}

-- its origin stays
pub script_still : (old new : StationPass) → new.view.origin ≡ old.view.origin → IsOfScript old → IsOfScript new
script_still old new same scripted o is = scripted o (sym same ∙ is)
