-- A station that is handed on in a box.
use Rattle.std.proofs.Common.{◌≡◌, [], Box, ap, sym, ◌∙◌}
use Rattle.std.proofs.lemmas.List.{append-nil}
use Rattle.xc_station.specs.Stations.{IsFrontOf, StationView}

-- where it is as it was, so is its journal
pub same_front : {H Z : Type 0} (old new : Box (StationView H) Z) → new ≡ old → IsFrontOf old.value.journal new.value.journal
same_front {H = H} {Z = Z} old new same =
    ([], ap (λ (b : Box (StationView H) Z). b.value.journal) same ∙ sym (append-nil old.value.journal))
