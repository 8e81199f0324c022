-- A pass that was parted, and one that was met.
use Rattle.std.proofs.Common.{◌≡◌, ◌⊎◌, List, ap, subst, sym}
use Rattle.xc_data.specs.declared.entry.Entry.{Entry}
use Rattle.xc_poll.proofs.Laws.{longer_begins}
use Rattle.xc_station.specs.Passes.{PassView}
use Rattle.xc_turnstile.specs.Views.{BeginsWith, views_met, kept_half}

-- it has seen all that the one had seen that was parted
pub met_seen : (pass kept back whole : PassView) → kept ≡ kept_half pass → whole ≡ views_met kept back
    → BeginsWith kept.seen back.seen ⊎ BeginsWith back.seen kept.seen → BeginsWith whole.seen pass.seen
met_seen pass kept back whole parted met either =
    let same : kept.seen ≡ pass.seen = ap (λ (v : PassView). v.seen) parted in
    let longer : whole.seen ≡ (views_met kept back).seen = ap (λ (v : PassView). v.seen) met in
    subst (BeginsWith whole.seen) same
    (subst (λ (es : List Entry). BeginsWith es kept.seen) (sym longer) (longer_begins kept.seen back.seen either))
