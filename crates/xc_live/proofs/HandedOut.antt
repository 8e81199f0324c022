-- A desk whose journal was handed out.
use Rattle.std.proofs.Common.{◌≡◌, suc, ◌-◌, List, [], ap, sym, ◌∙◌, subst, arith}
use Rattle.std.specs.Prelude.{Option, drop, slice_get}
use Rattle.std.specs.declared.option.Option.TheVariants.{None, Some}
use Rattle.xc_data.specs.declared.entry.Entry.{Entry}
use Rattle.xc_journal.specs.Told.{Journal, waiting_of}
use Rattle.xc_model.specs.Moment.{TxView, active_in, actives}
use Rattle.xc_station.specs.Jobs.{job_views}
use Rattle.xc_station.specs.Stations.{StationView, entries_held}
use Rattle.xc_turns.proofs.Laws.{none_active}
use Rattle.xc_live.specs.Closing.{NobodyIsActive}
use Rattle.xc_live.proofs.Numbered.{told_placed}

-- where nobody has a transaction none is active
pub none_is_active : {H : Type 0} (desk : StationView H) → NobodyIsActive desk → actives (job_views desk.jobs) ≡ []
none_is_active desk nobody =
    none_active (job_views desk.jobs) (λ j tx (job, there, active).
    let place : suc j - 1 ≡ j = omega arith in
    let stands : slice_get (job_views desk.jobs) (suc j - 1) ≡ Some job =
    subst (λ k. slice_get (job_views desk.jobs) k ≡ Some job) (sym place) there in
    let none : active_in job.doing ≡ None = sym (told_placed active_in (job_views desk.jobs) (suc j) job (omega arith) stands) ∙ nobody (suc j) in
    let both : ◌≡◌ {A = Option TxView} None (Some tx) = sym none ∙ active in
    cc both)

-- what waits is that of the journal which a station gives in the end
pub waits_same : {H : Type 0} (desk : StationView H) (journal : Journal) → journal.items ≡ desk.journal → journal.gone ≡ desk.gone
    → waiting_of journal ≡ entries_held desk
waits_same desk journal items gone = ap (λ n. drop n journal.items) gone ∙ ap (λ (es : List Entry). drop desk.gone es) items
