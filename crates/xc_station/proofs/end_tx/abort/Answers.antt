use Rattle.std.proofs.Common.{◌≡◌, sym, ap, ◌∙◌, subst, ◌⊎◌, length, arith}
use Rattle.xc_model.specs.Moment.{TxView, Idle, active_in}
use Rattle.xc_locks.specs.Table.{Holds}
use Rattle.xc_station.specs.Jobs.{job_view, tx_view}
use Rattle.xc_station.specs.Moments.{Frees}
use Rattle.xc_station.proofs.Closed.{its_active, same_cause, abort_behind, abort_entry}
use Rattle.xc_station.proofs.end_tx.abort.Goals as goal
use Rattle.std.specs.Prelude.{Contains}
use Rattle.std.specs.declared.option.Option.TheVariants.{None}
use Rattle.xc_world.specs.Run.{given_back}
use Rattle.xc_station.specs.Lent.{notes_in}

pub close-entry-requires-clause-table : goal.close-entry-requires-clause-table
close-entry-requires-clause-table g c =
    let required = c.requires.undone in
    let same : tx_view c.args.job.now.tx ≡ required.0 = its_active c.args.job.now required.0 required.2 in
    subst (λ (t : TxView). Holds c.args.shared.now.sentinels.claims t.number t.held) (sym same) (c.requires.table required.0 required.2)

pub returns-clause-freed : goal.returns-clause-freed
returns-clause-freed g c tx is =
    let same : tx_view c.args.job.now.tx ≡ tx = its_active c.args.job.now tx is in
    subst (Frees c.args.shared.now.sentinels c.close-entry.new.sentinels) (ap (λ (t : TxView). t.number) same) c.close-entry.ensures.freed

pub returns-clause-entry : goal.returns-clause-entry
returns-clause-entry g c tx cause at is phase number =
    let job = c.args.job.now in
    let same : tx_view job.tx ≡ tx = its_active job tx is in
    let caused = same_cause _ _ (sym c.cause_of-cause.ensures ∙ ap (λ (t : TxView). t.phase) same ∙ phase) in (
      abort_behind (job_view job) _ _ tx _ _ (λ i. record (job_view job) { me = c.close-entry.ensures.begun i; handed = None; busy = 0; doing = Idle }) caused
          (c.go_back.ensures.back tx (sym (ap (λ (t : TxView). t.rank) same))),
      c.close-entry.ensures.entry at number ∙ abort_entry _ _ at _ same phase,
    )

pub returns-clause-given : goal.returns-clause-given
returns-clause-given g c =
    let job = c.args.job.now in
    let old = c.args.shared.now.buffers in
    let required = c.requires.undone in
    record {
      given = λ w tx is.
          c.give_back.ensures.given w ∙ ap (λ (t : TxView). given_back (given_back w old.kept) t.taken) (its_active job tx is);
      among = λ item tx is at.
          subst (λ (t : TxView). Contains t.taken item ⊎ Contains old.kept item) (its_active job tx is) (c.give_back.ensures.among item at);
      noted =
          let noted = c.give_back.ensures.noted in
          let mine = ap (λ d. notes_in (active_in d)) required.2 in
          let taken = ap (λ (t : TxView). length t.taken) (its_active job required.0 required.2) in
          omega (arith, noted, mine, taken);
    }
