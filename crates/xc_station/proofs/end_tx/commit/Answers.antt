use Rattle.std.proofs.Common.{◌≡◌, ◌+◌, ap, sym, ◌∙◌, subst}
use Rattle.xc_script.specs.Position.{Position, at_begin}
use Rattle.xc_script.specs.Blocks.{kept_calls}
use Rattle.xc_script.specs.Slots.{with_ends}
use Rattle.xc_model.specs.Moment.{TxView}
use Rattle.xc_model.specs.declared.phase.Phase.TheVariants.{Committing}
use Rattle.xc_station.specs.declared.tx.Tx.{Tx}
use Rattle.xc_station.specs.Jobs.{begun_of, outcome_in, job_view, tx_view}
use Rattle.xc_model.specs.Entering.{entry_of}
use Rattle.xc_locks.specs.Table.{Holds}
use Rattle.xc_station.specs.Moments.{Frees}
use Rattle.xc_station.proofs.Closed.{its_active, same_active, commit_entry, commit_behind}
use Rattle.xc_station.proofs.end_tx.commit.Goals as goal

pub close-requires-clause-table : goal.close-requires-clause-table
close-requires-clause-table g c =
    let required = c.requires.committing in
    let same : tx_view c.args.job.now.tx ≡ required.0 = its_active c.args.job.now required.0 required.1 in
    subst (λ (t : Tx). Holds c.args.shared.now.sentinels.claims t.number t.held.items) (sym c.renew.ensures)
    (subst (λ (t : TxView). Holds c.args.shared.now.sentinels.claims t.number t.held) (sym same) (c.requires.table required.0 required.1))

pub returns-clause-freed : goal.returns-clause-freed
returns-clause-freed g c tx is =
    let same : tx_view c.args.job.now.tx ≡ tx = its_active c.args.job.now tx is in
    subst (Frees c.args.shared.now.sentinels c.close.new.sentinels)
    (ap (λ (t : Tx). t.number) c.renew.ensures ∙ ap (λ (t : TxView). t.number) same) c.close.ensures.freed

pub returns-clause-entry : goal.returns-clause-entry
returns-clause-entry g c tx at is number =
    let required = c.requires.committing in
    let was : Position = c.args.job.now.place in
    let same : tx_view c.args.job.now.tx ≡ tx = its_active c.args.job.now tx is in
    let as-required : required.0 ≡ tx = same_active _ _ (sym required.1 ∙ is) in
    let phase : tx.phase ≡ Committing = subst (λ (t : TxView). t.phase ≡ Committing) as-required required.2 in (
      commit_behind (job_view c.args.job.now) _ _ _ _ _ same (c.close.ensures.begun ∙ ap begun_of c.renew.ensures)
          (c.go_on.ensures.place
          ∙ ap (λ (p : Position). at_begin (record { block = p.block; next = p.next + 1; variables = p.variables })) c.set_ends.ensures
          ∙ (λ i. at_begin (record {
            block = was.block;
            next = was.next + 1;
            variables = with_ends was.variables (kept_calls (c.as_slice.ensures i) (c.as_slice-2.ensures i)) (c.ends.ensures i);
          })))
          c.go_on.ensures.attempts,
      c.close.ensures.entry at number ∙ ap (λ (t : Tx). entry_of (tx_view t) at (outcome_in t.phase t.undo.ended t.late.ends)) c.renew.ensures
          ∙ commit_entry (tx_view c.args.job.now.tx) tx at same phase,
    )
