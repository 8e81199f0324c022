use Rattle.std.proofs.Common.{◌≢◌, [], IsTrue, sym, subst}
use Rattle.xc_compensate.specs.Records.{IsTried, NextIsCovered}
use Rattle.xc_model.specs.Moment.{TxView}
use Rattle.xc_station.proofs.Closed.{its_active, tried_same, undo_behind}
use Rattle.xc_station.proofs.end_tx.undo.Goals as goal

pub undo_next-requires-clause-covered : goal.undo_next-requires-clause-covered
undo_next-requires-clause-covered g c =
    let required = c.requires.undoing in
    subst (λ (t : TxView). IsTrue g.H.Host.model.tells → NextIsCovered (g.H.Host.model.contents c.args.host.now) t.undo)
    (sym (its_active c.args.job.now required.0 required.1)) required.3

pub returns-clause-undone : goal.returns-clause-undone
returns-clause-undone g c tx is =
    let required = c.requires.undoing in
    let job = c.args.job.now in
    let left : job.tx.undo.pending ≢ [] = subst (λ (t : TxView). t.undo.pending ≢ []) (sym (its_active job required.0 required.1)) required.2 in
    let tried = (c.undo_next.ensures.tried left).0 in (
      c.undo_next.new.self,
      undo_behind job tx c.undo_next.new.self is (tried_same g.H.Host.model c.args.tries _ _ tried),
      subst (λ (t : TxView). IsTried g.H.Host.model c.args.tries (record { host = c.args.host.now; undo = t.undo })
          (record { host = c.undo_next.new.host; undo = c.undo_next.new.self })) (its_active job tx is) tried,
    )
