use Rattle.std.proofs.Common.{◌≡◌, ◌<◌, ◌∷◌, List, IsTrue, length, ap, sym, ◌∙◌, subst}
use Rattle.xc_data.specs.declared.call.LateCall.{LateCall}
use Rattle.xc_data.specs.declared.entry.KeptItem.{KeptItem}
use Rattle.xc_deferred.specs.Does.{EndsNext, IsThereFor}
use Rattle.xc_deferred.specs.Queue.{Queue}
use Rattle.xc_host.specs.Fronted.{before, fronted}
use Rattle.xc_model.specs.Moment.{TxView, late_left, queue_of}
use Rattle.xc_station.proofs.Closed.{its_active, late_behind}
use Rattle.xc_station.proofs.end_tx.end_late.Goals as goal

pub do_one-requires-clause-left : goal.do_one-requires-clause-left
do_one-requires-clause-left g c =
    let required = c.requires.committing in
    subst (λ (t : TxView). 0 < length (late_left t)) (sym (its_active c.args.job.now required.0 required.1)) required.2

pub do_one-requires-clause-there : goal.do_one-requires-clause-there
do_one-requires-clause-there g c =
    let required = c.requires.committing in
    subst (λ (t : TxView). IsTrue g.H.Host.model.tells → (call : LateCall) (calls : List LateCall) → late_left t ≡ call ∷ calls
    → IsThereFor (g.H.Host.model.contents c.args.host.now) call) (sym (its_active c.args.job.now required.0 required.1)) required.4

pub returns-clause-ends : goal.returns-clause-ends
returns-clause-ends g c tx call calls is left =
    let job = c.args.job.now in
    let same = its_active job tx is in
    let ends = c.do_one.ensures.ends call calls (ap late_left same ∙ left) in (
      c.do_one.new.self,
      late_behind job tx c.do_one.new.self is (ap (λ (q : Queue). q.calls) ends.noted),
      subst (λ (kept : List KeptItem). EndsNext (fronted g.H.Host.model) call (record { host = before c.args.host.now kept; late = queue_of tx })
          (record { host = before c.do_one.new.host kept; late = c.do_one.new.self })) c.kept.ensures
          (subst (λ (t : TxView). EndsNext (fronted g.H.Host.model) call (record { host = before c.args.host.now c.kept.result.now.items; late = queue_of t })
          (record { host = before c.do_one.new.host c.kept.result.now.items; late = c.do_one.new.self })) same
          ends),
    )
