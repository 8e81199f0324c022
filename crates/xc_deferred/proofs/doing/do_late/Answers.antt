use Rattle.std.proofs.Common.{refl, sym, subst}
use Rattle.xc_data.specs.declared.call.LateCall.{LateCall}
use Rattle.xc_data.specs.declared.call.LateCall.TheVariants.{Unlink, Sync, Shutdown}
use Rattle.xc_host.specs.Fronted.{before, fronted}
use Rattle.xc_deferred.specs.Ended.{EndsAt}
use Rattle.xc_deferred.proofs.Lifted.{ends_fronted}
use Rattle.xc_deferred.proofs.doing.do_late.Goals as goal

pub returns-in-Unlink-clause-ends : goal.returns-in-Unlink-clause-ends
returns-in-Unlink-clause-ends g c =
    let model = g.H.Host.model in
    let items = c.args.kept.now.items in
    subst (λ (call : LateCall). EndsAt (fronted model) call (record { old = before c.args.host.now items; new = before c.unlink.new.host items })
    c.unlink.result)
    (sym c.in-Unlink.is)
    (ends_fronted model items c.args.host.now c.unlink.new.host (Unlink c.in-Unlink.name) c.unlink.result refl c.unlink.ensures.ends)

pub returns-in-Sync-clause-ends : goal.returns-in-Sync-clause-ends
returns-in-Sync-clause-ends g c =
    let model = g.H.Host.model in
    let items = c.args.kept.now.items in
    subst (λ (call : LateCall). EndsAt (fronted model) call (record { old = before c.args.host.now items; new = before c.sync.new.host items }) c.sync.result)
    (sym c.in-Sync.is)
    (ends_fronted model items c.args.host.now c.sync.new.host (Sync c.in-Sync.file) c.sync.result refl c.sync.ensures.ends)

pub returns-in-Shutdown-clause-ends : goal.returns-in-Shutdown-clause-ends
returns-in-Shutdown-clause-ends g c =
    let model = g.H.Host.model in
    let items = c.args.kept.now.items in
    subst (λ (call : LateCall). EndsAt (fronted model) call (record { old = before c.args.host.now items; new = before c.shut.new.host items }) c.shut.result)
    (sym c.in-Shutdown.is)
    (ends_fronted model items c.args.host.now c.shut.new.host (Shutdown c.in-Shutdown.object) c.shut.result refl c.shut.ensures.ends)
