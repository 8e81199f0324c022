use Rattle.std.proofs.Common.{sym, subst}
use Rattle.xc_host.specs.Kept.{KeepsData}
use Rattle.xc_host.proofs.Laws.{keeps_shut}
use Rattle.xc_deferred.proofs.doing.shut.Goals as goal

pub returns-in-Ok-clause-keeps : goal.returns-in-Ok-clause-keeps
returns-in-Ok-clause-keeps g c t =
    let was = g.H.Host.model.contents c.args.host.now in
    subst (KeepsData was) (sym (c.in-Ok.ensures.answered.done t)) (keeps_shut was c.args.object.now)
