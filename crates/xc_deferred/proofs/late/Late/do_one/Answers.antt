use Rattle.std.proofs.Common.{sym, ◌∙◌}
use Rattle.xc_host.specs.Fronted.{before, fronted}
use Rattle.xc_deferred.proofs.Next.{ends_next, queue_left_at, next_at}
use Rattle.xc_deferred.proofs.late.Late.do_one.Goals as goal

pub do_late-end-requires-clause-hosted : goal.do_late-end-requires-clause-hosted
do_late-end-requires-clause-hosted g c =
    sym (next_at c.args.self.now c.self.inside.calls.items c.self.inside.ends.items c.len.result c.get.result.now c.self.view_is c.len.ensures
    c.get.ensures)
    ∙ c.requires.hosted

pub do_late-end-requires-clause-there : goal.do_late-end-requires-clause-there
do_late-end-requires-clause-there g c =
    λ t. c.requires.there t c.get.result.now _
    (queue_left_at c.args.self.now c.self.inside.calls.items c.self.inside.ends.items c.len.result c.get.result.now c.self.view_is c.len.ensures c.get.ensures)

pub returns-clause-ends : goal.returns-clause-ends
returns-clause-ends g c =
    let items = c.args.kept.now.items in
    ends_next (fronted g.H.Host.model) (before c.args.host.now items) (before c.do_late-end.new.host items) c.args.self.now c.self.inside.calls.items
    c.self.inside.ends.items c.enter.new.self.items c.len.result c.get.result.now c.do_late-end.result c.self.view_is c.len.ensures c.get.ensures
    c.enter.ensures.items c.do_late-end.ensures.ends
