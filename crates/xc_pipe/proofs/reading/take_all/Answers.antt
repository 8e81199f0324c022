use Rattle.std.proofs.Common.{length}
use Rattle.xc_pipe.proofs.Behind.{after_front, same_items}
use Rattle.xc_pipe.proofs.TakeRuns.{takes_all}
use Rattle.xc_pipe.proofs.Takings.{all_failed, all_found}
use Rattle.xc_pipe.proofs.reading.take_all.Goals as goal

pub returns-clause-finds : goal.returns-clause-finds
returns-clause-finds g c =
    λ t. all_found (g.H.Host.model.contents c.args.host.now) (g.H.Host.model.contents c.take_rest.new.host) c.args.kept.now.items
    c.take_kept.new.kept.items c.take_rest.new.kept.items c.args.pipe c.in-Ok.front c.in-Ok.ensures.taken c.args.n c.take_rest.result
    (c.take_rest.ensures.finds t)

pub returns-clause-err : goal.returns-clause-err
returns-clause-err g c =
    λ t. all_failed (g.H.Host.model.contents c.args.host.now) (g.H.Host.model.contents c.take_rest.new.host) c.args.kept.now.items
    c.take_kept.new.kept.items c.take_rest.new.kept.items c.args.pipe c.in-Ok.front c.in-Ok.ensures.taken c.take_rest.result
    (c.take_rest.ensures.err t)

pub returns-clause-uses : goal.returns-clause-uses
returns-clause-uses g c =
    takes_all g.H.Host.model c.args.n (length c.in-Ok.front) c.take_rest.result c.args.host.now c.take_rest.new.host c.in-Ok.ensures.most
    c.take_rest.ensures.uses

pub returns-clause-kept : goal.returns-clause-kept
returns-clause-kept g c =
    let e = c.take_rest.ensures in
    after_front c.args.kept.now.items c.take_kept.new.kept.items c.take_rest.new.kept.items c.args.pipe c.args.n c.in-Ok.front c.take_rest.result
    c.requires.few.0 c.in-Ok.ensures.taken c.in-Ok.ensures.left e.some (same_items _ _ c.take_rest.result e.kept) e.short e.after
