use Rattle.xc_meet.proofs.Others.{all_served}
use Rattle.xc_meet.proofs.run.serve_boxed.Goals as goal

pub returns-in-Ok-clause-sessions : goal.returns-in-Ok-clause-sessions
returns-in-Ok-clause-sessions g c =
    let told = g.Ls.Links.told in
    let left = c.serve_all-pass.result in
    all_served g.L.Duplex.told c.in-Ok.pass left.0 (told c.args.links) (told left.1) c.args.backwards left.2 c.args.count c.close.result.value.journal
    c.reverse.new.self.items c.serve_all-pass.ensures c.close.ensures.0 c.reverse.ensures.items
