use Rattle.std.proofs.Common.{sym, ◌∙◌}
use Rattle.xc_deferred.proofs.Next.{next_at}
use Rattle.xc_deferred.proofs.late.Late.next_thread.Goals as goal

pub returns : goal.returns
returns c =
    c.thread_in.ensures
    ∙ sym (next_at c.args.self.now c.self.inside.calls.items c.self.inside.ends.items c.len.result c.get.result.now c.self.view_is c.len.ensures
    c.get.ensures)
