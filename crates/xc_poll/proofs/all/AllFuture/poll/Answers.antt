use Rattle.std.proofs.Common.{sym, ◌∙◌}
use Rattle.xc_poll.proofs.Moves.{pending_gives, pending_polled, ready_gives, ready_polled}
use Rattle.xc_poll.proofs.all.AllFuture.poll.Goals as goal

pub returns-then-is_over-clause-value : goal.returns-then-is_over-clause-value
returns-then-is_over-clause-value g c =
    ready_gives c.args.self.now c.in-Some.crew c.poll_tasks.new.self c.ask_all-last.new.self c.ask_all-last.result
    (sym c.in-Some.is ∙ (c.take.ensures.value ∙ c.self.view_is)) c.poll_tasks.ensures.same c.poll_tasks.ensures.polled c.ask_all-last.ensures
    c.gathered.result (sym c.is_over.ensures.over ∙ c.if-is_over.true) c.gathered.ensures

pub returns-then-is_over-clause-polled : goal.returns-then-is_over-clause-polled
returns-then-is_over-clause-polled g c =
    ready_polled c.args.self.now c.in-Some.crew c.poll_tasks.new.self c.ask_all-last.new.self c.ask_all-last.result
    (sym c.in-Some.is ∙ (c.take.ensures.value ∙ c.self.view_is)) c.poll_tasks.ensures.same c.poll_tasks.ensures.polled c.ask_all-last.ensures
    c.take.new.self c.gathered.result c.take.ensures.after c.is_over.ensures.rise (sym c.is_over.ensures.over ∙ c.if-is_over.true) c.gathered.ensures

pub returns-clause-same : goal.returns-clause-same
returns-clause-same g c =
    pending_gives c.args.self.now c.in-Some.crew c.poll_tasks.new.self c.ask_all-last.new.self c.ask_all-last.result
    (sym c.in-Some.is ∙ (c.take.ensures.value ∙ c.self.view_is)) c.poll_tasks.ensures.same c.poll_tasks.ensures.polled c.ask_all-last.ensures
    c.yield_now.result c.yield_now.ensures.pending

pub returns-clause-polled : goal.returns-clause-polled
returns-clause-polled g c =
    pending_polled c.args.self.now c.in-Some.crew c.poll_tasks.new.self c.ask_all-last.new.self c.ask_all-last.result
    (sym c.in-Some.is ∙ (c.take.ensures.value ∙ c.self.view_is)) c.poll_tasks.ensures.same c.poll_tasks.ensures.polled c.ask_all-last.ensures
    c.yield_now.result c.yield_now.ensures.pending c.is_over.ensures.rise (sym c.is_over.ensures.over ∙ c.if-is_over.false)
