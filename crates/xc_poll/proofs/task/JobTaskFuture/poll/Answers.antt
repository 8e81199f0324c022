use Rattle.std.proofs.Common.{◌≤◌, Some, ap, subst, sym, ◌∙◌}
use Rattle.xc_poll.specs.Tasks.{Task, known_of}
use Rattle.xc_poll.specs.Polls.{IsPolled, IsRound}
use Rattle.xc_poll.proofs.Rounds.{polled_again, polled_waits}
use Rattle.xc_poll.proofs.task.JobTaskFuture.poll.Goals as goal

pub returns-then-self-clause-polled : goal.returns-then-self-clause-polled
returns-then-self-clause-polled g c =
    polled_again c.args.self.now (subst (λ (t : Task). 1 ≤ t.share) c.self.view_is c.self.invariant.2)
    (sym (ap (λ (t : Task). t.ready) c.self.view_is) ∙ c.if-self.true) (sym (ap (λ (t : Task). t.why) c.self.view_is) ∙ c.self.invariant.3 c.if-self.true)

pub returns-in-Waits-clause-polled : goal.returns-in-Waits-clause-polled
returns-in-Waits-clause-polled g c =
    let i = c.self.inside in
    let new : Task = record {
      home = i.shop.now.table.shared.table_id;
      pass = c.take_turns-pass.result.0;
      job = i.job;
      share = i.share;
      ready = i.ready;
      why = Some c.in-Waits.why;
    } in
    subst (λ (t : Task). IsPolled t new c.yield_now.result) c.self.view_is
    (polled_waits i.shop.now.table.shared.table_id c.in-Some.pass c.take_turns-pass.result.0 i.pass i.job i.share i.ready i.why c.in-Waits.why
    c.yield_now.result (ap known_of (sym c.take.ensures.value ∙ c.in-Some.is)) c.self.invariant.2 c.if-self.false c.yield_now.ensures.pending
    (subst (IsRound c.in-Some.pass c.take_turns-pass.result.0 i.job i.share) c.in-Waits.is c.take_turns-pass.ensures))
