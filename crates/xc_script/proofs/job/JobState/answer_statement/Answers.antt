use Rattle.std.proofs.Common.{◌≡◌, ◌∙◌, ◌+◌, Some, ap, sym, subst, arith}
use Rattle.std.specs.Option.{option_copied}
use Rattle.xc_script.specs.Answers.{answered, bound}
use Rattle.xc_script.specs.Walks.{stored_after}
use Rattle.xc_script.specs.Position.{Position, walk_of, IsPastSilent, IsAskedCall, job_of}
use Rattle.xc_script.specs.Ask.{next_body}
use Rattle.xc_script.specs.contracts.job.JobState.{the_view}
use Rattle.xc_script.proofs.Backs.{answer_at}
use Rattle.xc_script.proofs.job.JobState.answer_statement.Goals as goal

pub returns-clause-ok : goal.returns-clause-ok
returns-clause-ok c =
    let old : Position = the_view c.self.inside in
    let new : Position = the_view (record c.self.inside {
      variables = c.bind.new.variables;
      at = c.self.inside.at + 1;
      stored = c.stored_after-self-inside.result;
      refused = c.refuses-self-inside.result;
    }) in
    let was : next_body c.args.script.now (job_of old) ≡ Some c.in-Some.body.now = sym c.body_at.ensures ∙ ap option_copied c.in-Some.is in
    subst (λ (p : Position). walk_of c.args.script.now new ≡ answered (walk_of c.args.script.now p) c.args.reply.now) c.self.view_is
    (answer_at c.args.script.now old new c.in-Some.body.now c.in-Some-get.statement.now c.args.reply.now was was
    (subst (IsPastSilent c.args.script.now) (sym c.self.view_is) c.requires.settled)
    (subst (IsAskedCall c.args.script.now) (sym c.self.view_is) c.requires.asked)
    c.in-Some-get.ensures.lookup.3.0 c.in-Some-get.ensures.lookup.1 (omega arith)
    (c.in_ok-bind.ensures.ok ∙ ap (λ t. bound c.self.inside.variables t c.args.reply.now) c.target_of.ensures)
    (c.stored_after-self-inside.ensures.value ∙ ap (λ n. stored_after c.self.inside.stored n c.args.reply.now) c.carried-carried.ensures.value)
    c.refuses-self-inside.ensures)
