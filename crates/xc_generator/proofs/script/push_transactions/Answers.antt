use Rattle.std.proofs.Common.{arith, ◌∙◌, ap, ◌++◌, string_bytes}
use Rattle.xc_generator.specs.Generated.{transaction, transfer_lines}
use Rattle.xc_generator.proofs.Runs.{text_printed, texts_printed, next_transaction, next_state}
use Rattle.xc_generator.proofs.script.push_transactions.Goals as goal

pub loop-preserved : goal.loop-preserved
loop-preserved c = (
  text_printed (transaction c.args.draws.now.state) c.loop.counter c.loop.counter c.args.count _ _ _ (omega arith)
      (c.in_ok-push_transfer.ensures
      ∙ ap (λ t. string_bytes c.loop.out ++ transfer_lines t) c.transfer.ensures.value
      ∙ ap (λ bs. string_bytes c.loop.out ++ bs) (next_transaction c.args.draws.now.state c.loop.draws.state c.loop.counter c.loop.invariant.1))
      c.loop.invariant.0,
  next_state c.args.draws.now.state c.loop.draws.state _ c.loop.counter c.loop.invariant.1 c.transfer.ensures.state,
)

pub returns-clause-text : goal.returns-clause-text
returns-clause-text c = texts_printed (transaction c.args.draws.now.state) _ c.loop.counter c.args.count _ _ (omega arith) c.loop.invariant.0
