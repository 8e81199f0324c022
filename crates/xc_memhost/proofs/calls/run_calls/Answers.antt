use Rattle.std.proofs.Common.{inl, inr, arith}
use Rattle.std.proofs.lemmas.Grind.{common_steps}
use Rattle.xc_memhost.proofs.Calling.{made_more, memory_stopped_at}
use Rattle.xc_memhost.proofs.calls.run_calls.Goals as goal

pub returns-in_err-ask-clause-memory : goal.returns-in_err-ask-clause-memory
returns-in_err-ask-clause-memory c =
    memory_stopped_at _ _ _ _ _ _ _ c.loop-call.invariant.made c.loop-call-test.true c.call-item.is (inr c.in_err-ask.ensures.memory)

pub returns-in_err-push-clause-memory : goal.returns-in_err-push-clause-memory
returns-in_err-push-clause-memory c =
    memory_stopped_at _ _ _ _ _ _ _ c.loop-call.invariant.made c.loop-call-test.true c.call-item.is (inl c.in_ok-ask.ensures.state)

pub loop-call-preserved : goal.loop-call-preserved
loop-call-preserved c =
    record {
      told = grind (arith, common_steps);
      made = made_more _ _ _ _ _ _ c.loop-call.invariant.made c.loop-call-test.true c.call-item.is c.in_ok-ask.ensures.state;
      allowed = grind (arith, common_steps);
    }
