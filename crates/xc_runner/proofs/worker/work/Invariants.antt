use Rattle.xc_turnstile.specs.Insides.{PassGoesOn}
use Rattle.xc_runner.specs.Walks.{Leads, picking}
use Rattle.xc_runner.proofs.worker.work.Given as goal

-- jobs were taken, each to its end
abbrev pub invariant-loop : goal.invariant-loop
invariant-loop g l =
    record {
      runs : (goal.iterator-loop g).can_next l.iterator' × (goal.iterator-loop g).is_finite l.iterator';
      goes : PassGoesOn l.fn.pass l.mine;
      story : Leads picking l.fn.pass l.mine picking;
    }
