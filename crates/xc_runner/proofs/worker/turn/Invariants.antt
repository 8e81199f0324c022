use Rattle.xc_turnstile.specs.Insides.{IsOutside}
use Rattle.xc_runner.proofs.worker.turn.Given as goal

-- the pass lost now and then, and is else as it was
abbrev pub invariant-loop : goal.invariant-loop
invariant-loop g l =
    record {
      runs : (goal.iterator-loop g).can_next l.iterator' × (goal.iterator-loop g).is_finite l.iterator';
      outside : IsOutside l.fn.pass l.mine;
    }
