use Rattle.xc_turnstile.specs.Insides.{PassGoesOn}
use Rattle.xc_runner.specs.Walks.{Leads, turning}
use Rattle.xc_runner.proofs.worker.work_job.Given as goal

-- turns of this job were taken, and none of them was the last
abbrev pub invariant-loop : goal.invariant-loop
invariant-loop g l =
    record {
      runs : (goal.iterator-loop g).can_next l.iterator' × (goal.iterator-loop g).is_finite l.iterator';
      goes : PassGoesOn l.fn.pass l.mine;
      story : Leads (turning l.job) l.fn.pass l.mine (turning l.job);
    }
