use Rattle.xc_locks.proofs.Whole.{coherent_empty}
use Rattle.xc_locks.proofs.claims.Claims.new.Goals as goal

pub returns-clause-coherent : goal.returns-clause-coherent
returns-clause-coherent c = coherent_empty c.new.result c.new.ensures

pub invariant_of-result : goal.invariant_of-result
invariant_of-result c = coherent_empty c.new.result c.new.ensures
