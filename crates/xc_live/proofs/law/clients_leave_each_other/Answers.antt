use Rattle.xc_live.proofs.Others.{alone_leaves, call_leaves, client_leaves}
use Rattle.xc_live.proofs.law.clients_leave_each_other.Goals as goal

pub returns-clause-begun : goal.returns-clause-begun
returns-clause-begun g c client answer desk turned = client_leaves g.H.Host.model client answer desk.old desk.new turned

pub returns-clause-ended : goal.returns-clause-ended
returns-clause-ended g c client asked desk alone = alone_leaves g.H.Host.model client asked desk.old desk.new alone

pub returns-clause-called : goal.returns-clause-called
returns-clause-called g c client call desk made = call_leaves g.H.Host.model client call desk made
