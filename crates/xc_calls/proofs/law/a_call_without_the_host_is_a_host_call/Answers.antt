use Rattle.xc_calls.proofs.HostCalls.{alone_call}
use Rattle.xc_calls.proofs.law.a_call_without_the_host_is_a_host_call.Goals as goal

pub returns : goal.returns
returns g c = alone_call g.H.Host.model
