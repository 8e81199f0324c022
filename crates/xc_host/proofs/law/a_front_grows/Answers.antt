use Rattle.xc_host.proofs.Writes.{front_grows}
use Rattle.xc_host.proofs.law.a_front_grows.Goals as goal

pub returns : goal.returns
returns c = front_grows
