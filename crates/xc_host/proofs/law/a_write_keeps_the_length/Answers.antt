use Rattle.xc_host.proofs.Writes.{keeps_length}
use Rattle.xc_host.proofs.law.a_write_keeps_the_length.Goals as goal

pub returns : goal.returns
returns c = keeps_length
