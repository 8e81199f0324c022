use Rattle.xc_machine.proofs.MachineReplay.{to_body, from_body}
use Rattle.xc_machine.proofs.replaying.what_is_replayed.Goals as goal

pub returns : goal.returns
returns c = λ w me tx calls replies. (to_body w me tx calls replies, from_body w me tx calls replies)
