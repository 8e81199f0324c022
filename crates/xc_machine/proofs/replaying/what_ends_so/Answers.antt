use Rattle.xc_machine.proofs.MachineReplay.{to_lates, from_lates, led_to}
use Rattle.xc_machine.proofs.replaying.what_ends_so.Goals as goal

pub returns-clause-ends : goal.returns-clause-ends
returns-clause-ends c = λ w calls ends. (to_lates w calls ends, from_lates w calls ends)

pub returns-clause-world : goal.returns-clause-world
returns-clause-world c = led_to
