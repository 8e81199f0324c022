use Rattle.std.proofs.Common.{refl}
use Rattle.xc_data.specs.declared.call.CallWithAnswer.{CallWithAnswer}
use Rattle.xc_machine.proofs.MachineBlocks.{stands_more}
use Rattle.xc_machine.proofs.body.MachineBody.make_call.Goals as goal

pub returns-clause-stands : goal.returns-clause-stands
returns-clause-stands c = λ b stands.
    let asked : CallWithAnswer = record { call = c.args.call.now; answer = c.args.answer } in
    let gave = c.in_ok-reply.ensures in
    let made = c.args.self.now in
    c.in_ok-mark.ensures.stands _
    (stands_more c.args.tx c.args.world.now c.take_call.new.world c.args.me.now c.take_call.new.me made (record made { replied = c.take_call.new.self }) b asked
    (record { late = gave.late; held = gave.held }) refl gave.world gave.me stands)
