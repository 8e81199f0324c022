use Rattle.xc_data.specs.declared.call.CallWithAnswer.{CallWithAnswer}
use Rattle.xc_machine.proofs.MachineTraces.{record_left_at, traces_more}
use Rattle.xc_machine.proofs.traced.Trail.take_call.Goals as goal

pub returns : goal.returns
returns c = λ tx b answer left traces.
    let asked : CallWithAnswer = record { call = c.args.call.now; answer = answer } in
    let gave = c.in_ok-push.ensures in
    c.mark.ensures _ (traces_more tx c.args.self.now c.push.new.self b asked traces (gave.records (record_left_at tx b.now asked) left) gave.saved)
