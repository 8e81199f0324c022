use Rattle.xc_serial.proofs.Finals.{plain_end}
use Rattle.xc_serial.proofs.runs.a_run_without_faults_has_the_plain_text.Goals as goal

pub returns : goal.returns
returns c = plain_end
