use Rattle.xc_model.specs.Progress.{opening_progress}
use Rattle.xc_serial.proofs.Finals.{all_are_done}
use Rattle.xc_serial.proofs.Remains.{nothing_remains}
use Rattle.xc_turns.proofs.Laws.{joint_of_parts}
use Rattle.xc_serial.proofs.runs.an_undisturbed_run_is_done.Goals as goal

pub returns-clause-done : goal.returns-clause-done
returns-clause-done c = all_are_done

pub returns-clause-nothing : goal.returns-clause-nothing
returns-clause-nothing c =
    λ s entries final some whole. let joint = joint_of_parts s entries whole.journal in
    nothing_remains s (opening_progress s.script) joint.lasts entries some joint.entries
