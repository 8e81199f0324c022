use Rattle.xc_script.proofs.Handles.{last_of_script}
use Rattle.xc_script.proofs.law.a_variable_holds_its_last_handle.Goals as goal

pub returns : goal.returns
returns c = λ script h v is last. last_of_script script h v is last
