use Rattle.xc_script.proofs.Handles.{none_of_script}
use Rattle.xc_script.proofs.law.other_variables_hold_nothing.Goals as goal

pub returns : goal.returns
returns c = λ script v none. none_of_script script v none
