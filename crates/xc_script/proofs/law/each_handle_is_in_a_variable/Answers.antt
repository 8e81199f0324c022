use Rattle.std.proofs.Common.{sym, ◌∙◌}
use Rattle.xc_world.proofs.Laws.{length-handles_of}
use Rattle.xc_script.proofs.law.each_handle_is_in_a_variable.Goals as goal

pub returns : goal.returns
returns c = λ script is. length-handles_of 0 script.outline.prologue.objects ∙ sym is.handles
