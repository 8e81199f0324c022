use Rattle.xc_lines.proofs.TailLaws.{kind_again, undo_end_again, standing_again}
use Rattle.xc_lines.proofs.law.what_is_printed_of_an_abort_is_read.Goals as goal

pub returns-clause-kind : goal.returns-clause-kind
returns-clause-kind c = kind_again

pub returns-clause-undo : goal.returns-clause-undo
returns-clause-undo c = undo_end_again

pub returns-clause-effect : goal.returns-clause-effect
returns-clause-effect c = standing_again
