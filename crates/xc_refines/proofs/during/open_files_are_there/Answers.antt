use Rattle.xc_refines.proofs.OpenFiles.{open_files}
use Rattle.xc_refines.proofs.during.open_files_are_there.Goals as goal

pub returns : goal.returns
returns c = λ s now at tx h told all active runs. open_files s now all at active.0 tx active.1 active.2 runs h
