use Rattle.xc_world.proofs.GivenBeside.{data_elsewhere}
use Rattle.xc_world.proofs.beside.a_call_on_files_speaks_of_no_data.Goals as goal

pub returns : goal.returns
returns c = λ me tx words call items is. data_elsewhere me words tx call items is
