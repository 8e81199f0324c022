use Rattle.xc_text.proofs.Indexing.{no_index}
use Rattle.xc_text.proofs.block_names.BlockNames.new.Goals as goal

pub invariant_of-result : goal.invariant_of-result
invariant_of-result c = rw (c.new-3.ensures, c.new-2.ensures, c.new.ensures) no_index
