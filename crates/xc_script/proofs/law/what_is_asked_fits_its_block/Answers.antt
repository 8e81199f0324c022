use Rattle.std.specs.Prelude.{is_some}
use Rattle.xc_script.specs.Blocks.{all_replied, block_from}
use Rattle.xc_script.proofs.Opened.{all_inner, begins_inner, asks_inner}
use Rattle.xc_script.proofs.law.what_is_asked_fits_its_block.Goals as goal

pub returns : goal.returns
returns c = λ script job replies is.
    let b = all_replied (block_from script job) replies in
    asks_inner (is_some b.saved) b.walk.variables b.walk.stored b.walk.refused b.walk.left
    (all_inner (block_from script job) replies (begins_inner script job is))
