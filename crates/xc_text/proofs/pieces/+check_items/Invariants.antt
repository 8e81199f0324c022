use Rattle.std.proofs.Common.{length}
use Rattle.xc_text.proofs.pieces.+check_items.Given as goal

abbrev pub decreases-check_items : goal.decreases-check_items
decreases-check_items l = length l.tokens.now
