use Rattle.std.proofs.Common.{◌∷◌, ◌++◌, [], ap, ◌∙◌}
use Rattle.xc_locks.specs.Words.{words_of}
use Rattle.xc_locks.proofs.ByWord.{words_of-push}
use Rattle.xc_locks.proofs.words.grow.Goals as goal

pub loop-holders-preserved : goal.loop-holders-preserved
loop-holders-preserved c =
    ap words_of (c.in_ok-push.ensures.items ∙ ap (λ m. c.loop-holders.holders.items ++ m ∷ []) c.nobody.ensures)
    ∙ words_of-push c.loop-holders.holders.items ∙ c.loop-holders.invariant
