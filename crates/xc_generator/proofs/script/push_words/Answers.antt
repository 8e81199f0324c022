use Rattle.std.proofs.Common.{rules, arith}
use Rattle.xc_generator.specs.Generated.{generated_word_line}
use Rattle.xc_generator.proofs.Runs.{text_printed, texts_printed}
use Rattle.xc_generator.proofs.script.push_words.Goals as goal

pub loop-index-preserved : goal.loop-index-preserved
loop-index-preserved c =
    text_printed generated_word_line c.loop-index.index-counter c.loop-index.index-counter c.args.count _ _ _ (omega arith) (search rules)
    c.loop-index.invariant

pub returns : goal.returns
returns c = texts_printed generated_word_line _ c.loop-index.index-counter c.args.count _ _ (omega arith) c.loop-index.invariant
