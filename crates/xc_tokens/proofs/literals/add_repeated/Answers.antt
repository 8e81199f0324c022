use Rattle.std.proofs.Common.{arith}
use Rattle.std.proofs.lemmas.Grind.{common_steps}
use Rattle.xc_tokens.proofs.LiteralLemmas.{repeat_nothing, repeat_more}
use Rattle.xc_tokens.proofs.literals.add_repeated.Goals as goal

pub returns-then-is_empty : goal.returns-then-is_empty
returns-then-is_empty c = grind (arith, common_steps, repeat_nothing)

pub loop-preserved : goal.loop-preserved
loop-preserved c = grind (arith, common_steps, repeat_more)
