use Rattle.std.proofs.Common.{rules}
use Rattle.xc_tokens.proofs.LiteralLemmas.{length-repeat}
use Rattle.xc_tokens.proofs.literals.size.Goals as goal

pub returns-in-Plain-clause-value : goal.returns-in-Plain-clause-value
returns-in-Plain-clause-value c = search (rules, length-repeat)

pub returns-in-Escaped-clause-value : goal.returns-in-Escaped-clause-value
returns-in-Escaped-clause-value c = search (rules, length-repeat)
