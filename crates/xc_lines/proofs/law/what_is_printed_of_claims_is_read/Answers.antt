use Rattle.std.proofs.Common.{◌++◌, ◌∷◌}
use Rattle.xc_print.specs.Objects.{further_claims}
use Rattle.xc_lines.proofs.HeldLaws.{claim_again, claims_again, further_end, further_other}
use Rattle.xc_lines.proofs.law.what_is_printed_of_claims_is_read.Goals as goal

pub returns-clause-first : goal.returns-clause-first
returns-clause-first c = λ claim claims rest within.
    claim_again claim (further_claims claims ++ 10 ∷ rest) within (further_end claims rest) (further_other claims rest)

pub returns-clause-others : goal.returns-clause-others
returns-clause-others c = claims_again
