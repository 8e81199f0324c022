use Rattle.std.proofs.Common.{◌≡◌, ◌++◌, drop}
use Rattle.xc_print.specs.Objects.{further_claims}
use Rattle.xc_print.proofs.objects.push_further.Given as goal

-- what is printed and what is left are all
abbrev pub invariant-loop-claim : goal.invariant-loop-claim
invariant-loop-claim g l = g.P.Paper.said l.out ++ further_claims (drop l.claim-index l.claims) ≡ g.P.Paper.said l.fn.out ++ further_claims l.claims
