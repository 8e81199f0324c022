use Rattle.std.proofs.Common.{◌≡◌, drop}
use Rattle.xc_data.specs.Claims.{holding}
use Rattle.xc_machine.proofs.held.hold.Given as goal

-- the claims that are left add what all add to the first ones
abbrev pub invariant-loop-claim : goal.invariant-loop-claim
invariant-loop-claim l = holding l.held.items (drop l.claim-index l.claims) ≡ holding l.fn.held.items l.claims
