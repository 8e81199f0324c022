use Rattle.xc_locks.proofs.claims.Claims.claim_one.Given as goal

-- the ledger is that of the blank
abbrev pub ghosts-claim_object : goal.ghosts-claim_object
ghosts-claim_object a = record { name = a.blank.name; parts = a.blank.parts }
