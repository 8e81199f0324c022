use Rattle.xc_locks.proofs.claims.Claims.claim.Given as goal

-- the ledger is that of the blank
abbrev pub ghosts-hold_all : goal.ghosts-hold_all
ghosts-hold_all a = record { name = a.blank.name; parts = a.blank.parts }
