use Rattle.xc_turn_tests.proofs.tests.sentinels.an_end_leaves_nobody.Given as goal

-- the ledger is that of the blank
abbrev pub ghosts-end : goal.ghosts-end
ghosts-end g a = record { name = a.blank.name; parts = a.blank.parts }
