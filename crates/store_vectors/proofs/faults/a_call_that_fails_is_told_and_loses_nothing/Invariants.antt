use Rattle.store_vectors.proofs.faults.a_call_that_fails_is_told_and_loses_nothing.Given as goal

-- the ledger is that of the blank
abbrev pub ghosts-faults : goal.ghosts-faults
ghosts-faults g a = record { name = a.blank.name; parts = a.blank.parts }
