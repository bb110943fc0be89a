use Rattle.store_vectors.proofs.stops.a_crash_keeps_all_that_was_acknowledged.Given as goal

-- the ledger is that of the blank
abbrev pub ghosts-stops : goal.ghosts-stops
ghosts-stops g a = record { name = a.blank.name; parts = a.blank.parts }
