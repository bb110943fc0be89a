use Rattle.store_vectors.proofs.migration.an_old_store_becomes_a_new_one.Given as goal

-- the ledger is that of the blank
abbrev pub ghosts-migrations : goal.ghosts-migrations
ghosts-migrations g a = record { name = a.blank.name; parts = a.blank.parts }
