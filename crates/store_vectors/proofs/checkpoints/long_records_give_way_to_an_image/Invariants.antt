use Rattle.store_vectors.proofs.checkpoints.long_records_give_way_to_an_image.Given as goal

-- the ledger is that of the blank
abbrev pub ghosts-changes : goal.ghosts-changes
ghosts-changes g a = record { name = a.blank.name; parts = a.blank.parts }
