use Rattle.store_vectors.proofs.images.new_image_written.Given as goal

-- the ledger is that of the blank
abbrev pub ghosts-new_written : goal.ghosts-new_written
ghosts-new_written g a = record { name = a.blank.name; parts = a.blank.parts }
