use Rattle.store_vectors.proofs.runs.run_words.Given as goal

-- the ledger is that of the blank
abbrev pub ghosts-run_counted : goal.ghosts-run_counted
ghosts-run_counted a = record { name = a.blank.name; parts = a.blank.parts }
