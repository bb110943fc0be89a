use Rattle.vectors.proofs.rows_back.rows_there_and_back.Given as goal

-- the ledger is that of the blank
abbrev pub ghosts-engines : goal.ghosts-engines
ghosts-engines g a = record { name = a.blank.name; parts = a.blank.parts }
