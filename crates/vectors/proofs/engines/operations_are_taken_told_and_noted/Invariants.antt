use Rattle.vectors.proofs.engines.operations_are_taken_told_and_noted.Given as goal

-- the ledger is that of the blank
abbrev pub ghosts-engines : goal.ghosts-engines
ghosts-engines g a = record { name = a.blank.name; parts = a.blank.parts }
