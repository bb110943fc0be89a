use Rattle.vectors.proofs.finishes.scans_finish_at_once_or_are_given_up.Given as goal

-- the ledger is that of the blank
abbrev pub ghosts-engines : goal.ghosts-engines
ghosts-engines g a = record { name = a.blank.name; parts = a.blank.parts }
