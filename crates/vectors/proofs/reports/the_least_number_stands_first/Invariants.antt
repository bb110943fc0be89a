use Rattle.vectors.proofs.reports.the_least_number_stands_first.Given as goal

-- the ledger is that of the blank
abbrev pub ghosts-reports : goal.ghosts-reports
ghosts-reports g a = record { name = a.blank.name; parts = a.blank.parts }
