use Rattle.vectors.proofs.scans.a_scan_has_its_folder_to_visit.Given as goal

-- the ledger is that of the blank
abbrev pub ghosts-scans : goal.ghosts-scans
ghosts-scans g a = record { name = a.blank.name; parts = a.blank.parts }
