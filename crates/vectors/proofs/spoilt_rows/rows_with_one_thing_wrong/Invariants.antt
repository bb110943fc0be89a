use Rattle.vectors.proofs.spoilt_rows.rows_with_one_thing_wrong.Given as goal

-- the ledger is that of the blank
abbrev pub ghosts-all_refused : goal.ghosts-all_refused
ghosts-all_refused g a = record { name = a.blank.name; parts = a.blank.parts }
