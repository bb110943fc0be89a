use Rattle.vectors.proofs.many_files.the_usage_is_the_sum_of_many_files.Given as goal

-- the ledger is that of the blank
abbrev pub ghosts-large_engine : goal.ghosts-large_engine
ghosts-large_engine g a = record { name = a.blank.name; parts = a.blank.parts }
