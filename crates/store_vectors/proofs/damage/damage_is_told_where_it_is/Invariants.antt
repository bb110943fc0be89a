use Rattle.store_vectors.proofs.damage.damage_is_told_where_it_is.Given as goal

-- the ledger is that of the blank
abbrev pub ghosts-damages : goal.ghosts-damages
ghosts-damages g a = record { name = a.blank.name; parts = a.blank.parts }
