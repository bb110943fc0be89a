use Rattle.store_vectors.proofs.syncs.a_group_is_made_stable_at_once.Given as goal

-- the ledger is that of the blank
abbrev pub ghosts-groups : goal.ghosts-groups
ghosts-groups g a = record { name = a.blank.name; parts = a.blank.parts }
