use Rattle.vectors.proofs.many_names.names_lead_to_their_nodes.Given as goal

-- the ledger is that of the blank
abbrev pub ghosts-trees : goal.ghosts-trees
ghosts-trees g a = record { name = a.blank.name; parts = a.blank.parts }
