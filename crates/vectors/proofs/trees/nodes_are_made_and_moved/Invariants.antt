use Rattle.vectors.proofs.trees.nodes_are_made_and_moved.Given as goal

-- the ledger is that of the blank
abbrev pub ghosts-trees : goal.ghosts-trees
ghosts-trees g a = record { name = a.blank.name; parts = a.blank.parts }
