use Rattle.vectors.proofs.two_trees.a_tree_answers_as_a_plain_one_does.Given as goal

-- the ledger is that of the blank
abbrev pub ghosts-two_trees : goal.ghosts-two_trees
ghosts-two_trees g a = record { name = a.blank.name; parts = a.blank.parts }
